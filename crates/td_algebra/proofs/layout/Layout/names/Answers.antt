use Rattle.std.proofs.Common.{◌∙◌, ap, subst, sym}
use Rattle.std.specs.List.Sorted.{IsStrictlySortedBy}
use Rattle.td_types.proofs.HeadingLaws.{name_cmp}
use Rattle.td_algebra.specs.code.Layouts.{source_names}
use Rattle.td_algebra.proofs.Layouts.{names_zipped}
use Rattle.td_algebra.proofs.layout.Layout.names.Goals as goal

pub returns-clause-names : goal.returns-clause-names
returns-clause-names c = sym (names_zipped c.self.inside.names c.self.inside.places.items c.self.invariant) ∙ ap source_names c.self.view_is

pub returns-clause-ascending : goal.returns-clause-ascending
returns-clause-ascending c =
    subst (IsStrictlySortedBy name_cmp) (sym (names_zipped c.self.inside.names c.self.inside.places.items c.self.invariant) ∙ ap source_names c.self.view_is) c.reveal.ensures
