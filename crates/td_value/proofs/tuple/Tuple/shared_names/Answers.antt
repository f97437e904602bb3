use Rattle.std.proofs.Common.{◌∙◌, ap, sym, subst}
use Rattle.td_value.specs.model.Values.{IsTuple, tuple_names}
use Rattle.td_value.specs.code.Zipped.{AreNames}
use Rattle.td_value.proofs.Cut.{names_of_tuple}
use Rattle.td_value.proofs.Made.{row_names}
use Rattle.td_value.proofs.tuple.Tuple.shared_names.Goals as goal

pub invariant_of-result : goal.invariant_of-result
invariant_of-result c =
    let b = c.self.inside.block.value in
    let own = ap (λ v. v.items) c.in_ok-names.ensures.cases ∙ ap (λ x. x.names.value.items) c.deref.ensures
    ∙ sym (row_names b.names.value.items b.width c.self.inside.start b.cells.items c.self.invariant) ∙ ap tuple_names c.self.view_is in
    subst AreNames (sym own) (names_of_tuple c.args.self.now (subst IsTuple c.self.view_is c.self.invariant.is_tuple))

pub returns : goal.returns
returns c =
    let b = c.self.inside.block.value in
    ap (λ v. v.items) c.in_ok-names.ensures.cases ∙ ap (λ x. x.names.value.items) c.deref.ensures
    ∙ sym (row_names b.names.value.items b.width c.self.inside.start b.cells.items c.self.invariant) ∙ ap tuple_names c.self.view_is
