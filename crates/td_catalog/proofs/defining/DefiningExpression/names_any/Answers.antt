use Rattle.std.proofs.Common.{◌∙◌, ℕ, Bool, List, ap}
use Rattle.std.specs.List.{list_any}
use Rattle.td_catalog.proofs.SameAny.{same_any}
use Rattle.td_catalog.specs.laws.NamedRelvars.{names_any}
use Rattle.td_check.proofs.NameSets.{names_are_a_set}
use Rattle.td_check.specs.model.Mentions.{name_set}
use Rattle.td_check.specs.laws.WrittenNames.{names_in}
use Rattle.td_tree.specs.code.TreeViews.{tree_view}
use Rattle.td_types.specs.model.Headings.{has_name}
use Rattle.td_catalog.proofs.defining.DefiningExpression.names_any.Goals as goal

pub returns : goal.returns
returns c =
    let test : List ℕ → Bool = λ n. has_name n c.args.relvars.now in
    let ns = names_in (tree_view c.self.inside.tree.value) in
    c.have_common.ensures ∙ ap (list_any test) (c.deref.ensures ∙ c.self.invariant)
    ∙ same_any test (name_set ns) ns (names_are_a_set ns)
    ∙ ap (names_any c.args.relvars.now) c.self.view_is
