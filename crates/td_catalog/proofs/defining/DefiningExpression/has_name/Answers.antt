use Rattle.std.proofs.Common.{◌∙◌, ap}
use Rattle.td_check.proofs.NameSets.{names_are_a_set}
use Rattle.td_check.specs.laws.WrittenNames.{names_in}
use Rattle.td_tree.specs.code.TreeViews.{tree_view}
use Rattle.td_types.specs.model.Headings.{has_name}
use Rattle.td_catalog.proofs.defining.DefiningExpression.has_name.Goals as goal

pub returns : goal.returns
returns c =
    let name = c.args.name.now in
    let ns = names_in (tree_view c.self.inside.tree.value) in
    c.includes.ensures ∙ ap (has_name name) (c.deref.ensures ∙ c.self.invariant) ∙ names_are_a_set ns name
    ∙ ap (λ e. has_name name (names_in e)) c.self.view_is
