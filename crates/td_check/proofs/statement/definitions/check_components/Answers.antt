use Rattle.std.proofs.Common.{ℕ, List, option_map, subst}
use Rattle.std.proofs.lemmas.Result.{err_from_is_err_and}
use Rattle.std.specs.Global.{Vec}
use Rattle.std.specs.Prelude.{Option, ⊤}
use Rattle.td_check.proofs.StatementAnswers.{component_twice, components_had, components_refused, given_is, parts_asked}
use Rattle.td_check.specs.model.StatementTypes.{constraint_fits}
use Rattle.td_tree.specs.model.Outcomes.{Answers}
use Rattle.td_tree.specs.model.Trees.{Tree}
use Rattle.td_tree.specs.code.TreeViews.{heading_tree_view, tree_view}
use Rattle.td_types.specs.code.Views.{pairs_view}
use Rattle.td_types.specs.declared.ty.Ty.{Ty}
use Rattle.td_check.proofs.statement.definitions.check_components.Goals as goal

pub returns-in_err-components : goal.returns-in_err-components
returns-in_err-components c =
    let e = err_from_is_err_and c.from_residual.result c.from_residual.ensures.1 in
    rw (e.1, e.2)
    (components_refused c.args.scope.now.types (heading_tree_view c.args.definition.now.components.items)
    (parts_asked c.args.scope.now (option_map tree_view c.args.definition.now.constraint)) (λ (a : Vec (List ℕ × Ty)). pairs_view a.items) _
    (rw (c.types.ensures, c.deref.ensures.value) at c.in_err-components.ensures))

pub returns-in_err-heading : goal.returns-in_err-heading
returns-in_err-heading c =
    let e = err_from_is_err_and c.from_residual-in_err-heading.result c.from_residual-in_err-heading.ensures.1 in
    rw (e.1, e.2)
    (component_twice c.args.scope.now.types (heading_tree_view c.args.definition.now.components.items)
    (parts_asked c.args.scope.now (option_map tree_view c.args.definition.now.constraint)) (pairs_view c.in_ok-components.components.items) _
    (rw (c.types.ensures, c.deref.ensures.value) at c.in_ok-components.ensures) c.in_err-heading.ensures.answer)

pub returns : goal.returns
returns c =
    let had = components_had c.args.scope.now.types (heading_tree_view c.args.definition.now.components.items)
    (parts_asked c.args.scope.now (option_map tree_view c.args.definition.now.constraint)) (pairs_view c.in_ok-components.components.items) c.in_ok-heading.heading
    (rw (c.types.ensures, c.deref.ensures.value) at c.in_ok-components.ensures) c.in_ok-heading.ensures.answer in
    rw had.0
    (c.both_hold.ensures _ _
    (subst (λ (t : Option Tree). Answers (λ (u : ⊤). u) c.constraint_fits-constraint.result (constraint_fits c.args.scope.now (pairs_view c.in_ok-components.components.items) t))
    (given_is tree_view c.as_ref.result c.args.definition.now.constraint c.as_ref.ensures.value)
    (c.constraint_fits-constraint.ensures (pairs_view c.in_ok-components.components.items) had.1))
    (rw (c.types-2.ensures, c.deref-2.ensures.value) at c.rank_fits-rank.ensures))
