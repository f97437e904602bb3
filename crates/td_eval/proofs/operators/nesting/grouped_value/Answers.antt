use Rattle.std.proofs.Common.{◌≡◌, ◌∙◌, subst}
use Rattle.std.specs.Prelude.{IfOk}
use Rattle.td_check.proofs.Gives.{answered_then}
use Rattle.td_eval.proofs.code_lemmas.NestedNames.{names_nest}
use Rattle.td_eval.specs.model.OperatorValues.{nested_names, of_relation}
use Rattle.td_group.specs.model.Nesting.{can_nest, grouped_relation}
use Rattle.td_tree.specs.model.Outcomes.{Valued}
use Rattle.td_tree.specs.code.TreeViews.{attributes_view}
use Rattle.td_eval.proofs.operators.nesting.grouped_value.Goals as goal

pub group-requires : goal.group-requires
group-requires c =
    let given : nested_names (attributes_view c.args.attributes.now) c.args.name.now c.args.rel.now.heading ≡ Valued c.in_ok-names.names.items =
    subst (λ h. nested_names (attributes_view c.args.attributes.now) c.args.name.now h ≡ Valued c.in_ok-names.names.items) c.heading.ensures c.in_ok-names.ensures in
    let can = names_nest (attributes_view c.args.attributes.now) c.args.name.now c.args.rel.now.heading c.in_ok-names.names.items given in
    (λ i. can_nest (c.deref.ensures.value i) (c.in_ok-try_clone.ensures i) c.args.rel.now.heading) ∙ can

pub returns : goal.returns
returns c =
    let given : nested_names (attributes_view c.args.attributes.now) c.args.name.now c.args.rel.now.heading ≡ Valued c.in_ok-names.names.items =
    subst (λ h. nested_names (attributes_view c.args.attributes.now) c.args.name.now h ≡ Valued c.in_ok-names.names.items) c.heading.ensures c.in_ok-names.ensures in
    answered_then (λ ns. ns.items) c.in_ok-names.names (nested_names (attributes_view c.args.attributes.now) c.args.name.now c.args.rel.now.heading)
    (λ names. of_relation (grouped_relation names c.args.name.now c.args.rel.now)) (λ v. v) c.as_value.result given
    (c.as_value.ensures (grouped_relation c.in_ok-names.names.items c.args.name.now c.args.rel.now)
    (subst (λ r. IfOk c.group.result (λ s. s ≡ r)) (λ i. grouped_relation (c.deref.ensures.value i) (c.in_ok-try_clone.ensures i) c.args.rel.now) c.group.ensures))
