use Rattle.std.proofs.Common.{◌∙◌, subst, sym}
use Rattle.std.proofs.lemmas.List.{length-map}
use Rattle.td_eval.specs.model.OperatorValues.{set_value}
use Rattle.td_eval.specs.model.TreeValues.{values_in_tuples}
use Rattle.td_eval.specs.code.LentWorlds.{tuples_in_hand, world_in}
use Rattle.td_plan.proofs.MadePlans.{as_many_set, extension_is_set}
use Rattle.td_plan.specs.code.Plans.{extension_of}
use Rattle.td_plan.specs.code.PlansOf.{scope_in}
use Rattle.td_tree.specs.model.Outcomes.{Answers}
use Rattle.td_tree.specs.code.TreeViews.{named_view}
use Rattle.td_types.specs.code.Pairs.{pair_view}
use Rattle.td_types.specs.code.Views.{pairs_view}
use Rattle.td_plan.proofs.values.set_in_tuples.Goals as goal

pub returns : goal.returns
returns g c = λ rules.
    let env = c.args.env.now in
    let r = c.args.rel.now in
    let xs = pairs_view c.args.attributes.items in
    let parts = named_view c.args.parts.now in
    let fs = values_in_tuples (world_in env) (tuples_in_hand env) parts in
    c.relation_of.ensures (set_value xs fs r)
    (subst (λ o. Answers (λ v. v) c.run_valued.result o)
    (extension_is_set xs fs r
    (length-map c.args.attributes.items pair_view ∙ c.requires.lengths ∙ sym (as_many_set (world_in env) (tuples_in_hand env) c.args.parts.now)) c.requires.distinct)
    (c.run_valued.ensures (scope_in env) (λ w s. extension_of xs (values_in_tuples w s parts) r)
    (c.in_ok-plan.ensures rules.relation.0 rules.relation.1 c.reveal_parts.ensures.names c.reveal_parts.ensures.texts rules.typed.0 rules.typed.1) rules.gives rules.tuples))
