use Rattle.std.proofs.Common.{◌∙◌, ap, arith, map, refl, subst, sym}
use Rattle.std.specs.Rc.{rc_str_bytes}
use Rattle.td_plan.proofs.PlannedBelow.{below}
use Rattle.td_plan.proofs.PlannedLists.{expressions_are}
use Rattle.td_plan.specs.code.TreeWeights.{weight}
use Rattle.td_plan.specs.code.Plans as plans
use Rattle.td_plan.specs.code.PlannedParts.{ArePlanned, IsPlanned, part_tree}
use Rattle.td_tree.proofs.code_lemmas.Rows.{binding_is, extend_is, extend_setting_is, headed_relation_is, relation_is, select_is, summarize_by_is, summarize_per_is, tuple_is}
use Rattle.td_tree.specs.code.TreeViews.{attributes_view, heading_tree_view, named_view, postfix_view, summaries_view, tree_view, trees_view}
use Rattle.td_tree.specs.model.Trees as trees
use Rattle.td_plan.proofs.making.planning.Planning.by_form.Goals as goal

pub returns-in-Literal : goal.returns-in-Literal
returns-in-Literal g c =
    let is = ap tree_view c.in-Literal.is in
    subst (IsPlanned c.args.self.now.planner.now.scope c.literal_step.result) (sym is) (c.literal_step.ensures c.args.self.now.planner.now.scope)

pub returns-in-Name : goal.returns-in-Name
returns-in-Name g c =
    let is = ap tree_view c.in-Name.is in
    subst (IsPlanned c.args.self.now.planner.now.scope c.name_step.result) (sym is) (c.name_step.ensures)

pub returns-in-Parentheses : goal.returns-in-Parentheses
returns-in-Parentheses g c =
    let is = ap tree_view c.in-Parentheses.is ∙ ap (λ x. trees.parentheses (tree_view x)) (sym c.deref.ensures) in
    subst (IsPlanned c.args.self.now.planner.now.scope c.step_of.result) (sym is) (c.step_of.ensures)

pub returns-in-Prefix : goal.returns-in-Prefix
returns-in-Prefix g c =
    let is = ap tree_view c.in-Prefix.is ∙ ap (λ x. trees.prefix c.in-Prefix.op (tree_view x)) (sym c.deref-in-Prefix.ensures) in
    subst (IsPlanned c.args.self.now.planner.now.scope c.monadic_step.result) (sym is)
    (c.monadic_step.ensures c.args.self.now.planner.now.scope (plans.prefix c.in-Prefix.op) (tree_view c.deref-in-Prefix.result.now) refl c.boxed_step.ensures)

pub returns-in-Extract : goal.returns-in-Extract
returns-in-Extract g c =
    let is = ap tree_view c.in-Extract.is ∙ ap (λ x. trees.extract c.in-Extract.name (tree_view x)) (sym c.deref-in-Extract.ensures) in
    subst (IsPlanned c.args.self.now.planner.now.scope c.monadic_step-in-Extract.result) (sym is)
    (c.monadic_step-in-Extract.ensures c.args.self.now.planner.now.scope (plans.extract c.in-Extract.name) (tree_view c.deref-in-Extract.result.now) c.extraction.ensures c.boxed_step-in-Extract.ensures)

pub returns-in-Postfix : goal.returns-in-Postfix
returns-in-Postfix g c =
    let is = ap tree_view c.in-Postfix.is ∙ ap (λ x. trees.postfix (tree_view x) (postfix_view c.in-Postfix.op)) (sym c.deref-in-Postfix.ensures) in
    subst (IsPlanned c.args.self.now.planner.now.scope c.monadic_step-in-Postfix.result) (sym is)
    (c.monadic_step-in-Postfix.ensures c.args.self.now.planner.now.scope (plans.postfix (postfix_view c.in-Postfix.op)) (tree_view c.deref-in-Postfix.result.now) c.postfix.ensures c.boxed_step-in-Postfix.ensures)

pub returns-in-Component : goal.returns-in-Component
returns-in-Component g c =
    let is = ap tree_view c.in-Component.is ∙ ap (λ x. trees.component (rc_str_bytes c.in-Component.rest) (tree_view x)) (sym c.deref-in-Component.ensures) in
    subst (IsPlanned c.args.self.now.planner.now.scope c.monadic_step-in-Component.result) (sym is)
    (c.monadic_step-in-Component.ensures c.args.self.now.planner.now.scope (plans.component (rc_str_bytes c.in-Component.rest)) (tree_view c.deref-in-Component.result.now) c.component.ensures c.boxed_step-in-Component.ensures)

pub returns-in-Measure : goal.returns-in-Measure
returns-in-Measure g c =
    let is = ap tree_view c.in-Measure.is ∙ ap (λ x. trees.measure c.in-Measure.op (tree_view x)) (sym c.deref-in-Measure.ensures) in
    subst (IsPlanned c.args.self.now.planner.now.scope c.monadic_step-in-Measure.result) (sym is)
    (c.monadic_step-in-Measure.ensures c.args.self.now.planner.now.scope (plans.measure c.in-Measure.op) (tree_view c.deref-in-Measure.result.now) refl c.boxed_step-in-Measure.ensures)

pub returns-in-Restriction : goal.returns-in-Restriction
returns-in-Restriction g c =
    let is = ap tree_view c.in-Restriction.is ∙ (λ i. trees.restriction (tree_view (sym c.deref-in-Restriction.ensures i)) (tree_view (sym c.deref-in-Restriction-2.ensures i))) in
    subst (IsPlanned c.args.self.now.planner.now.scope c.where_of.result) (sym is) (c.where_of.ensures)

pub returns-in-Binary : goal.returns-in-Binary
returns-in-Binary g c =
    let is = ap tree_view c.in-Binary.is ∙ (λ i. trees.binary (tree_view (sym c.deref-in-Binary.ensures i)) c.in-Binary.op (tree_view (sym c.deref-in-Binary-2.ensures i))) in
    subst (IsPlanned c.args.self.now.planner.now.scope c.dyadic_step.result) (sym is)
    (c.dyadic_step.ensures c.args.self.now.planner.now.scope (tree_view c.deref-in-Binary.result.now) (tree_view c.deref-in-Binary-2.result.now) c.boxed_step-left.ensures c.boxed_step-in-Binary.ensures)

pub returns-in-Compare : goal.returns-in-Compare
returns-in-Compare g c =
    let is = ap tree_view c.in-Compare.is ∙ (λ i. trees.compare (tree_view (sym c.deref-in-Compare.ensures i)) c.in-Compare.op (tree_view (sym c.deref-in-Compare-2.ensures i))) in
    subst (IsPlanned c.args.self.now.planner.now.scope c.dyadic_step-in-Compare.result) (sym is)
    (c.dyadic_step-in-Compare.ensures c.args.self.now.planner.now.scope (tree_view c.deref-in-Compare.result.now) (tree_view c.deref-in-Compare-2.result.now) c.boxed_step-left-in-Compare.ensures c.boxed_step-in-Compare.ensures)

pub returns-in-Select : goal.returns-in-Select
returns-in-Select g c =
    let is = ap tree_view c.in-Select.is ∙ select_is c.in-Select.ty c.in-Select.arguments ∙ ap (λ xs. trees.select c.in-Select.ty (trees_view xs)) (sym c.deref-in-Select.ensures.value) in
    subst (IsPlanned c.args.self.now.planner.now.scope c.select_step.result) (sym is) (c.select_step.ensures c.args.self.now.planner.now.scope (trees_view c.deref-in-Select.result.now)
    (subst (ArePlanned c.args.self.now.planner.now.scope c.steps_of.result) (sym (expressions_are c.deref-in-Select.result.now)) c.steps_of.ensures))

pub returns-in-Aggregate : goal.returns-in-Aggregate
returns-in-Aggregate g c =
    let is = ap tree_view c.in-Aggregate.is ∙ (λ i. trees.aggregate c.in-Aggregate.op (tree_view (sym c.deref-in-Aggregate.ensures i)) (tree_view (sym c.deref-in-Aggregate-2.ensures i))) in
    subst (IsPlanned c.args.self.now.planner.now.scope c.aggregate_step.result) (sym is) (c.aggregate_step.ensures)

pub returns-in-Relation : goal.returns-in-Relation
returns-in-Relation g c =
    let is = ap tree_view c.in-Relation.is ∙ relation_is c.in-Relation.elements ∙ ap (λ xs. trees.relation (trees_view xs)) (sym c.deref-in-Relation.ensures.value) in
    subst (IsPlanned c.args.self.now.planner.now.scope c.relation_step.result) (sym is) (c.relation_step.ensures c.args.self.now.planner.now.scope (trees_view c.deref-in-Relation.result.now)
    (subst (ArePlanned c.args.self.now.planner.now.scope c.steps_of-in-Relation.result) (sym (expressions_are c.deref-in-Relation.result.now)) c.steps_of-in-Relation.ensures))

pub returns-in-HeadedRelation : goal.returns-in-HeadedRelation
returns-in-HeadedRelation g c =
    let is = ap tree_view c.in-HeadedRelation.is ∙ headed_relation_is c.in-HeadedRelation.heading c.in-HeadedRelation.elements
    ∙ (λ i. trees.headed_relation (heading_tree_view (sym c.deref-in-HeadedRelation.ensures.value i)) (trees_view (sym c.deref-in-HeadedRelation-2.ensures.value i))) in
    subst (IsPlanned c.args.self.now.planner.now.scope c.headed_step.result) (sym is) (c.headed_step.ensures (trees_view c.deref-in-HeadedRelation-2.result.now)
    (subst (ArePlanned c.args.self.now.planner.now.scope c.steps_of-in-HeadedRelation.result) (sym (expressions_are c.deref-in-HeadedRelation-2.result.now)) c.steps_of-in-HeadedRelation.ensures))

pub returns-in-Tuple : goal.returns-in-Tuple
returns-in-Tuple g c =
    let is = ap tree_view c.in-Tuple.is ∙ tuple_is c.in-Tuple.parts ∙ ap (λ xs. trees.tuple (named_view xs)) (sym c.deref-in-Tuple.ensures.value) in
    subst (IsPlanned c.args.self.now.planner.now.scope c.tuple_step.result) (sym is) (c.tuple_step.ensures c.args.self.now.planner.now.scope
    (subst (λ xs. ArePlanned c.args.self.now.planner.now.scope c.part_steps.result (map part_tree xs)) (c.deref-in-Tuple-2.ensures.value ∙ sym c.deref-in-Tuple.ensures.value) c.part_steps.ensures))

pub returns-in-Extend : goal.returns-in-Extend
returns-in-Extend g c =
    let is = ap tree_view c.in-Extend.is ∙ extend_is c.in-Extend.operand c.in-Extend.parts ∙ (λ i. trees.extend (tree_view (sym c.deref-in-Extend.ensures i)) (named_view (sym c.deref-in-Extend-2.ensures.value i))) in
    subst (IsPlanned c.args.self.now.planner.now.scope c.extend_step.result) (sym is) c.extend_step.ensures.0

pub returns-in-ExtendSetting : goal.returns-in-ExtendSetting
returns-in-ExtendSetting g c =
    let is = ap tree_view c.in-ExtendSetting.is ∙ extend_setting_is c.in-ExtendSetting.operand c.in-ExtendSetting.settings
    ∙ (λ i. trees.extend_setting (tree_view (sym c.deref-in-ExtendSetting.ensures i)) (named_view (sym c.deref-in-ExtendSetting-2.ensures.value i))) in
    subst (IsPlanned c.args.self.now.planner.now.scope c.extend_step-in-ExtendSetting.result) (sym is) c.extend_step-in-ExtendSetting.ensures.1

pub returns-in-SummarizePer : goal.returns-in-SummarizePer
returns-in-SummarizePer g c =
    let is = ap tree_view c.in-SummarizePer.is ∙ summarize_per_is c.in-SummarizePer.operand c.in-SummarizePer.per c.in-SummarizePer.items
    ∙ (λ i. trees.summarize_per (tree_view (sym c.deref-in-SummarizePer.ensures i)) (tree_view (sym c.deref-in-SummarizePer-2.ensures i)) (summaries_view (sym c.deref-in-SummarizePer-3.ensures.value i))) in
    subst (IsPlanned c.args.self.now.planner.now.scope c.summarize_per_step.result) (sym is) (c.summarize_per_step.ensures)

pub returns-in-SummarizeBy : goal.returns-in-SummarizeBy
returns-in-SummarizeBy g c =
    let is = ap tree_view c.in-SummarizeBy.is ∙ summarize_by_is c.in-SummarizeBy.operand c.in-SummarizeBy.by c.in-SummarizeBy.items
    ∙ (λ i. trees.summarize_by (tree_view (sym c.deref-in-SummarizeBy.ensures i)) (attributes_view c.in-SummarizeBy.by) (summaries_view (sym c.deref-in-SummarizeBy-2.ensures.value i))) in
    subst (IsPlanned c.args.self.now.planner.now.scope c.summarize_by_step.result) (sym is) (c.summarize_by_step.ensures)

pub returns-in-If : goal.returns-in-If
returns-in-If g c =
    let is = ap tree_view c.in-If.is ∙ (λ i. trees.choice (tree_view (sym c.deref-in-If.ensures i)) (tree_view (sym c.deref-in-If-2.ensures i)) (tree_view (sym c.deref-in-If-3.ensures i))) in
    subst (IsPlanned c.args.self.now.planner.now.scope c.choice_step.result) (sym is) (c.choice_step.ensures c.args.self.now.planner.now.scope (tree_view c.deref-in-If.result.now) (tree_view c.deref-in-If-2.result.now) (tree_view c.deref-in-If-3.result.now)
    c.boxed_step-in-If.ensures c.boxed_step-in-If-2.ensures c.boxed_step-in-If-3.ensures)

pub steps_of-requires : goal.steps_of-requires
steps_of-requires g c =
    let h = ap weight (ap tree_view c.in-Select.is ∙ select_is c.in-Select.ty c.in-Select.arguments ∙ ap (λ xs. trees.select c.in-Select.ty (trees_view xs)) (sym c.deref-in-Select.ensures.value)) in
    below (omega (arith, h)) c.requires

pub steps_of-requires-in-Relation : goal.steps_of-requires-in-Relation
steps_of-requires-in-Relation g c =
    let h = ap weight (ap tree_view c.in-Relation.is ∙ relation_is c.in-Relation.elements ∙ ap (λ xs. trees.relation (trees_view xs)) (sym c.deref-in-Relation.ensures.value)) in
    below (omega (arith, h)) c.requires

pub steps_of-requires-in-HeadedRelation : goal.steps_of-requires-in-HeadedRelation
steps_of-requires-in-HeadedRelation g c =
    let h = ap weight (ap tree_view c.in-HeadedRelation.is ∙ headed_relation_is c.in-HeadedRelation.heading c.in-HeadedRelation.elements ∙ ap (λ xs. trees.headed_relation (heading_tree_view c.in-HeadedRelation.heading.items) (trees_view xs)) (sym c.deref-in-HeadedRelation-2.ensures.value)) in
    below (omega (arith, h)) c.requires

pub part_steps-requires : goal.part_steps-requires
part_steps-requires g c =
    let h = ap weight (ap tree_view c.in-Tuple.is ∙ tuple_is c.in-Tuple.parts ∙ ap (λ xs. trees.tuple (named_view xs)) (sym c.deref-in-Tuple-2.ensures.value)) in
    below (omega (arith, h)) c.requires

pub extend_step-requires : goal.extend_step-requires
extend_step-requires g c =
    let h = ap weight (ap tree_view c.in-Extend.is ∙ extend_is c.in-Extend.operand c.in-Extend.parts ∙ (λ i. trees.extend (tree_view (sym c.deref-in-Extend.ensures i)) (named_view (sym c.deref-in-Extend-2.ensures.value i)))) in
    below (omega (arith, h)) c.requires

pub extend_step-requires-in-ExtendSetting : goal.extend_step-requires-in-ExtendSetting
extend_step-requires-in-ExtendSetting g c =
    let h = ap weight (ap tree_view c.in-ExtendSetting.is ∙ extend_setting_is c.in-ExtendSetting.operand c.in-ExtendSetting.settings ∙ (λ i. trees.extend_setting (tree_view (sym c.deref-in-ExtendSetting.ensures i)) (named_view (sym c.deref-in-ExtendSetting-2.ensures.value i)))) in
    below (omega (arith, h)) c.requires

pub summarize_per_step-requires : goal.summarize_per_step-requires
summarize_per_step-requires g c =
    let h = ap weight (ap tree_view c.in-SummarizePer.is ∙ summarize_per_is c.in-SummarizePer.operand c.in-SummarizePer.per c.in-SummarizePer.items ∙ (λ i. trees.summarize_per (tree_view (sym c.deref-in-SummarizePer.ensures i)) (tree_view (sym c.deref-in-SummarizePer-2.ensures i)) (summaries_view (sym c.deref-in-SummarizePer-3.ensures.value i)))) in
    below (omega (arith, h)) c.requires

pub summarize_by_step-requires : goal.summarize_by_step-requires
summarize_by_step-requires g c =
    let h = ap weight (ap tree_view c.in-SummarizeBy.is ∙ summarize_by_is c.in-SummarizeBy.operand c.in-SummarizeBy.by c.in-SummarizeBy.items ∙ (λ i. trees.summarize_by (tree_view (sym c.deref-in-SummarizeBy.ensures i)) (attributes_view c.in-SummarizeBy.by) (summaries_view (sym c.deref-in-SummarizeBy-2.ensures.value i)))) in
    below (omega (arith, h)) c.requires

pub returns-in-With : goal.returns-in-With
returns-in-With g c =
    let is = ap tree_view c.in-With.is ∙ binding_is c.in-With.items c.in-With.value ∙ (λ i. trees.binding (named_view (sym c.deref-in-With.ensures.value i)) (tree_view (sym c.deref-in-With-2.ensures i))) in
    subst (IsPlanned c.args.self.now.planner.now.scope c.bound_step.result) (sym is) c.bound_step.ensures

pub bound_step-requires : goal.bound_step-requires
bound_step-requires g c =
    let h = ap weight (ap tree_view c.in-With.is ∙ binding_is c.in-With.items c.in-With.value ∙ (λ i. trees.binding (named_view (sym c.deref-in-With.ensures.value i)) (tree_view (sym c.deref-in-With-2.ensures i)))) in
    below (omega (arith, h)) c.requires
