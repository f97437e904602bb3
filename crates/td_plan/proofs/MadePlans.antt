-- Plans of steps that were made.
use Rattle.std.proofs.Common.{◌≡◌, ◌∙◌, List, ap, length, refl, sym, subst, suc}
use Rattle.std.proofs.lemmas.Bool.{eq-eqb}
use Rattle.std.proofs.lemmas.List.{length-map}
use Rattle.std.specs.declared.alloc.AllocError.{AllocError}
use Rattle.std.specs.Prelude.{IfOk, IsOkAnd, IsTrue, Result, Ok, Err}
use Rattle.td_eval.proofs.code_lemmas.OpValues.{relation_unpacked}
use Rattle.td_eval.specs.model.OperatorValues.{of_relation, on_relation, set_value}
use Rattle.td_eval.specs.model.TreeValues.{values_in_tuples}
use Rattle.td_eval.specs.model.Worlds.{World}
use Rattle.td_plan.specs.declared.plan.step.Step.{Step}
use Rattle.td_plan.proofs.PlannedLists.{parts_are}
use Rattle.td_plan.specs.code.Plans.{PlanTree, extension_of}
use Rattle.td_plan.specs.code.PlanViews.{PlanValue, plan_view}
use Rattle.td_plan.specs.code.PlannedParts.{in_named, part_tree}
use Rattle.td_plan.specs.code.StepViews.{step_view}
use Rattle.td_tree.specs.declared.expression.NamedExpr.{NamedExpr}
use Rattle.td_tree.specs.model.Outcomes.{Outcome, Refused, Valued, with_value}
use Rattle.td_tree.specs.code.TreeViews.{named_view}
use Rattle.td_tree.specs.model.Trees.{NamedTrees}
use Rattle.td_tree.specs.model.Trees as trees
use Rattle.td_types.proofs.OutcomeLaws.{valued_is}
use Rattle.td_types.specs.model.Headings.{are_distinct}
use Rattle.td_types.specs.model.Types.{Attribute, attribute_names}
use Rattle.td_value.specs.model.Values.{Relation, Tuple, Val, relation_value}

-- what is said of the step is said of the plan
pub planned_by : (P : PlanTree → Type 0) (made : Result Step AllocError) (result : Result PlanValue AllocError)
    → IfOk result (λ p. IsOkAnd made (λ s. plan_view p ≡ step_view s)) → IfOk made (λ s. P (step_view s)) → IfOk result (λ p. P (plan_view p))
planned_by P (Ok s) (Ok p) same h = subst P (sym same) h
planned_by P (Err e) (Ok p) same h = absurd same
planned_by P made (Err e) same h = tt

-- ---- what is set

as_many_in : (w : World) (s : List Tuple) (parts : NamedTrees) → length (values_in_tuples w s parts) ≡ length (in_named parts)
as_many_in w s trees.none_named = refl
as_many_in w s (trees.more_named n e es) = ap suc (as_many_in w s es)

pub as_many_set : (w : World) (s : List Tuple) (parts : List NamedExpr) → length (values_in_tuples w s (named_view parts)) ≡ length parts
as_many_set w s parts = as_many_in w s (named_view parts) ∙ ap length (parts_are parts) ∙ length-map parts part_tree

pub extension_is_set : (xs : List Attribute) (fs : List (Tuple → Outcome Val)) (r : Relation) → length xs ≡ length fs → IsTrue (are_distinct (attribute_names xs))
    → extension_of xs fs r ≡ with_value (set_value xs fs r) of_relation
extension_is_set xs fs r many distinct = rw (eq-eqb (length xs) (length fs) many, distinct) refl

-- ---- an answer that is a relation

pub relation_given : (o : Outcome Relation) (v : Val) (q p : Relation) → with_value o of_relation ≡ Valued v → on_relation v Valued ≡ Valued q → p ≡ q
    → o ≡ Valued p
relation_given (Refused cs) v q p told found same = absurd (cc)
relation_given (Valued r) v q p told found same =
    sym (relation_unpacked r Valued) ∙ ap (λ u. on_relation u Valued) (valued_is (relation_value r) v told) ∙ found ∙ ap (λ x. Valued x) (sym same)
