-- A plan of the operand of WHERE narrows it.
use Rattle.std.proofs.Common.{◌≡◌, ◌∷◌, ap, subst, sym}
use Rattle.td_check.specs.model.Scopes.{Scope}
use Rattle.td_check.specs.model.StaticTypes.{type_of}
use Rattle.td_eval.specs.model.TreeValues.{value_of}
use Rattle.td_eval.specs.laws.ValueTypes.{KeepsType}
use Rattle.td_plan.proofs.PlannedTuples.{kept}
use Rattle.td_plan.specs.laws.EqualitiesOfValues.{where_value}
use Rattle.td_plan.specs.code.Narrowing.{Narrows}
use Rattle.td_plan.specs.code.Plans.{PlanTree}
use Rattle.td_plan.specs.code.PlansOf.{IsPlanOfTyped}
use Rattle.td_tree.specs.model.Outcomes.{Valued}
use Rattle.td_tree.specs.model.Trees.{Tree}
use Rattle.td_types.specs.model.Types.{Heading, pack}
use Rattle.td_types.specs.model.Types as types

pub plan_narrows : (scope : Scope) (p : PlanTree) (d e : Tree) (h : Heading) → IsPlanOfTyped scope p d
    → type_of scope d ≡ Valued (types.relation (pack h)) → Narrows scope p d e h
plan_narrows scope p d e h i static = λ written t is w s slots k hand f.
    let relation = types.relation (pack h) in
    let is_value = i (written.0.0, written.1.0) relation static w s slots k hand f in
    record {
      kept =
          subst (KeepsType scope.types (Valued relation)) (sym is_value)
          (kept scope w s slots k hand f d relation (written.0.0, written.1.0) static);
      same = ap (where_value (λ t. value_of w (t ∷ s) e)) is_value;
    }
