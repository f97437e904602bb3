-- What stands for the operand of WHERE and gives fewer tuples: all for which the condition is TRUE are among them.
use Rattle.std.specs.declared.alloc.AllocError.{AllocError}
use Rattle.std.specs.Global.{Box}
use Rattle.std.specs.Prelude.{◌≡◌, ℕ, true, IfOk, IfSome, List, ◌∷◌, Option, Result, Some}
use Rattle.std.specs.List.{AllByRecursion}
use Rattle.td_check.specs.model.Scopes.{Scope}
use Rattle.td_check.specs.model.StaticTypes.{type_of}
use Rattle.td_eval.specs.model.OperatorValues.{of_truth}
use Rattle.td_eval.specs.model.TreeValues.{value_of}
use Rattle.td_eval.specs.laws.UnfailingValues.{GivesValues}
use Rattle.td_eval.specs.laws.ValueTypes.{IsOfType, IsTypedTuple, KeepsType}
use Rattle.td_eval.specs.model.Worlds.{World}
use Rattle.td_plan.specs.declared.rewriting.fixed.FixedValue.{FixedValue}
use Rattle.td_plan.specs.declared.plan.step.Step.{Step}
use Rattle.td_plan.specs.laws.EqualitiesOfValues.{where_value}
use Rattle.td_plan.specs.code.Plans.{PlanTree, Slots, plan_value}
use Rattle.td_plan.specs.code.PlansOf.{AreInHand, AreSlotsOf, outermost}
use Rattle.td_plan.specs.code.StepViews.{step_view}
use Rattle.td_tree.specs.model.Outcomes.{Outcome, Valued}
use Rattle.td_tree.specs.model.Trees.{Tree, restriction}
use Rattle.td_tree.specs.model.WrittenTrees.{IsWritten}
use Rattle.td_types.specs.model.Types.{Type', Heading, pack, type_at}
use Rattle.td_types.specs.model.Types as types
use Rattle.td_value.specs.model.Values.{Val, Tuple, heading_of, value_at}

-- ---- attributes that a condition fixes

-- where the condition is TRUE for a tuple of the heading, its attribute of the name has that value, which is of the attribute's
-- type
pub record IsFixedAt (w : World) (scope : Scope) (s : List Tuple) (h : Heading) (e : Tree) (n : List ℕ) (v : Val) : Type 0 where
  pub typed : (t : Type') × (type_at n h ≡ Some t) × IsOfType scope.types v t
  pub same :
      (u : Tuple) → IsTypedTuple scope.types u → heading_of u ≡ h → value_of w (u ∷ s) e ≡ of_truth true → value_at n u ≡ Some v

-- the plan has a value, and the condition fixes the attribute of the name to it
abbrev pub IsFixedTo : Scope → Heading → Tree → List ℕ → PlanTree → Type 0
IsFixedTo scope h e n p =
    (w : World) (s : List Tuple) (slots : Slots) → GivesValues w (outermost scope) → AreInHand scope s → AreSlotsOf s slots
    → (v : Val) × (plan_value w slots p ≡ Valued v) × IsFixedAt w scope s h e n v

-- the condition fixes each of these attributes to the value of its step
abbrev pub AreFixed : Scope → Heading → Tree → List FixedValue → Type 0
AreFixed scope h e fixed = AllByRecursion (λ (f : FixedValue). IsFixedTo scope h e f.name (step_view f.value)) fixed

-- where the first condition is TRUE, the second is
abbrev pub Implies : Tree → Tree → Type 0
Implies e c = (w : World) (s : List Tuple) → value_of w s e ≡ of_truth true → value_of w s c ≡ of_truth true

-- ---- operands

-- the plan gives a relation of the heading, or causes, and WHERE by the condition gives the same of it as of the operand
pub record NarrowsIn (w : World) (scope : Scope) (s : List Tuple) (o : Outcome Val) (d e : Tree) (h : Heading) : Type 0 where
  pub kept : KeepsType scope.types (Valued (types.relation (pack h))) o
  pub same : where_value (λ t. value_of w (t ∷ s) e) o ≡ where_value (λ t. value_of w (t ∷ s) e) (value_of w s d)

-- so it does in every world that gives values in the scope, where these have types and are written as tokens spell them
abbrev pub Narrows : Scope → PlanTree → Tree → Tree → Heading → Type 0
Narrows scope p d e h =
    IsWritten (restriction d e) → (t : Type') → type_of scope (restriction d e) ≡ Valued t
    → (w : World) (s : List Tuple) (slots : Slots) → GivesValues w (outermost scope) → AreInHand scope s → AreSlotsOf s slots
    → NarrowsIn w scope s (plan_value w slots p) d e h

-- ---- what planning gives, in a box, where there was memory for it; the operand is of the heading

abbrev pub IsNarrowed : Scope → Result (Box Step) AllocError → Tree → Tree → Heading → Type 0
IsNarrowed scope made d e h =
    IfOk made (λ p. type_of scope d ≡ Valued (types.relation (pack h)) → Narrows scope (step_view p.value) d e h)

-- if there is one
abbrev pub MayNarrow : Scope → Result (Option (Box Step)) AllocError → Tree → Tree → Heading → Type 0
MayNarrow scope found d e h =
    IfOk found (λ o. IfSome o (λ p. type_of scope d ≡ Valued (types.relation (pack h)) → Narrows scope (step_view p.value) d e h))
