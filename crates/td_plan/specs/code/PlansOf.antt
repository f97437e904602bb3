-- When a plan stands for an expression.
use Rattle.std.specs.Prelude.{◌≡◌, List, [], ◌∷◌, length, map, ⊤}
use Rattle.std.specs.List.{AllByRecursion}
use Rattle.td_catalog.specs.model.Database.{database_scope}
use Rattle.td_check.specs.model.Scopes.{Scope, entered_with}
use Rattle.td_check.specs.model.StaticTypes.{named_types, type_of}
use Rattle.td_eval.specs.declared.env.Env.{Env}
use Rattle.td_eval.specs.code.LentWorlds.{tuples_in_hand}
use Rattle.td_eval.specs.model.TreeValues.{value_of, values_in_tuples}
use Rattle.td_eval.specs.laws.ValueTypes.{IsTypedTuple}
use Rattle.td_eval.specs.laws.UnfailingValues.{GivesValues}
use Rattle.td_eval.specs.model.Worlds.{World, with_tuples}
use Rattle.td_plan.specs.code.Plans.{PlanTree, Slots, extension_of, plan_value}
use Rattle.td_tree.specs.model.Outcomes.{Outcome, Valued}
use Rattle.td_tree.specs.model.Trees.{NamedTrees, Tree}
use Rattle.td_tree.specs.model.WrittenTrees.{IsWritten, PartsGiveNames, PartsHaveTexts}
use Rattle.td_types.specs.model.Types.{Attribute, Type'}
use Rattle.td_value.specs.code.Views.{values_of}
use Rattle.td_value.specs.model.Values.{IsRelation, Relation, Tuple, Val, heading_of}

-- what is known where no tuple is in scope
abbrev pub outermost : Scope → Scope
outermost scope = record { types = scope.types; relvars = scope.relvars; constraints = scope.constraints; entered = [] }

-- tuples for the scope's headings, the innermost first, whose values are of their types
abbrev pub AreInHand : Scope → List Tuple → Type 0
AreInHand scope s = AllByRecursion (IsTypedTuple scope.types) s × (map heading_of s ≡ scope.entered)

-- the values of the tuples in scope are in their slots: a tuple's slot is how many are further out
abbrev pub AreSlotsOf : List Tuple → Slots → Type 0
AreSlotsOf [] slots = ⊤
AreSlotsOf (t ∷ s) slots = (slots (length s) ≡ values_of t) × AreSlotsOf s slots

-- in every world that gives values in the scope, and for all tuples that may stand there, this plan has this outcome
abbrev pub IsPlanFor : Scope → PlanTree → (World → List Tuple → Outcome Val) → Type 0
IsPlanFor scope p outcome =
    (w : World) (s : List Tuple) (slots : Slots) → GivesValues w (outermost scope) → AreInHand scope s → AreSlotsOf s slots
    → plan_value w slots p ≡ outcome w s

-- there it has the value of the expression, or the same causes
abbrev pub IsPlanOf : Scope → PlanTree → Tree → Type 0
IsPlanOf scope p e = IsPlanFor scope p (λ w s. value_of w s e)

-- of an expression that has a type in the scope, the plan is one of it
abbrev pub IsPlanIfTyped : Scope → PlanTree → Tree → Type 0
IsPlanIfTyped scope p e = (t : Type') → type_of scope e ≡ Valued t → IsPlanOf scope p e

-- the same of what is written as tokens spell it
abbrev pub IsPlanOfTyped : Scope → PlanTree → Tree → Type 0
IsPlanOfTyped scope p e = IsWritten e → IsPlanIfTyped scope p e

-- in a relation of the scope's types it sets these attributes, all at once, to what the parts are in each tuple, where these
-- have types there and are written as tokens spell them
abbrev pub ArePlannedSettings : Scope → PlanTree → Relation → List Attribute → NamedTrees → Type 0
ArePlannedSettings scope p r xs parts =
    IsRelation r → AllByRecursion (IsTypedTuple scope.types) r.body → PartsGiveNames parts → PartsHaveTexts parts
    → (ys : List Attribute) → named_types (entered_with r.heading scope) parts ≡ Valued ys
    → IsPlanFor scope p (λ w s. extension_of xs (values_in_tuples w s parts) r)

-- ---- what is planned and run in one place

-- what is known in what an expression is evaluated in, with the tuples in scope there
abbrev pub scope_in : {B : Type 0} → Env B → Scope
scope_in env = with_tuples (database_scope env.catalog.now.database) (tuples_in_hand env)

-- an expression that has a type in the scope, in a world that gives values there, with tuples of
-- the scope
pub record MeetsRules (w : World) (scope : Scope) (s : List Tuple) (e : Tree) : Type 0 where
  pub gives : GivesValues w (outermost scope)
  pub tuples : AreInHand scope s
  pub typed : (t : Type') × (type_of scope e ≡ Valued t)

-- parts that have types in the tuples of the relation, whose tuples are of their types
pub record PartsMeetRulesIn (w : World) (scope : Scope) (s : List Tuple) (r : Relation) (parts : NamedTrees) : Type 0 where
  pub gives : GivesValues w (outermost scope)
  pub tuples : AreInHand scope s
  pub relation : IsRelation r × AllByRecursion (IsTypedTuple scope.types) r.body
  pub typed : (xs : List Attribute) × (named_types (entered_with r.heading scope) parts ≡ Valued xs)
