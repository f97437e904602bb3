-- Restrictions that are computed of operands of what they restrict.
use Rattle.std.specs.declared.alloc.AllocError.{AllocError}
use Rattle.std.specs.Prelude.{◌≡◌, IfOk, IfSome, List, Option, Result}
use Rattle.td_check.specs.model.Scopes.{Scope, entered_with}
use Rattle.td_check.specs.model.StaticTypes.{type_of}
use Rattle.td_eval.specs.model.TreeValues.{value_of}
use Rattle.td_eval.specs.laws.UnfailingValues.{GivesValues}
use Rattle.td_eval.specs.model.Worlds.{World}
use Rattle.td_plan.specs.declared.rewriting.push.Restricted.{Restricted}
use Rattle.td_plan.specs.declared.rewriting.push.Restricted.TheVariants as operands
use Rattle.td_plan.specs.code.Fixing.{IsUnfailing}
use Rattle.td_plan.specs.code.PlansOf.{AreInHand, outermost}
use Rattle.td_tree.specs.declared.operator.Operator.{Operator}
use Rattle.td_tree.specs.model.Outcomes.{Valued}
use Rattle.td_tree.specs.model.Trees.{Tree, binary, restriction}
use Rattle.td_tree.specs.model.WrittenTrees.{IsWritten}
use Rattle.td_types.specs.model.Types.{Type', Heading, pack}
use Rattle.td_types.specs.model.Types as types
use Rattle.td_value.specs.model.Values.{Tuple}

-- the expression's relations have the heading, and the condition has a truth value in each of their tuples
pub record IsAnsweredIn (scope : Scope) (d e : Tree) (h : Heading) : Type 0 where
  pub operand : type_of scope d ≡ Valued (types.relation (pack h))
  pub condition : type_of (entered_with h scope) e ≡ Valued types.boolean
  pub unfailing : IsUnfailing (entered_with h scope) e

-- the first expression is of the type, and has the value of the second, or its causes, in every world that gives values in the
-- scope and for all tuples that may be in scope there
pub record StandsFor (scope : Scope) (e d : Tree) (t : Type') : Type 0 where
  pub written : IsWritten e
  pub typed : type_of scope e ≡ Valued t
  pub same : (w : World) (s : List Tuple) → GivesValues w (outermost scope) → AreInHand scope s → value_of w s e ≡ value_of w s d

-- the first may stand for the second, where that has a type and is written as tokens spell it
abbrev pub MayStandFor : Scope → Tree → Tree → Type 0
MayStandFor scope e d = IsWritten d → (t : Type') → type_of scope d ≡ Valued t → StandsFor scope e d t

-- an operator of operands of which these are restricted
abbrev pub restricted_tree : Restricted → Tree → Operator → Tree → Tree → Tree
restricted_tree operands.First left op right condition = binary (restriction left condition) op right
restricted_tree operands.Second left op right condition = binary left op (restriction right condition)
restricted_tree operands.Both left op right condition = binary (restriction left condition) op (restriction right condition)

-- the operands that are found, where there was memory for it, may be restricted in place of what the operator gives
abbrev pub MayBePushed : Scope → Result (Option Restricted) AllocError → Tree → Operator → Tree → Tree → Type 0
MayBePushed scope found left op right condition =
    IfOk found (λ o. IfSome o (λ k. MayStandFor scope (restricted_tree k left op right condition) (restriction (binary left op right) condition)))
