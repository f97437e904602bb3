-- When an equality fixes an attribute (this project's own).
use Rattle.std.specs.Prelude.{◌≡◌, ℕ, true, List, [], Some, IsTrue}
use Rattle.td_check.specs.laws.CannotFail.{cannot_fail}
use Rattle.td_check.specs.model.Scopes.{Scope}
use Rattle.td_check.specs.model.StaticTypes.{type_of}
use Rattle.td_eval.specs.model.OperatorValues.{of_truth}
use Rattle.td_eval.specs.laws.TreeNumbers.{HasNumbers}
use Rattle.td_eval.specs.model.TreeValues.{value_of}
use Rattle.td_eval.specs.model.Worlds.{World}
use Rattle.td_plan.specs.laws.EqualitiesOfNames.{NamesOnly}
use Rattle.td_tree.specs.model.Outcomes.{Valued}
use Rattle.td_tree.specs.model.Trees.{Tree}
use Rattle.td_types.specs.model.Types.{Type', Heading, type_at}
use Rattle.td_value.specs.model.Values.{Tuple}

-- where the condition is TRUE, the two expressions have the same value
abbrev pub AreOneWhere : Tree → Tree → Tree → Type 0
AreOneWhere e a b = (w : World) (s : List Tuple) → value_of w s e ≡ of_truth true → value_of w s a ≡ value_of w s b

-- the expression has a value: it cannot fail, and its numbers are in range
pub record IsUnfailing (scope : Scope) (x : Tree) : Type 0 where
  pub numbers : HasNumbers x
  pub never : IsTrue (cannot_fail scope x)

-- the expression has, in the scope, the type of the heading's attribute of the name
abbrev pub HasTypeOf : Scope → Heading → List ℕ → Tree → Type 0
HasTypeOf scope h n x = (t : Type') × (type_at n h ≡ Some t) × (type_of scope x ≡ Valued t)

-- the expression has a value of the attribute's type, which is the same for all tuples of the heading
pub record MayFix (scope : Scope) (h : Heading) (n : List ℕ) (x : Tree) : Type 0 where
  pub typed : HasTypeOf scope h n x
  pub unfailing : IsUnfailing scope x
  pub apart : NamesOnly [] h x
