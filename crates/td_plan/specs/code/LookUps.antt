-- Operands of WHERE that a look-up by a key may stand for.
use Rattle.std.specs.Prelude.{◌≡◌, ℕ, List, None, Some}
use Rattle.td_check.specs.declared.scope.Kind.TheVariants as kinds
use Rattle.td_check.specs.model.Scopes.{KnownRelvar, Scope, innermost, known_relvar}
use Rattle.td_check.specs.model.StaticTypes.{name_type, type_of}
use Rattle.td_eval.specs.model.TreeValues.{value_of}
use Rattle.td_eval.specs.model.Worlds.{World, name_value}
use Rattle.td_tree.specs.model.Trees.{Tree}
use Rattle.td_value.specs.model.Values.{Tuple}

-- the expression means what the name means
pub record MeansName (n : List ℕ) (d : Tree) : Type 0 where
  pub value : (w : World) (s : List Tuple) → value_of w s d ≡ name_value w s n
  pub typed : (scope : Scope) → type_of scope d ≡ name_type scope n

-- the name is a base relvar's, and no tuple in scope has an attribute of it
pub record IsBase (scope : Scope) (n : List ℕ) : Type 0 where
  pub shown : innermost n scope.entered ≡ None
  pub known : (r : KnownRelvar) × (known_relvar scope n ≡ Some r) × (r.kind ≡ kinds.Base)
