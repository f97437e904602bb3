-- A condition that cannot fail is total (this project's own).
use Rattle.std.specs.Prelude.{◌≡◌, List, ◌∷◌, IsTrue}
use Rattle.std.specs.List.{AllByRecursion}
use Rattle.td_check.specs.laws.CannotFail.{cannot_fail}
use Rattle.td_check.specs.model.Scopes.{Scope, entered_with}
use Rattle.td_check.specs.model.StaticTypes.{type_of}
use Rattle.td_eval.specs.laws.TreeNumbers.{HasNumbers}
use Rattle.td_eval.specs.model.TreeValues.{value_of}
use Rattle.td_eval.specs.laws.UnfailingValues.{GivesValues}
use Rattle.td_eval.specs.laws.ValueTypes.{IsOfType, IsTypedTuple}
use Rattle.td_eval.specs.model.Worlds.{World, with_tuples}
use Rattle.td_plan.specs.laws.EqualitiesOfValues.{IsTotalIn}
use Rattle.td_tree.specs.model.Outcomes.{Valued}
use Rattle.td_tree.specs.model.Trees.{Tree}
use Rattle.td_tree.specs.model.WrittenTrees.{IsWritten}
use Rattle.td_types.specs.model.Types.{pack}
use Rattle.td_types.specs.model.Types as types
use Rattle.td_value.specs.model.Values.{Relation, Tuple, relation_value}

-- a condition that cannot fail in the tuples of a relation has a truth value in each of them
abbrev pub UnfailingConditionsAreTotal : Type 0
UnfailingConditionsAreTotal =
    (w : World) (scope : Scope) (s : List Tuple) (r : Relation) (condition : Tree) → GivesValues w scope
    → AllByRecursion (IsTypedTuple scope.types) s → IsOfType scope.types (relation_value r) (types.relation (pack r.heading))
    → IsWritten condition → HasNumbers condition
    → type_of (entered_with r.heading (with_tuples scope s)) condition ≡ Valued types.boolean
    → IsTrue (cannot_fail (entered_with r.heading (with_tuples scope s)) condition)
    → IsTotalIn (λ t. value_of w (t ∷ s) condition) r
