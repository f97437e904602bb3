-- Expressions that have the same values in every world, whatever tuples are in scope (this project's own).
use Rattle.std.specs.Prelude.{◌≡◌, List, [], ◌∷◌, ◌++◌}
use Rattle.td_eval.specs.model.TreeValues.{argument_values, entry_values, value_of}
use Rattle.td_eval.specs.model.Worlds.{World}
use Rattle.td_tree.specs.model.Outcomes.{Valued}
use Rattle.td_tree.specs.model.Trees.{NamedTrees, Tree, Trees}
use Rattle.td_value.specs.model.Values.{Tuple, Val, tuple_value}

-- an expression
abbrev pub IsFixed : Tree → Val → Type 0
IsFixed tree v = (w : World) (s : List Tuple) → value_of w s tree ≡ Valued v

-- expressions, in the order written
abbrev pub AreFixed : Trees → List Val → Type 0
AreFixed trees vs = (w : World) (s : List Tuple) → argument_values w s trees ≡ Valued vs

-- expressions with names
abbrev pub EntriesAreFixed : NamedTrees → Tuple → Type 0
EntriesAreFixed trees entries = (w : World) (s : List Tuple) → entry_values w s trees ≡ Valued entries

-- an expression that is a tuple, which is put after others
abbrev pub IsPut : Tree → List Tuple → List Tuple → Type 0
IsPut tree before after = (t : Tuple) × IsFixed tree (tuple_value t) × (after ≡ before ++ t ∷ [])
