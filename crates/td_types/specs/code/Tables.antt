-- What a table of declared types stands for, and what it keeps beside them.
use Rattle.std.specs.Prelude.{◌≡◌, ◌+◌, ℕ, List, map, min, Option, Some, None}
use Rattle.std.specs.List.{AllByRecursion}
use Rattle.td_tree.specs.model.Outcomes.{Outcome, Valued, Refused}
use Rattle.td_types.specs.model.TypeLists.{AreDeclared, DeclaredType, rank_limit, user_ranks}
use Rattle.td_types.specs.declared.table.Row.{Row}

-- a rank as a table keeps it: none where there is none, and all above the limit as one
abbrev pub kept_rank : Outcome ℕ → Option ℕ
kept_rank (Valued rank) = Some (min rank (rank_limit + 1))
kept_rank (Refused causes) = None

-- the declared types of the rows, each beside its name
abbrev pub rows_view : List (List ℕ × Row) → List DeclaredType
rows_view = map (λ row. row.1.entry.value)

-- each type stands beside its name and its rank, and can be declared after those before it
pub record IsTable (rows : List (List ℕ × Row)) : Type 0 where
  pub named : AllByRecursion (λ row. row.0 ≡ row.1.entry.value.name) rows
  pub ranked : AllByRecursion (λ row. row.1.rank ≡ kept_rank (user_ranks (rows_view rows) row.0)) rows
  pub declared : AreDeclared (rows_view rows)
