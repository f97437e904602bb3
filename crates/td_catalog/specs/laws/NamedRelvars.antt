-- Which relvars an expression may be about: those whose names stand in it (this project's own).
use Rattle.std.specs.Prelude.{ℕ, Bool, List}
use Rattle.std.specs.List.{list_any}
use Rattle.td_check.specs.laws.WrittenNames.{names_in}
use Rattle.td_tree.specs.model.Trees.{Tree}
use Rattle.td_types.specs.model.Headings.{has_name}

-- whether one of these relvars is named in the expression
abbrev pub names_any : List (List ℕ) → Tree → Bool
names_any relvars e = list_any (λ n. has_name n relvars) (names_in e)
