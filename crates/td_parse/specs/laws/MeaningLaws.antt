-- That tokens mean one thing: a law (this project's own).
use Rattle.std.specs.Prelude.{◌≡◌, List}
use Rattle.td_tree.specs.model.Outcomes.{Outcome}
use Rattle.td_tree.specs.model.Trees as trees
use Rattle.td_tree.specs.model.Statements.{PlacedToken}
use Rattle.td_parse.specs.model.Meanings.{Parsed}

-- tokens mean something, and one thing alone
abbrev pub TokensHaveOneMeaning : Type 0
TokensHaveOneMeaning = (tokens : List PlacedToken)
    → (o : Outcome trees.Statement) × Parsed tokens o
    × ((p : Outcome trees.Statement) → Parsed tokens p → p ≡ o)
