-- What tokens mean as a statement (this project's own).
use Rattle.std.specs.Prelude.{◌≡◌, Bool, true, false, List}
use Rattle.std.specs.List.{list_any}
use Rattle.td_tree.specs.declared.cause.Cause.TheVariants as causes
use Rattle.td_tree.specs.declared.token.Kind.{Kind}
use Rattle.td_tree.specs.declared.token.Kind.TheVariants as kinds
use Rattle.td_tree.specs.model.Lexemes.{Lexeme}
use Rattle.td_tree.specs.model.Outcomes.{Only, Outcome, Refused, Valued}
use Rattle.td_tree.specs.model.StatementGrammar.{StatementSpelling}
use Rattle.td_tree.specs.model.Trees as trees
use Rattle.td_tree.specs.model.Statements.{PlacedToken}
use Rattle.td_tree.specs.model.TokenLexemes.{lexemes}

abbrev pub is_bad : Kind → Bool
is_bad kinds.Bad = true
is_bad _ = false

-- one of the tokens is bad
abbrev pub has_bad : List PlacedToken → Bool
has_bad = list_any (λ (token : PlacedToken). is_bad token.kind)

-- the grammar spells this statement by these lexemes, and no other
abbrev pub SpellsOnly : List Lexeme → trees.Statement → Type 0
SpellsOnly xs s = StatementSpelling xs s × ((t : trees.Statement) → StatementSpelling xs t → t ≡ s)

-- the grammar spells no statement by these lexemes
abbrev pub SpellsNone : List Lexeme → Type 0
SpellsNone xs = (t : trees.Statement) → StatementSpelling xs t → ⊥

-- what tokens mean as a statement, which is refused by one cause alone (own)
pub data Parsed (tokens : List PlacedToken) : Outcome trees.Statement → Type 0 where
  -- one of them is bad
  bad_token : has_bad tokens ≡ true → Parsed tokens (Refused (Only causes.Scan))
  -- the grammar spells nothing by them
  nothing_spelled : has_bad tokens ≡ false → SpellsNone (lexemes tokens)
      → Parsed tokens (Refused (Only causes.Syntax))
  -- the grammar spells this statement by them, and no other
  statement_spelled : {s : trees.Statement} → has_bad tokens ≡ false → SpellsOnly (lexemes tokens) s
      → Parsed tokens (Valued s)
