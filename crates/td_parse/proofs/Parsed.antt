-- What tokens mean as a statement, by the grammar, and what the parser answers of it.
use Rattle.std.proofs.Common.{◌≡◌, List, Option, Some, None, Result, Err, Bool, true, false, refl, sym, ap, ◌∙◌}
use Rattle.td_tree.specs.declared.cause.Cause.TheVariants as causes
use Rattle.td_tree.specs.declared.fault.Fault.{Fault}
use Rattle.td_tree.specs.declared.fault.Fault.TheVariants as faults
use Rattle.td_tree.specs.declared.statement.Statement.{Statement}
use Rattle.td_tree.specs.model.Lexemes.{Lexeme}
use Rattle.td_tree.specs.model.Outcomes.{Answers, Only, Outcome, Refused, Valued}
use Rattle.td_tree.specs.model.Statements.{PlacedToken}
use Rattle.td_tree.specs.model.TokenLexemes.{lexemes}
use Rattle.td_tree.specs.model.Trees as trees
use Rattle.td_tree.specs.code.TreeViews.{statement_view}
use Rattle.td_parse.specs.model.Meanings.{Parsed, SpellsNone, SpellsOnly, bad_token, has_bad, nothing_spelled, statement_spelled}
use Rattle.td_parse.specs.laws.MeaningLaws.{TokensHaveOneMeaning}
use Rattle.td_parse.specs.code.Parsing.{or_syntax}
use Rattle.td_parse.specs.code.ReadingStatements.{read_statement}
use Rattle.td_parse.proofs.OneTree.{one_statement}
use Rattle.td_parse.proofs.ReadingLaws.{reads_statements}

spells_only : (xs : List Lexeme) (s : trees.Statement) → read_statement xs ≡ Some s → SpellsOnly xs s
spells_only xs s e =
    let p = (reads_statements xs s).0 e in
    (p, λ t q. one_statement xs t s q p)

spells_none : (xs : List Lexeme) → read_statement xs ≡ None → SpellsNone xs
spells_none xs none t p = let e : Some t ≡ None = sym ((reads_statements xs t).1 p) ∙ none in cc

-- what they mean
abbrev Meaning : List PlacedToken → Type 0
Meaning tokens = (o : Outcome trees.Statement) × Parsed tokens o

read_meaning : (tokens : List PlacedToken) (read : Option trees.Statement) → has_bad tokens ≡ false → read_statement (lexemes tokens) ≡ read → Meaning tokens
read_meaning tokens (Some s) good e = (Valued s, statement_spelled good (spells_only (lexemes tokens) s e))
read_meaning tokens None good e = (Refused (Only causes.Syntax), nothing_spelled good (spells_none (lexemes tokens) e))

good_meaning : (tokens : List PlacedToken) → has_bad tokens ≡ false → Meaning tokens
good_meaning tokens good = read_meaning tokens (read_statement (lexemes tokens)) good refl

meaning : (tokens : List PlacedToken) (bad : Bool) → has_bad tokens ≡ bad → Meaning tokens
meaning tokens true e = (Refused (Only causes.Scan), bad_token e)
meaning tokens false e = good_meaning tokens e

both_ways : (b : Bool) → b ≡ true → b ≡ false → ⊥
both_ways b is not = let e : true ≡ false = sym is ∙ not in cc

-- ---- one meaning

same_meaning : (tokens : List PlacedToken) (o p : Outcome trees.Statement) → Parsed tokens o → Parsed tokens p → p ≡ o
same_meaning tokens _ _ (bad_token b) (bad_token c) = refl
same_meaning tokens _ _ (bad_token b) (nothing_spelled good none) = absurd (both_ways (has_bad tokens) b good)
same_meaning tokens _ _ (bad_token b) (statement_spelled good only) = absurd (both_ways (has_bad tokens) b good)
same_meaning tokens _ _ (nothing_spelled good none) (bad_token b) = absurd (both_ways (has_bad tokens) b good)
same_meaning tokens _ _ (nothing_spelled good none) (nothing_spelled again nothing) = refl
same_meaning tokens _ _ (nothing_spelled good none) (statement_spelled {s} again only) = absurd (none s only.0)
same_meaning tokens _ _ (statement_spelled good only) (bad_token b) = absurd (both_ways (has_bad tokens) b good)
same_meaning tokens _ _ (statement_spelled {s} good only) (nothing_spelled again none) = absurd (none s only.0)
same_meaning tokens _ _ (statement_spelled good only) (statement_spelled again alone) = ap (λ x. Valued x) (only.1 _ alone.0)

pub one_meaning : TokensHaveOneMeaning
one_meaning tokens =
    let m = meaning tokens (has_bad tokens) refl in
    (m.0, m.1, λ p q. same_meaning tokens m.0 p m.1 q)

-- ---- the parser's answer

-- an answer of what they mean
abbrev Answered : List PlacedToken → Result Statement Fault → Type 0
Answered tokens r = (o : Outcome trees.Statement) × Parsed tokens o × Answers statement_view r o

pub scanned : (tokens : List PlacedToken) → has_bad tokens ≡ true → Answered tokens (Err (faults.Refused causes.Scan))
scanned tokens bad = (Refused (Only causes.Scan), bad_token bad, refl)

-- by what was read, where the answer is that or SYNTAX
read_answer : (tokens : List PlacedToken) (r : Result Statement Fault) (read : Option trees.Statement) → has_bad tokens ≡ false → read_statement (lexemes tokens) ≡ read → Answers statement_view r (or_syntax read) → Answered tokens r
read_answer tokens r (Some s) good e answers = (Valued s, statement_spelled good (spells_only (lexemes tokens) s e), answers)
read_answer tokens r None good e answers = (Refused (Only causes.Syntax), nothing_spelled good (spells_none (lexemes tokens) e), answers)

pub parsed_from : (tokens : List PlacedToken) (r : Result Statement Fault) → has_bad tokens ≡ false → Answers statement_view r (or_syntax (read_statement (lexemes tokens))) → Answered tokens r
parsed_from tokens r good answers = read_answer tokens r (read_statement (lexemes tokens)) good refl answers
