-- Lines of statements one after another are seen as the lexemes of these statements.
use Rattle.std.proofs.Common.{ℕ, List, [], ◌∷◌, ◌++◌, append_assoc, map, refl, subst, sym}
use Rattle.std.specs.List.{AllByRecursion, flat_map}
use Rattle.td_tree.specs.declared.token.Sign.TheVariants as signs
use Rattle.td_tree.specs.model.Lexemes.{Lexeme, sign}
use Rattle.td_tree.specs.model.Statements.{statements, tokens}
use Rattle.td_tree.specs.model.Trees.{Statement}
use Rattle.td_tree.proofs.law_lemmas.SeenLaws.{IsSeen, nothing_seen, seen_same}
use Rattle.td_engine.specs.laws.Rebuilding.{AreReadAs}
use Rattle.td_engine.proofs.law_lemmas.DumpLines.{IsLine}
use Rattle.td_engine.proofs.law_lemmas.DumpSplit.{AreScripted, no_statement, one_statement, split_reads}

-- the lexemes that the grammar sees of the bytes are those of the statements
pub record IsScript (bytes : List ℕ) (ss : List Statement) : Type 0 where
  found : List Lexeme
  seen : IsSeen bytes found
  scripted : AreScripted found ss

pub no_line : IsScript [] []
no_line = record { found = []; seen = nothing_seen; scripted = no_statement }

line_first : (bytes : List ℕ) (s : Statement) → IsLine bytes s → (rest : List ℕ) (ss : List Statement) → IsScript rest ss → IsScript (bytes ++ rest) (s ∷ ss)
line_first bytes s line rest ss script = record {
  found = line.body ++ (sign signs.Semicolon ∷ script.found);
  seen = seen_same _ _ _ _ refl (sym (append_assoc line.body (sign signs.Semicolon ∷ []) script.found)) (line.shows.seen rest script.found script.seen);
  scripted = one_statement line.inner line.spelled script.scripted;
}

-- a line for each of a list, and then the rest
pub lines_first : {A : Type 0} (line : A → List ℕ) (meant : A → Statement) (xs : List A) → AllByRecursion (λ x. IsLine (line x) (meant x)) xs
    → (rest : List ℕ) (ss : List Statement) → IsScript rest ss → IsScript (flat_map line xs ++ rest) (map meant xs ++ ss)
lines_first line meant [] all rest ss script = script
lines_first line meant (x ∷ xs) all rest ss script =
    subst (λ bytes. IsScript bytes (meant x ∷ (map meant xs ++ ss))) (sym (append_assoc (line x) (flat_map line xs) rest))
    (line_first (line x) (meant x) all.0 (flat_map line xs ++ rest) (map meant xs ++ ss) (lines_first line meant xs all.1 rest ss script))

-- so they are read as these
pub script_reads : (bytes : List ℕ) (ss : List Statement) → IsScript bytes ss → AreReadAs (statements 0 bytes) ss
unfolding statements
script_reads bytes ss script = split_reads (tokens 0 bytes) script.found ss script.scripted (script.seen 0)
