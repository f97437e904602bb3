-- Runs of blanks, which are no tokens.
use Rattle.std.proofs.Common.{◌≡◌, ℕ, zero, suc, ◌+◌, ◌<◌, List, [], ◌∷◌, ◌++◌, length, drop, refl, ap, ◌∙◌, arith, Option, Some, None, true}
use Rattle.std.specs.Prelude.{◌==◌, slice_index, if◌then◌else◌}
use Rattle.std.specs.Char.{is_ascii_digit}
use Rattle.td_tree.specs.declared.piece.Piece.TheVariants.{Bar, Blank, Number, OpenText}
use Rattle.td_tree.specs.model.Names.{is_word_start}
use Rattle.td_tree.specs.model.Pieces.{goes_on, is_blank, opens, sign_at, sign_or_word}
use Rattle.td_tree.specs.model.Statements.{tokens}
use Rattle.td_tree.specs.model.Symbols.{symbols}
use Rattle.td_scan.specs.declared.piece.First.{First}
use Rattle.td_scan.specs.code.Fronts.{end_from, first_end}
use Rattle.td_scan.specs.code.Progress.{IsFirst}
use Rattle.td_scan.proofs.ReadLaws.{tokens_known}
use Rattle.td_scan.proofs.RunLaws.{ascii_known, whole}

-- a blank begins a piece of its own
blank_opens : (b : ℕ) → is_blank b ≡ true → opens (Some b) ≡ Blank
unfolding opens
blank_opens b blank =
    ap (λ t. if t then Blank else (if is_ascii_digit b then Number else (if b == 39 then OpenText else (if b == 124 then Bar else sign_or_word (sign_at b) (is_word_start b))))) blank

blank_is_whole : (c : Option ℕ) → goes_on Blank c ≡ None
unfolding goes_on
blank_is_whole c = refl

abbrev one_blank : First
one_blank = record { length = 1; piece = Blank }

-- and is the first piece of the bytes
first_blank : (b : ℕ) (bs : List ℕ) → b < 128 → is_blank b ≡ true → IsFirst (b ∷ bs) one_blank
first_blank b bs ascii blank =
    record {
      some = omega arith;
      within = omega arith;
      same = λ later.
          ap first_end (ascii_known (b ∷ bs) (omega arith) ascii later)
          ∙ ap (λ p. end_from 1 p (symbols (bs ++ later))) (blank_opens b blank)
          ∙ whole Blank blank_is_whole 1 (symbols (bs ++ later));
    }

-- one of the bytes is a blank, whatever follows them
pub blank_more : (bs : List ℕ) (i n : ℕ) → i < length bs → slice_index bs i < 128 → is_blank (slice_index bs i) ≡ true → (later : List ℕ)
    → tokens n (drop i bs ++ later) ≡ tokens (n + 1) (drop (i + 1) bs ++ later)
blank_more [] i n inside ascii blank later = absurd (omega arith)
blank_more (b ∷ bs) zero n inside ascii blank later = tokens_known (b ∷ bs) one_blank (first_blank b bs ascii blank) n later
blank_more (b ∷ bs) (suc i) n inside ascii blank later =
    blank_more bs i n (omega arith) ascii blank later
    ∙ ap (λ k. tokens (n + 1) (drop k (b ∷ bs) ++ later)) (let e : suc (i + 1) ≡ suc i + 1 = omega arith in e)
