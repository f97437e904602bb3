-- The symbol at the front of bytes behind which others may come.
use Rattle.std.proofs.Common.{◌≡◌, ℕ, ◌<◌, List, [], ◌∷◌, ◌++◌, refl, sym, ap, ◌∙◌, arith, true, false, None, append_assoc}
use Rattle.std.specs.Prelude.{◌||◌, if◌then◌else◌, nat_lt, slice_get}
use Rattle.std.specs.List.{list_any}
use Rattle.std.specs.Str.{chars, is_utf8}
use Rattle.std.proofs.lemmas.Bool.Decides.{nat_tests}
use Rattle.td_tree.specs.model.Symbols.{symbol_at, symbol_of}
use Rattle.td_tree.proofs.law_lemmas.FrontLaws.{ascii_bytes}
use Rattle.td_tree.proofs.law_lemmas.SymbolLaws.{same_symbol}
use Rattle.td_scan.specs.code.Fronts.{IsKnown}

-- an ASCII byte is a symbol
known_lead : (b : ℕ) (bs : List ℕ) → b < 128 → IsKnown (b ∷ bs)
known_lead b bs ascii = λ later. ap (λ t. symbol_of (if is_utf8 t then slice_get (chars t) 0 else None) t b) (ascii_bytes b (bs ++ later) ascii ∙ sym (ascii_bytes b bs ascii))

-- the bytes up to an ASCII one, and those behind it
record Parts (bs : List ℕ) : Type 0 where
  front : List ℕ
  ascii : ℕ
  back : List ℕ
  are : bs ≡ front ++ ascii ∷ back
  is : ascii < 128

parts_of : (bs : List ℕ) → list_any (λ b. nat_lt b 128) bs ≡ true → Parts bs
parts_of [] = λ has. absurd cc
parts_of (b ∷ bs) =
    (elim (nat_lt b 128) as (λ t. nat_lt b 128 ≡ t → (t || list_any (λ c. nat_lt c 128) bs) ≡ true → Parts (b ∷ bs)) [
      | true ↦ λ less has. record { front = []; ascii = b; back = bs; are = refl; is = grind (arith, nat_tests) }
      | false ↦ λ less has. let w = parts_of bs has in record { front = b ∷ w.front; ascii = w.ascii; back = w.back; are = ap (λ r. b ∷ r) w.are; is = w.is }
    ]) refl

-- an ASCII byte further on cuts the first symbol off
known_cut : (b : ℕ) (bs : List ℕ) → Parts bs → IsKnown (b ∷ bs)
known_cut b bs p = λ later.
    ap (λ r. symbol_at b (r ++ later)) p.are ∙ ap (symbol_at b) (append_assoc p.front (p.ascii ∷ p.back) later)
    ∙ same_symbol b p.front (p.back ++ later) p.ascii p.is ∙ sym (same_symbol b p.front p.back p.ascii p.is) ∙ ap (symbol_at b) (sym p.are)

pub known_ascii : (bs : List ℕ) → list_any (λ b. nat_lt b 128) bs ≡ true → IsKnown bs
known_ascii [] = λ has. tt
known_ascii (b ∷ bs) =
    (elim (nat_lt b 128) as (λ t. nat_lt b 128 ≡ t → (t || list_any (λ c. nat_lt c 128) bs) ≡ true → IsKnown (b ∷ bs)) [
      | true ↦ λ less has. known_lead b bs (grind (arith, nat_tests))
      | false ↦ λ less has. known_cut b bs (parts_of bs has)
    ]) refl
