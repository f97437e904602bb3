-- A statement that `;` ends is the same in every continuation of the bytes.
use Rattle.std.proofs.Common.{◌≡◌, ℕ, zero, suc, ◌-◌, List, [], ◌∷◌, ◌++◌, length, take, drop, refl, sym, ap, ◌∙◌, subst, arith, Bool, true, Option, Some, None, ⊎_elim, append_assoc}
use Rattle.std.specs.List.{flat_map}
use Rattle.std.specs.Str.{is_utf8, chars, continuation_len}
use Rattle.std.proofs.lemmas.List.{append_cancel_left}
use Rattle.std.proofs.lemmas.Grind.{flat_map-append}
use Rattle.td_tree.specs.model.Division.{divide, up_to, state}
use Rattle.td_tree.proofs.law_lemmas.DivisionLaws.{stable}
use Rattle.td_tree.proofs.law_lemmas.EndLaws.{found_in, up_to_cases}
use Rattle.td_tree.specs.model.Symbols.{front_char, front_bytes, spell, Symbol, symbol_of, symbol_at, symbols_from, symbols}
use Rattle.td_tree.proofs.law_lemmas.FrontLaws.{ascii_byte}
use Rattle.td_tree.proofs.law_lemmas.SymbolLaws.{symbols-append_ascii}

abbrev semi : Symbol
semi = record { character = Some 59; text = 59 ∷ [] }

front_tail : (n : ℕ) (bs : List ℕ) → take n bs ++ drop (length (take n bs)) bs ≡ bs
front_tail zero bs = refl
front_tail (suc n) [] = refl
front_tail (suc n) (b ∷ bs) = ap (λ r. b ∷ r) (front_tail n bs)

less_one : (n : ℕ) → suc n - 1 ≡ n
less_one n = omega arith

abbrev HasText : Symbol → Type 0
HasText s = (b : ℕ) × (bs : List ℕ) × (s.text ≡ b ∷ bs)

-- the symbol at the front has bytes, and those behind it are left
pub record Cuts (b : ℕ) (bs : List ℕ) (s : Symbol) : Type 0 where
  pub more : List ℕ
  pub text : s.text ≡ b ∷ more
  pub rest : more ++ drop (length s.text - 1) bs ≡ bs

pub cuts : (b : ℕ) (bs : List ℕ) → Cuts b bs (symbol_at b bs)
cuts b bs = elim (front_char (b ∷ bs)) as (λ o. Cuts b bs (symbol_of o (front_bytes (b ∷ bs)) b)) [
  | Some c ↦ record { more = drop 1 (front_bytes (b ∷ bs)); text = refl; rest = (let n = continuation_len b in ap (λ k. take n bs ++ drop k bs) (less_one (length (take n bs))) ∙ front_tail n bs) }
  | None ↦ record { more = []; text = refl; rest = refl }
]

-- the symbols spell the bytes
pub spelled : (left : ℕ) (bs : List ℕ) → spell (symbols_from left bs) ≡ drop left bs
spelled zero [] = refl
spelled (suc left) [] = refl
spelled (suc left) (b ∷ bs) = spelled left bs
spelled zero (b ∷ bs) =
    let s = symbol_at b bs in
    let c = cuts b bs in
    ap (λ r. s.text ++ r) (spelled (length s.text - 1) bs) ∙ ap (λ t. t ++ drop (length s.text - 1) bs) c.text ∙ ap (λ r. b ∷ r) c.rest

abbrev pub AllText : List Symbol → Type 0
AllText [] = Unit {0}
AllText (s ∷ ss) = HasText s × AllText ss

pub all_text : (left : ℕ) (bs : List ℕ) → AllText (symbols_from left bs)
all_text zero [] = tt
all_text (suc left) [] = tt
all_text (suc left) (b ∷ bs) = all_text left bs
all_text zero (b ∷ bs) = let c = cuts b bs in ((b, c.more, c.text), all_text (length (symbol_at b bs).text - 1) bs)

pub all_front : (front rest : List Symbol) → AllText (front ++ rest) → AllText front
all_front [] rest all = tt
all_front (s ∷ front) rest all = (all.0, all_front front rest all.1)

same_front : (xs ys rest more : List Symbol) → xs ++ rest ≡ ys ++ more → spell xs ≡ spell ys → AllText xs → AllText ys → xs ≡ ys
same_front [] [] rest more e t p q = refl
same_front [] (y ∷ ys) rest more e t p q = let w = q.0 in let wrong : [] ≡ (w.0 ∷ w.1) ++ spell ys = t ∙ ap (λ r. r ++ spell ys) w.2 in absurd cc
same_front (x ∷ xs) [] rest more e t p q = let w = p.0 in let wrong : (w.0 ∷ w.1) ++ spell xs ≡ [] = sym (ap (λ r. r ++ spell xs) w.2) ∙ t in absurd cc
same_front (x ∷ xs) (y ∷ ys) rest more e t p q =
    let heads : x ≡ y = cc in
    let tails : xs ++ rest ≡ ys ++ more = cc in
    let texts : spell xs ≡ spell ys = append_cancel_left (x.text) (spell xs) (spell ys) (t ∙ ap (λ r. r.text ++ spell ys) (sym heads)) in
    let rests : xs ≡ ys = same_front xs ys rest more tails texts p.1 q.1 in
    cc

symbols_semi : (ys : List ℕ) → symbols (59 ∷ ys) ≡ semi ∷ symbols ys
unfolding is_utf8 chars lib.Utf8.encode
symbols_semi ys = refl

module _ (bs : List ℕ) (front rest : List Symbol) (is : symbols bs ≡ front ++ semi ∷ rest) where
  bytes_are : bs ≡ spell front ++ 59 ∷ spell rest
  bytes_are = sym (spelled 0 bs) ∙ ap spell is ∙ flat_map-append (λ (s : Symbol). s.text) front (semi ∷ rest)

  front_again : symbols (spell front) ≡ front
  front_again = sym (same_front front (symbols (spell front)) (semi ∷ rest) (symbols (59 ∷ spell rest))
      (sym is ∙ ap symbols bytes_are ∙ symbols-append_ascii 0 (spell front) (spell rest) 59 (omega arith) (omega arith))
      (sym (spelled 0 (spell front)))
      (all_front front (semi ∷ rest) (subst AllText is (all_text 0 bs)))
      (all_text 0 (spell front)))

  -- the symbols up to a `;` are the same in every continuation
  continued : (later : List ℕ) → symbols (bs ++ later) ≡ (front ++ semi ∷ []) ++ symbols (spell rest ++ later)
  continued later =
      ap (λ b. symbols (b ++ later)) bytes_are
      ∙ ap symbols (append_assoc (spell front) (59 ∷ spell rest) later)
      ∙ symbols-append_ascii 0 (spell front) (spell rest ++ later) 59 (omega arith) (omega arith)
      ∙ ap (λ r. r ++ symbols (59 ∷ (spell rest ++ later))) front_again
      ∙ ap (λ r. front ++ r) (symbols_semi (spell rest ++ later))
      ∙ sym (append_assoc front (semi ∷ []) (symbols (spell rest ++ later)))

-- a symbol that is a `;` is that byte
IsReal : Symbol → Type 0
IsReal s = s.character ≡ Some 59 → s.text ≡ 59 ∷ []

real_at : (b : ℕ) (bs : List ℕ) → IsReal (symbol_at b bs)
unfolding IsReal
real_at b bs =
    (elim (front_char (b ∷ bs)) as (λ o. front_char (b ∷ bs) ≡ o → (symbol_of o (front_bytes (b ∷ bs)) b).character ≡ Some 59 → (symbol_of o (front_bytes (b ∷ bs)) b).text ≡ 59 ∷ []) [
      | Some c ↦ λ is semi.
          let same : c ≡ 59 = cc in
          let byte : b ≡ 59 = ascii_byte b bs 59 (omega arith) (is ∙ ap Some same) in
          ap (λ x. front_bytes (x ∷ bs)) byte
      | None ↦ λ is semi. absurd cc
    ]) refl

real_in : (left : ℕ) (bs : List ℕ) (front rest : List Symbol) (s : Symbol) → symbols_from left bs ≡ front ++ s ∷ rest → IsReal s
real_in zero [] [] rest s e = absurd cc
real_in zero [] (x ∷ front) rest s e = absurd cc
real_in (suc left) [] [] rest s e = absurd cc
real_in (suc left) [] (x ∷ front) rest s e = absurd cc
real_in (suc left) (b ∷ bs) front rest s e = real_in left bs front rest s e
real_in zero (b ∷ bs) [] rest s e = subst IsReal (let heads : symbol_at b bs ≡ s = cc in heads) (real_at b bs)
real_in zero (b ∷ bs) (x ∷ front) rest s e = real_in (length (symbol_at b bs).text - 1) bs front rest s (let tails : symbols_from (length (symbol_at b bs).text - 1) bs ≡ front ++ s ∷ rest = cc in tails)

is_semi : (s : Symbol) → s.character ≡ Some 59 → IsReal s → s ≡ semi
unfolding IsReal
is_semi s e real =
    let symbol : Option ℕ → List ℕ → Symbol = λ c t. record { character = c; text = t } in
    ap (λ c. symbol c s.text) e ∙ ap (symbol (Some 59)) (real e)

-- one symbol, which is `;`
pub record IsOneEnd (p : List Symbol) : Type 0 where
  pub symbol : Symbol
  pub alone : p ≡ symbol ∷ []
  pub is : symbol.character ≡ Some 59

-- a front that goes up to a `;`
record UpToEnd (xs : List Symbol) : Type 0 where
  before : List Symbol
  last : Symbol
  parts : xs ≡ before ++ last ∷ []
  is : last.character ≡ Some 59

module _ {S : Type 0} (opens : Symbol → S) (goes_on : S → Symbol → Option S) (ends : List Symbol → Bool) (one_end : (p : List Symbol) → ends p ≡ true → IsOneEnd p)
    (closed : (p : List Symbol) (s : S) (x : Symbol) → ends p ≡ true → state opens goes_on p ≡ Some s → goes_on s x ≡ None) where
  last_is : (ps front : List (List Symbol)) → up_to ends ps ≡ Some front → UpToEnd (flat_map (λ q. q) front)
  last_is [] front found = absurd cc
  last_is (p ∷ ps) front found = ⊎_elim
      (λ e. let one = one_end p e.yes in
      record { before = []; last = one.symbol; parts = ap (flat_map (λ q. q)) e.one ∙ ap (λ r. r ++ []) one.alone; is = one.is })
      (λ l. let w = last_is ps l.inner l.found in
      record { before = p ++ w.before; last = w.last; parts = ap (flat_map (λ q. q)) l.more ∙ ap (λ r. p ++ r) w.parts ∙ sym (append_assoc p w.before (w.last ∷ [])); is = w.is })
      (up_to_cases ends p ps front found)

  stable_at : (bs later : List ℕ) (front : List (List Symbol)) (xs : List Symbol) → symbols bs ≡ xs → up_to ends (divide opens goes_on xs) ≡ Some front → up_to ends (divide opens goes_on (symbols (bs ++ later))) ≡ Some front
  stable_at bs later front [] is found = absurd cc
  stable_at bs later front (x ∷ xs) is found =
      let f = found_in opens goes_on ends (opens x) (x ∷ []) xs front found in
      let w = last_is (divide opens goes_on (x ∷ xs)) front found in
      let taken_last : x ∷ f.taken ≡ w.before ++ w.last ∷ [] = f.whole ∙ w.parts in
      let all_last : symbols bs ≡ w.before ++ w.last ∷ f.left = is ∙ ap (λ r. x ∷ r) f.is ∙ ap (λ r. r ++ f.left) taken_last ∙ append_assoc w.before (w.last ∷ []) f.left in
      let same : w.last ≡ semi = is_semi w.last w.is (real_in 0 bs w.before f.left w.last all_last) in
      let taken : x ∷ f.taken ≡ w.before ++ semi ∷ [] = taken_last ∙ ap (λ s. w.before ++ s ∷ []) same in
      let all : symbols bs ≡ w.before ++ semi ∷ f.left = all_last ∙ ap (λ s. w.before ++ s ∷ f.left) same in
      ap (λ r. up_to ends (divide opens goes_on r)) (continued bs w.before f.left all later)
      ∙ stable opens goes_on ends closed (w.before ++ semi ∷ []) (symbols (spell f.left ++ later)) front (ap (λ r. up_to ends (divide opens goes_on r)) (sym taken) ∙ f.again)

  -- what `;` ends in the bytes is the same in every continuation of them
  pub stable_bytes : (bs later : List ℕ) (front : List (List Symbol)) → up_to ends (divide opens goes_on (symbols bs)) ≡ Some front → up_to ends (divide opens goes_on (symbols (bs ++ later))) ≡ Some front
  stable_bytes bs later front found = stable_at bs later front (symbols bs) refl found
