-- What is left of bytes once pieces are taken off their front has the other pieces.
use Rattle.std.proofs.Common.{◌≡◌, ℕ, suc, ◌+◌, ◌-◌, ◌≤◌, List, [], ◌∷◌, ◌++◌, length, take, drop, refl, sym, ap, ◌∙◌, arith, length-append, drop-drop}
use Rattle.std.specs.List.{flat_map}
use Rattle.std.proofs.lemmas.Grind.{flat_map-append}
use Rattle.std.proofs.lemmas.List.{take_at}
use Rattle.td_tree.specs.model.Division as Division
use Rattle.td_tree.specs.model.Pieces.{begins, continues, pieces}
use Rattle.td_tree.specs.model.Symbols.{Symbol, symbol_at, symbols, spell}
use Rattle.td_tree.proofs.law_lemmas.DivisionLaws.{rest_of}
use Rattle.td_tree.proofs.code_lemmas.StableBytes.{spelled, cuts}
use Rattle.td_tree.proofs.law_lemmas.SymbolLaws.{symbols_step}

-- the pieces joined
abbrev pub joined : List (List Symbol) → List Symbol
joined = flat_map (λ q. q)

-- how many bytes they are
abbrev pub size : List (List Symbol) → ℕ
size ps = length (spell (joined ps))

pub size-cons : (p : List Symbol) (ps : List (List Symbol)) → size (p ∷ ps) ≡ length (spell p) + size ps
size-cons p ps = ap length (flat_map-append (λ (s : Symbol). s.text) p (joined ps)) ∙ length-append (spell p) (spell (joined ps))

-- past the bytes of the first symbols come the others
pub symbols_after : (xs ys : List Symbol) (bs : List ℕ) → symbols bs ≡ xs ++ ys → symbols (drop (length (spell xs)) bs) ≡ ys
symbols_after [] ys bs e = e
symbols_after (x ∷ xs) ys [] e = absurd cc
symbols_after (x ∷ xs) ys (b ∷ bs) e =
    let s = symbol_at b bs in
    let c = cuts b bs in
    let all : s ∷ symbols (drop (length s.text - 1) bs) ≡ x ∷ (xs ++ ys) = sym (symbols_step b bs) ∙ e in
    let same : s ≡ x = cc in
    let others : symbols (drop (length s.text - 1) bs) ≡ xs ++ ys = cc in
    let long : length s.text ≡ suc (length c.more) = ap length c.text in
    let total : length (spell (x ∷ xs)) ≡ suc (length (spell xs) + (length s.text - 1)) = omega (arith, length-append x.text (spell xs), ap (λ (t : Symbol). length t.text) same, long) in
    ap (λ n. symbols (drop n (b ∷ bs))) total
    ∙ ap (λ n. symbols (drop n bs)) (let swap : length (spell xs) + (length s.text - 1) ≡ (length s.text - 1) + length (spell xs) = omega arith in swap)
    ∙ ap symbols (sym (drop-drop (length (spell xs)) (length s.text - 1) bs))
    ∙ symbols_after xs ys (drop (length s.text - 1) bs) others

-- the pieces of what is left once these are taken off
pub record TakenOff (bs : List ℕ) (front back : List (List Symbol)) : Type 0 where
  pub again : back ≡ pieces (drop (size front) bs)
  pub within : size front ≤ length bs
  pub text : take (size front) bs ≡ spell (joined front)

pub taken_off : (bs : List ℕ) (front back : List (List Symbol)) → pieces bs ≡ front ++ back → TakenOff bs front back
taken_off bs front back e =
    let r = rest_of begins continues front back (symbols bs) e in
    let parts : bs ≡ spell (joined front) ++ spell r.rest = sym (spelled 0 bs) ∙ ap spell r.parts ∙ flat_map-append (λ (s : Symbol). s.text) (joined front) r.rest in
    record {
      again = r.again ∙ ap (λ xs. Division.divide begins continues xs) (sym (symbols_after (joined front) r.rest bs r.parts));
      within = omega (arith, ap length parts, length-append (spell (joined front)) (spell r.rest));
      text = ap (take (size front)) parts ∙ take_at (spell (joined front)) (spell r.rest) (size front) refl;
    }
