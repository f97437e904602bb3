-- A token's kind is that of its bytes alone.
use Rattle.std.proofs.Common.{◌≡◌, ℕ, suc, ◌+◌, ◌-◌, ◌<◌, ◌≤◌, List, [], ◌∷◌, ◌++◌, length, drop, refl, sym, ap, ◌∙◌, subst, arith, Option, Some, None, if◌then◌else◌, append_assoc, ⊎_elim}
use Rattle.std.specs.Prelude.{slice_get}
use Rattle.std.specs.Str.{is_utf8, chars, continuation_len}
use Rattle.std.proofs.str.Laws.{order}
use Rattle.std.proofs.lemmas.Grind.{flat_map-append}
use Rattle.std.proofs.lemmas.List.{take-append-le, take_all, length-take-le, drop_at, length-append}
use Rattle.td_tree.specs.declared.token.Kind.{Kind}
use Rattle.td_tree.specs.model.Pieces.{pieces, kind_of}
use Rattle.td_tree.specs.laws.Spans.{AreOfTheirKind}
use Rattle.td_tree.specs.model.Statements.{PlacedToken, token_of, tokens_from, tokens}
use Rattle.td_tree.specs.model.Symbols.{Symbol, front_bytes, front_char, symbol_of, symbol_at, symbols, spell}
use Rattle.td_tree.proofs.law_lemmas.FrontLaws.{part_is_none}
use Rattle.td_tree.proofs.law_lemmas.EndOfStatement.{divides}
use Rattle.td_tree.proofs.law_lemmas.PieceLaws.{joined, symbols_after}
use Rattle.td_tree.proofs.law_lemmas.TokenLaws.{joins}
use Rattle.td_tree.proofs.code_lemmas.StableBytes.{cuts, spelled}
use Rattle.td_tree.proofs.law_lemmas.SymbolLaws.{symbols_step}

none_of_part : (b : ℕ) (bs : List ℕ) → length bs < continuation_len b → front_char (b ∷ bs) ≡ None
none_of_part b bs less =
    ap (λ t. if is_utf8 (b ∷ t) then slice_get (chars (b ∷ t)) 0 else None) (take_all (continuation_len b) bs (omega arith))
    ∙ ap (λ v. if v then slice_get (chars (b ∷ bs)) 0 else None) (part_is_none b bs less)

-- with fewer bytes behind it a symbol is the same, as long as its own bytes stand there
same_shorter : (b : ℕ) (bs more : List ℕ) → length (symbol_at b (bs ++ more)).text ≤ suc (length bs) → symbol_at b bs ≡ symbol_at b (bs ++ more)
same_shorter b bs more enough =
    ⊎_elim
    (λ less.
    (elim (front_char (b ∷ (bs ++ more))) as (λ o. front_char (b ∷ (bs ++ more)) ≡ o → length (symbol_of o (front_bytes (b ∷ (bs ++ more))) b).text ≤ suc (length bs) → symbol_at b bs ≡ symbol_of o (front_bytes (b ∷ (bs ++ more))) b) [
      | None ↦ λ is within. ap (λ o. symbol_of o (front_bytes (b ∷ bs)) b) (none_of_part b bs less)
      | Some c ↦ λ is within. absurd (⊎_elim
          (λ short. let wrong : None ≡ Some c = sym (none_of_part b (bs ++ more) short) ∙ is in absurd cc)
          (λ long. omega (arith, less, within, length-take-le (continuation_len b) (bs ++ more) long))
          (order (length (bs ++ more)) (continuation_len b)))
    ]) refl enough)
    (λ whole.
    let same : front_bytes (b ∷ (bs ++ more)) ≡ front_bytes (b ∷ bs) = take-append-le (suc (continuation_len b)) (b ∷ bs) more (omega arith) in
    sym (ap (λ t. symbol_of (if is_utf8 t then slice_get (chars t) 0 else None) t b) same))
    (order (length bs) (continuation_len b))

-- the bytes of some symbols, read alone, are those symbols
pub symbols_again : (xs ys : List Symbol) (bs : List ℕ) → symbols bs ≡ xs ++ ys → symbols (spell xs) ≡ xs
symbols_again [] ys bs e = refl
symbols_again (x ∷ xs) ys [] e = absurd cc
symbols_again (x ∷ xs) ys (b ∷ bs) e =
    let s = symbol_at b bs in
    let c = cuts b bs in
    let rest = drop (length s.text - 1) bs in
    let all : s ∷ symbols rest ≡ x ∷ (xs ++ ys) = sym (symbols_step b bs) ∙ e in
    let same : s ≡ x = cc in
    let others : symbols rest ≡ xs ++ ys = cc in
    let again : symbols (spell xs) ≡ xs = symbols_again xs ys rest others in
    let whole : rest ≡ spell xs ++ spell ys = sym (spelled 0 rest) ∙ ap spell others ∙ flat_map-append (λ (t : Symbol). t.text) xs ys in
    let back : bs ≡ (c.more ++ spell xs) ++ spell ys = sym c.rest ∙ ap (λ r. c.more ++ r) whole ∙ sym (append_assoc c.more (spell xs) (spell ys)) in
    let long : length s.text ≡ suc (length c.more) = ap length c.text in
    let within : length (symbol_at b ((c.more ++ spell xs) ++ spell ys)).text ≤ suc (length (c.more ++ spell xs)) =
    subst (λ (r : List ℕ). length (symbol_at b r).text ≤ suc (length (c.more ++ spell xs))) back (omega (arith, long, length-append c.more (spell xs))) in
    let first : symbol_at b (c.more ++ spell xs) ≡ x = same_shorter b (c.more ++ spell xs) (spell ys) within ∙ ap (symbol_at b) (sym back) ∙ same in
    let text : x.text ≡ b ∷ c.more = ap (λ (t : Symbol). t.text) (sym same) ∙ c.text in
    let past : drop (length x.text - 1) (c.more ++ spell xs) ≡ spell xs = drop_at c.more (spell xs) (length x.text - 1) (omega (arith, ap length text)) in
    ap (λ t. symbols (t ++ spell xs)) text
    ∙ symbols_step b (c.more ++ spell xs)
    ∙ ap (λ (t : Symbol). t ∷ symbols (drop (length t.text - 1) (c.more ++ spell xs))) first
    ∙ ap (λ r. x ∷ symbols r) past
    ∙ ap (λ r. x ∷ r) again

symbols_behind : (xs ys zs : List Symbol) (bs : List ℕ) → symbols bs ≡ xs ++ (ys ++ zs) → symbols (spell ys) ≡ ys
symbols_behind xs ys zs bs e = symbols_again ys zs (drop (length (spell xs)) bs) (symbols_after xs (ys ++ zs) bs e)

kind_more : (o : Option Kind) (at : ℕ) (text : List ℕ) (ts : List PlacedToken) → kind_of (symbols text) ≡ o → AreOfTheirKind ts → AreOfTheirKind (token_of o at text ++ ts)
kind_more None at text ts is others = others
kind_more (Some kind) at text ts is others = (is, others)

kinds_from : (ps : List (List Symbol)) (at : ℕ) (before : List Symbol) (bs : List ℕ) → symbols bs ≡ before ++ joined ps → AreOfTheirKind (tokens_from at ps)
kinds_from [] at before bs e = tt
kinds_from (p ∷ ps) at before bs e =
    kind_more (kind_of p) at (spell p) (tokens_from (at + length (spell p)) ps) (ap kind_of (symbols_behind before p (joined ps) bs e))
    (kinds_from ps (at + length (spell p)) (before ++ p) bs (e ∙ sym (append_assoc before p (joined ps))))

-- a token's kind is that of its bytes
pub kinds : (at : ℕ) (bytes : List ℕ) → AreOfTheirKind (tokens at bytes)
unfolding tokens
kinds at bytes = kinds_from (pieces bytes) at [] bytes (sym (joins (pieces bytes) (symbols bytes) (divides bytes)))
