-- What a text in quotes says, and that its quotes keep it in UTF-8.
use Rattle.std.proofs.Common.{◌≡◌, ℕ, ◌+◌, ◌-◌, ◌<◌, List, [], ◌∷◌, ◌++◌, length, take, drop, get_or, refl, sym, ap, ◌∙◌, subst, arith, rules, true, false, if◌then◌else◌, append_assoc, length-append, IsUtf8}
use Rattle.std.specs.Prelude.{◌==◌}
use Rattle.std.specs.Str.{IsAscii, is_utf8}
use Rattle.std.proofs.lemmas.List.{take_at, drop_at, get_or_at}
use Rattle.std.proofs.lemmas.Str.{is_utf8-from_IsUtf8, IsUtf8-append, IsUtf8-drop, IsUtf8-from_ascii, IsUtf8-from_is_utf8, IsUtf8-nil, IsUtf8-take, IsCharBoundary-after_ascii, IsCharBoundary-before_ascii}
use Rattle.td_tree.specs.model.TextTokens.{with_quotes_doubled, text_in_quotes, with_quotes_undoubled, content}
use Rattle.td_tree.proofs.law_lemmas.RunLaws.{same_number}
use Rattle.td_tree.proofs.law_lemmas.FrontLaws.{invalid}

-- ---- what it says

undoubled_other : (b : ℕ) (bs : List ℕ) → (b == 39) ≡ false → with_quotes_undoubled (b ∷ bs) ≡ b ∷ with_quotes_undoubled bs
undoubled_other b [] e = refl
undoubled_other b (c ∷ bs) e = ap (λ v. if v then 39 ∷ with_quotes_undoubled bs else b ∷ with_quotes_undoubled (c ∷ bs)) e

undoubled_doubled : (said : List ℕ) → with_quotes_undoubled (with_quotes_doubled said) ≡ said
undoubled_doubled [] = refl
undoubled_doubled (b ∷ bs) =
    (elim (b == 39) as (λ v. (b == 39) ≡ v → with_quotes_undoubled (if v then 39 ∷ 39 ∷ with_quotes_doubled bs else b ∷ with_quotes_doubled bs) ≡ b ∷ bs) [
      | true ↦ λ is. ap (λ r. 39 ∷ r) (undoubled_doubled bs) ∙ ap (λ c. c ∷ bs) (sym (same_number b 39 is))
      | false ↦ λ is. undoubled_other b (with_quotes_doubled bs) is ∙ ap (λ r. b ∷ r) (undoubled_doubled bs)
    ]) refl

-- a text in quotes says what was put between its quotes
pub content_quoted : (said : List ℕ) → content (text_in_quotes said) ≡ said
content_quoted said =
    let long : length (text_in_quotes said) - 2 ≡ length (with_quotes_doubled said) = omega (arith, length-append (with_quotes_doubled said) (39 ∷ [])) in
    ap (λ n. with_quotes_undoubled (take n (with_quotes_doubled said ++ 39 ∷ []))) long ∙ ap with_quotes_undoubled (take_at (with_quotes_doubled said) (39 ∷ []) (length (with_quotes_doubled said)) refl) ∙ undoubled_doubled said

-- ---- UTF-8

-- an ASCII byte is a place to cut a text at
cut : (xs ys : List ℕ) (a : ℕ) → a < 128 → IsUtf8 (xs ++ a ∷ ys) → IsUtf8 xs × IsUtf8 ys
cut xs ys a ascii u =
    let all = xs ++ a ∷ ys in
    let at : get_or all (length xs) 0 ≡ a = get_or_at xs a ys 0 (length xs) refl in
    let inside : length xs < length all = omega (arith, length-append xs (a ∷ ys)) in
    let past : drop (length xs + 1) all ≡ ys = ap (drop (length xs + 1)) (sym (append_assoc xs (a ∷ []) ys)) ∙ drop_at (xs ++ a ∷ []) ys (length xs + 1) (length-append xs (a ∷ [])) in (
      subst IsUtf8 (take_at xs (a ∷ ys) (length xs) refl) (IsUtf8-take all (length xs) u (IsCharBoundary-before_ascii all (length xs) inside (omega (arith, at)))),
      subst IsUtf8 past (IsUtf8-drop all (length xs + 1) u (IsCharBoundary-after_ascii all (length xs) u inside (omega (arith, at)))),
    )

one_ascii : (a : ℕ) → a < 128 → IsAscii (a ∷ [])
one_ascii a ascii = search rules

joined : (xs ys : List ℕ) (a : ℕ) → a < 128 → IsUtf8 xs → IsUtf8 ys → IsUtf8 (xs ++ a ∷ ys)
joined xs ys a ascii front back = IsUtf8-append xs (a ∷ ys) front (IsUtf8-append (a ∷ []) ys (IsUtf8-from_ascii (a ∷ []) (one_ascii a ascii)) back)

doubled_utf8 : (said front : List ℕ) → IsUtf8 (front ++ said) → IsUtf8 (front ++ with_quotes_doubled said)
doubled_utf8 [] front u = u
doubled_utf8 (b ∷ bs) front u =
    (elim (b == 39) as (λ v. (b == 39) ≡ v → IsUtf8 (front ++ (if v then 39 ∷ 39 ∷ with_quotes_doubled bs else b ∷ with_quotes_doubled bs))) [
      | true ↦ λ is.
          let parts = cut front bs 39 (omega arith) (subst (λ c. IsUtf8 (front ++ c ∷ bs)) (same_number b 39 is) u) in
          joined front (39 ∷ with_quotes_doubled bs) 39 (omega arith) parts.0 (joined [] (with_quotes_doubled bs) 39 (omega arith) IsUtf8-nil (doubled_utf8 bs [] parts.1))
      | false ↦ λ is. subst IsUtf8 (append_assoc front (b ∷ []) (with_quotes_doubled bs)) (doubled_utf8 bs (front ++ b ∷ []) (subst IsUtf8 (sym (append_assoc front (b ∷ []) bs)) u))
    ]) refl

utf8_doubled : (said front : List ℕ) → IsUtf8 (front ++ with_quotes_doubled said) → IsUtf8 (front ++ said)
utf8_doubled [] front = λ u. u
utf8_doubled (b ∷ bs) front =
    (elim (b == 39) as (λ v. (b == 39) ≡ v → IsUtf8 (front ++ (if v then 39 ∷ 39 ∷ with_quotes_doubled bs else b ∷ with_quotes_doubled bs)) → IsUtf8 (front ++ b ∷ bs)) [
      | true ↦ λ is u.
          let parts = cut front (39 ∷ with_quotes_doubled bs) 39 (omega arith) u in
          subst (λ c. IsUtf8 (front ++ c ∷ bs)) (sym (same_number b 39 is)) (joined front bs 39 (omega arith) parts.0 (utf8_doubled bs [] (cut [] (with_quotes_doubled bs) 39 (omega arith) parts.1).1))
      | false ↦ λ is u. subst IsUtf8 (append_assoc front (b ∷ []) bs) (utf8_doubled bs (front ++ b ∷ []) (subst IsUtf8 (sym (append_assoc front (b ∷ []) (with_quotes_doubled bs))) u))
    ]) refl

quoted_utf8 : (said : List ℕ) → IsUtf8 said → IsUtf8 (text_in_quotes said)
quoted_utf8 said u =
    let none : IsUtf8 [] = IsUtf8-nil in
    joined [] (with_quotes_doubled said ++ 39 ∷ []) 39 (omega arith) none (joined (with_quotes_doubled said) [] 39 (omega arith) (doubled_utf8 said [] u) none)

utf8_quoted : (said : List ℕ) → IsUtf8 (text_in_quotes said) → IsUtf8 said
utf8_quoted said u = utf8_doubled said [] (cut (with_quotes_doubled said) [] 39 (omega arith) (cut [] (with_quotes_doubled said ++ 39 ∷ []) 39 (omega arith) u).1).0

-- the quotes of a text change nothing in whether it is UTF-8
pub same_utf8 : (said : List ℕ) → is_utf8 (text_in_quotes said) ≡ is_utf8 said
same_utf8 said =
    (elim (is_utf8 said) as (λ v. is_utf8 said ≡ v → is_utf8 (text_in_quotes said) ≡ v) [
      | true ↦ λ e. is_utf8-from_IsUtf8 (text_in_quotes said) (quoted_utf8 said (IsUtf8-from_is_utf8 said e))
      | false ↦ λ e. sym (invalid (text_in_quotes said) (λ u. (let wrong : true ≡ false = sym (is_utf8-from_IsUtf8 said (utf8_quoted said u)) ∙ e in absurd cc)))
    ]) refl
