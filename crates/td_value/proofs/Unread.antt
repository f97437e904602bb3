-- A literal with what stands after it is that of one value alone.
use Rattle.std.proofs.Common.{◌≡◌, ◌∙◌, ap, sym, refl, arith, ℕ, suc, ◌<◌, ◌≤◌, ◌^◌, pos, negsuc, ℤ, List, [], ◌∷◌, ◌++◌, length, Bool, true, false, append_assoc, true≢false, inl, inr}
use Rattle.std.specs.Prelude.{◌≢◌, ◌⊎◌, codes, ◌==◌, ◌&&◌, nat_le, if◌then◌else◌}
use Rattle.std.specs.Char.{digit_value}
use Rattle.std.specs.Fmt.{decimal, signed_decimal}
use Rattle.std.specs.Str.Parse.{AllDigits}
use Rattle.std.proofs.lemmas.Fmt.{decimal_injective, decimal_is_IsNumeral}
use Rattle.std.proofs.lemmas.Bool.Decides.{nat_tests}
use Rattle.std.proofs.lemmas.Int.{ints}
use Rattle.std.proofs.lemmas.Str.Parse.{digit_from_value}
use Rattle.td_types.specs.model.Types as types
use Rattle.td_types.specs.model.Types.{Attrs, Type', no_attrs}
use Rattle.td_types.specs.model.Texts.{attributes_text, comma_if, type_text}
use Rattle.td_types.proofs.Plain.{IsMarked, IsPlain, cut_front, is_mark, name_plain, plain_cut, tail_of}
use Rattle.td_types.proofs.TypeTexts.{no_name, regroup_3, regroup_5, type_cut}
use Rattle.td_tree.specs.model.TextTokens.{with_quotes_doubled}
use Rattle.td_value.specs.model.Literal.{literal, fields_literal, parts_literal, rows_literal}
use Rattle.td_value.specs.model.Values.{Val, boolean, integer, char, user, tuple, relation, Parts, no_parts, part, Fields, no_fields, field, Rows, no_rows, row, AreFields, AreRows, AreValues, IsInRange, IsValue, value_kind}

-- nothing stands after a literal, or what closes a list or goes on with it
abbrev IsClosed : List ℕ → Type 0
IsClosed [] = Unit {0}
IsClosed (c ∷ x) = (c ≡ 41) ⊎ (c ≡ 44) ⊎ (c ≡ 125)

-- it goes on with no digit and no quote
abbrev Ends : List ℕ → Type 0
Ends [] = Unit {0}
Ends (c ∷ x) = (10 ≤ digit_value c) × (c ≢ 39)

closed_ends : (x : List ℕ) → IsClosed x → Ends x
closed_ends [] h = tt
closed_ends (c ∷ x) (inl e) = (rw e (omega arith), λ q. omega (arith, e, q))
closed_ends (c ∷ x) (inr (inl e)) = (rw e (omega arith), λ q. omega (arith, e, q))
closed_ends (c ∷ x) (inr (inr e)) = (rw e (omega arith), λ q. omega (arith, e, q))

closed_marked : (x : List ℕ) → IsClosed x → IsMarked x
closed_marked [] h = tt
closed_marked (c ∷ x) (inl e) = rw e refl
closed_marked (c ∷ x) (inr (inl e)) = rw e refl
closed_marked (c ∷ x) (inr (inr e)) = rw e refl

-- ---- numbers

digit_first : (d : ℕ) (y x : List ℕ) → digit_value d < 10 → Ends x → x ≡ d ∷ y → ⊥
digit_first d y [] k h e = cc
digit_first d y (c ∷ x) k h e = omega (arith, k, h.0, ap digit_value (tail_of c d x y e).0)

digits_cut : (ds es x y : List ℕ) → AllDigits 10 ds → AllDigits 10 es → Ends x → Ends y → ds ++ x ≡ es ++ y → (ds ≡ es) × (x ≡ y)
digits_cut [] [] x y a b p q e = (refl, e)
digits_cut [] (d ∷ es) x y a b p q e = absurd (digit_first d (es ++ y) x b.0 p e)
digits_cut (d ∷ ds) [] x y a b p q e = absurd (digit_first d (ds ++ x) y a.0 q (sym e))
digits_cut (c ∷ ds) (d ∷ es) x y a b p q e =
    let both = tail_of c d (ds ++ x) (es ++ y) e in
    let rest = digits_cut ds es x y a.1 b.1 p q both.1 in
    (λ i. both.0 i ∷ rest.0 i, rest.1)

no_sign : (ds x y : List ℕ) → AllDigits 10 ds → 0 < length ds → ds ++ x ≡ 45 ∷ y → ⊥
no_sign [] x y a k e = omega (arith, k)
no_sign (d ∷ ds) x y a k e = omega (arith, a.0, ap digit_value (tail_of d 45 (ds ++ x) y e).0)

below_pos : (n : ℕ) → IsInRange (pos n) → n < 2 ^ 64
below_pos n h = omega (arith, ints, h.1)

below_neg : (n : ℕ) → IsInRange (negsuc n) → suc n < 2 ^ 64
below_neg n h = omega (arith, ints, h.0)

naturals_cut : (m n : ℕ) (x y : List ℕ) → m < 2 ^ 64 → n < 2 ^ 64 → Ends x → Ends y → decimal m ++ x ≡ decimal n ++ y → (m ≡ n) × (x ≡ y)
naturals_cut m n x y a b p q e =
    let cut = digits_cut (decimal m) (decimal n) x y (decimal_is_IsNumeral m a).0.1 (decimal_is_IsNumeral n b).0.1 p q e in
    (decimal_injective m n a b cut.0, cut.1)

numbers_cut : (z w : ℤ) (x y : List ℕ) → IsInRange z → IsInRange w → Ends x → Ends y → signed_decimal z ++ x ≡ signed_decimal w ++ y → (z ≡ w) × (x ≡ y)
numbers_cut (pos m) (pos n) x y a b p q e =
    let cut = naturals_cut m n x y (below_pos m a) (below_pos n b) p q e in (ap pos cut.0, cut.1)
numbers_cut (pos m) (negsuc n) x y a b p q e =
    absurd (no_sign (decimal m) x (decimal (suc n) ++ y) (decimal_is_IsNumeral m (below_pos m a)).0.1 (decimal_is_IsNumeral m (below_pos m a)).0.0 e)
numbers_cut (negsuc m) (pos n) x y a b p q e =
    absurd (no_sign (decimal n) y (decimal (suc m) ++ x) (decimal_is_IsNumeral n (below_pos n b)).0.1 (decimal_is_IsNumeral n (below_pos n b)).0.0 (sym e))
numbers_cut (negsuc m) (negsuc n) x y a b p q e =
    let cut = naturals_cut (suc m) (suc n) x y (below_neg m a) (below_neg n b) p q (tail_of 45 45 (decimal (suc m) ++ x) (decimal (suc n) ++ y) e).1 in
    let same : m ≡ n = omega (arith, cut.0) in
    (ap negsuc same, cut.1)

-- ---- texts

quote_is : (b : ℕ) → (b == 39) ≡ true → b ≡ 39
quote_is b h = grind (arith, nat_tests)

no_quote_is : (b : ℕ) → (b == 39) ≡ false → b ≡ 39 → ⊥
no_quote_is b h e = true≢false (sym (ap (λ c. c == 39) e) ∙ h)

quote_first : (x y : List ℕ) → Ends x → x ≡ 39 ∷ y → ⊥
quote_first [] y h e = cc
quote_first (c ∷ x) y h e = h.1 (tail_of c 39 x y e).0

texts_cut : (s t x y : List ℕ) → Ends x → Ends y → with_quotes_doubled s ++ 39 ∷ x ≡ with_quotes_doubled t ++ 39 ∷ y → (s ≡ t) × (x ≡ y)
texts_cut [] [] x y p q e = (refl, (tail_of 39 39 x y e).1)
texts_cut [] (d ∷ t) x y p q e = by_test (d == 39) refl e
  where
    by_test : (b : Bool) → (d == 39) ≡ b → 39 ∷ x ≡ (if b then 39 ∷ 39 ∷ with_quotes_doubled t else d ∷ with_quotes_doubled t) ++ 39 ∷ y → ([] ≡ d ∷ t) × (x ≡ y)
    by_test true h e = absurd (quote_first x (with_quotes_doubled t ++ 39 ∷ y) p (tail_of 39 39 x (39 ∷ (with_quotes_doubled t ++ 39 ∷ y)) e).1)
    by_test false h e = absurd (no_quote_is d h (sym (tail_of 39 d x (with_quotes_doubled t ++ 39 ∷ y) e).0))
texts_cut (c ∷ s) [] x y p q e = by_test (c == 39) refl e
  where
    by_test : (b : Bool) → (c == 39) ≡ b → (if b then 39 ∷ 39 ∷ with_quotes_doubled s else c ∷ with_quotes_doubled s) ++ 39 ∷ x ≡ 39 ∷ y → (c ∷ s ≡ []) × (x ≡ y)
    by_test true h e = absurd (quote_first y (with_quotes_doubled s ++ 39 ∷ x) q (sym (tail_of 39 39 (39 ∷ (with_quotes_doubled s ++ 39 ∷ x)) y e).1))
    by_test false h e = absurd (no_quote_is c h (tail_of c 39 (with_quotes_doubled s ++ 39 ∷ x) y e).0)
texts_cut (c ∷ s) (d ∷ t) x y p q e = by_tests (texts_cut s t x y p q) (c == 39) (d == 39) refl refl e
  where
    by_tests : (with_quotes_doubled s ++ 39 ∷ x ≡ with_quotes_doubled t ++ 39 ∷ y → (s ≡ t) × (x ≡ y)) → (a b : Bool) → (c == 39) ≡ a → (d == 39) ≡ b
        → (if a then 39 ∷ 39 ∷ with_quotes_doubled s else c ∷ with_quotes_doubled s) ++ 39 ∷ x ≡ (if b then 39 ∷ 39 ∷ with_quotes_doubled t else d ∷ with_quotes_doubled t) ++ 39 ∷ y → (c ∷ s ≡ d ∷ t) × (x ≡ y)
    by_tests rest true true h k e =
        let left : with_quotes_doubled s ++ 39 ∷ x ≡ with_quotes_doubled t ++ 39 ∷ y = cut_front (39 ∷ 39 ∷ []) _ _ e in
        let more = rest left in
        (λ i. (quote_is c h ∙ sym (quote_is d k)) i ∷ more.0 i, more.1)
    by_tests rest true false h k e = absurd (no_quote_is d k (sym (tail_of 39 d (39 ∷ (with_quotes_doubled s ++ 39 ∷ x)) (with_quotes_doubled t ++ 39 ∷ y) e).0))
    by_tests rest false true h k e = absurd (no_quote_is c h (tail_of c 39 (with_quotes_doubled s ++ 39 ∷ x) (39 ∷ (with_quotes_doubled t ++ 39 ∷ y)) e).0)
    by_tests rest false false h k e =
        let both = tail_of c d (with_quotes_doubled s ++ 39 ∷ x) (with_quotes_doubled t ++ 39 ∷ y) e in
        let more = rest both.1 in
        (λ i. both.0 i ∷ more.0 i, more.1)

booleans_cut : (a b : Bool) (x y : List ℕ) → literal (boolean a) ++ x ≡ literal (boolean b) ++ y → (a ≡ b) × (x ≡ y)
booleans_cut true true x y e = (refl, cut_front (codes "TRUE") x y e)
booleans_cut false false x y e = (refl, cut_front (codes "FALSE") x y e)
booleans_cut true false x y e = absurd (omega (arith, (tail_of 84 70 _ _ e).0))
booleans_cut false true x y e = absurd (omega (arith, (tail_of 70 84 _ _ e).0))

-- ---- the word at the front of a literal, and what stands after it

-- TRUE, a number's digits, a user type's name, TUPLE or RELATION
abbrev word : Val → List ℕ
word (boolean b) = literal (boolean b)
word (integer (pos m)) = decimal m
word (integer (negsuc m)) = []
word (char s) = []
word (user n ps) = n
word (tuple fs) = codes "TUPLE"
word (relation h rs) = codes "RELATION"

abbrev after : Val → List ℕ → List ℕ
after (boolean b) x = x
after (integer (pos m)) x = x
after (integer (negsuc m)) x = 45 ∷ decimal (suc m) ++ x
after (char s) x = 39 ∷ (with_quotes_doubled s ++ 39 ∷ x)
after (user n ps) x = 40 ∷ (parts_literal false ps ++ 41 ∷ x)
after (tuple fs) x = codes " {" ++ (fields_literal false fs ++ 125 ∷ x)
after (relation h rs) x = codes " {" ++ (attributes_text false h ++ 125 ∷ (codes " {" ++ (rows_literal false rs ++ 125 ∷ x)))

regroup_4 : (a b c d x : List ℕ) → (((a ++ b) ++ c) ++ d) ++ x ≡ a ++ (b ++ (c ++ (d ++ x)))
regroup_4 a b c d x = simp append_assoc

regroup_6 : (a b c d f g x : List ℕ) → ((((((a ++ b) ++ c) ++ d) ++ f) ++ g) ++ x) ≡ a ++ (b ++ (c ++ (d ++ (f ++ (g ++ x)))))
regroup_6 a b c d f g x = simp append_assoc

parted : (v : Val) (x : List ℕ) → literal v ++ x ≡ word v ++ after v x
parted (boolean b) x = refl
parted (integer (pos m)) x = refl
parted (integer (negsuc m)) x = refl
parted (char s) x = regroup_3 (codes "'") (with_quotes_doubled s) (codes "'") x
parted (user n ps) x = regroup_4 n (codes "(") (parts_literal false ps) (codes ")") x
parted (tuple fs) x = regroup_3 (codes "TUPLE {") (fields_literal false fs) (codes "}") x
parted (relation h rs) x = regroup_6 (codes "RELATION {") (attributes_text false h) (codes "}") (codes " {") (rows_literal false rs) (codes "}") x

digit_plain : (d : ℕ) → 48 ≤ d → d ≤ 57 → is_mark d ≡ false
digit_plain d low high = grind (arith, nat_tests)

digits_plain : (ds : List ℕ) → AllDigits 10 ds → IsPlain ds
digits_plain [] a = tt
digits_plain (d ∷ ds) a =
    let range = digit_from_value d a.0 in
    (digit_plain d range.0 range.1, digits_plain ds a.1)

word_plain : (v : Val) → IsValue v → IsPlain (word v)
word_plain (boolean true) p = (refl, (refl, (refl, (refl, tt))))
word_plain (boolean false) p = (refl, (refl, (refl, (refl, (refl, tt)))))
word_plain (integer (pos m)) p = digits_plain (decimal m) (decimal_is_IsNumeral m (below_pos m p)).0.1
word_plain (integer (negsuc m)) p = tt
word_plain (char s) p = tt
word_plain (user n ps) p = name_plain n p.0
word_plain (tuple fs) p = (refl, (refl, (refl, (refl, (refl, tt)))))
word_plain (relation h rs) p = (refl, (refl, (refl, (refl, (refl, (refl, (refl, (refl, tt))))))))

after_marked : (v : Val) (x : List ℕ) → IsClosed x → IsMarked (after v x)
after_marked (boolean b) x h = closed_marked x h
after_marked (integer (pos m)) x h = closed_marked x h
after_marked (integer (negsuc m)) x h = refl
after_marked (char s) x h = refl
after_marked (user n ps) x h = refl
after_marked (tuple fs) x h = refl
after_marked (relation h rs) x k = refl

-- ---- the kind of a value, by the word at its front and the mark after it

abbrev first : List ℕ → ℕ
first [] = 0
first (c ∷ w) = c

abbrev is_digit : ℕ → Bool
is_digit c = nat_le 48 c && nat_le c 57

abbrev kind_by : ℕ → List ℕ → ℕ
kind_by m w =
    if m == 39 then 2 else (if m == 45 then 1 else (if m == 40 then 3 else (if m == 32 then (if first w == 84 then 4 else 5)
    else (if is_digit (first w) then 1 else (if first w == 0 then 9 else 0)))))

abbrev kind : List ℕ → List ℕ → ℕ
kind w [] = kind_by 0 w
kind w (m ∷ x) = kind_by m w

closed_kind : (w x : List ℕ) → IsClosed x → kind w x ≡ kind_by 0 w
closed_kind w [] h = refl
closed_kind w (c ∷ x) (inl e) = ap (λ m. kind_by m w) e
closed_kind w (c ∷ x) (inr (inl e)) = ap (λ m. kind_by m w) e
closed_kind w (c ∷ x) (inr (inr e)) = ap (λ m. kind_by m w) e

digit_is : (d : ℕ) → 48 ≤ d → d ≤ 57 → is_digit d ≡ true
digit_is d low high = grind (arith, nat_tests)

digits_kind : (ds : List ℕ) → AllDigits 10 ds → 0 < length ds → kind_by 0 ds ≡ 1
digits_kind [] a k = absurd (omega (arith, k))
digits_kind (d ∷ ds) a k =
    let range = digit_from_value d a.0 in
    rw (digit_is d range.0 range.1) refl

kind_is : (v : Val) → IsValue v → (x : List ℕ) → IsClosed x → kind (word v) (after v x) ≡ value_kind v
kind_is (boolean true) p x h = closed_kind (codes "TRUE") x h
kind_is (boolean false) p x h = closed_kind (codes "FALSE") x h
kind_is (integer (pos m)) p x h =
    let numeral = decimal_is_IsNumeral m (below_pos m p) in
    closed_kind (decimal m) x h ∙ digits_kind (decimal m) numeral.0.1 numeral.0.0
kind_is (integer (negsuc m)) p x h = refl
kind_is (char s) p x h = refl
kind_is (user n ps) p x h = refl
kind_is (tuple fs) p x h = refl
kind_is (relation i rs) p x h = refl

ranks_same : (v w : Val) → IsValue v → IsValue w → (x y : List ℕ) → IsClosed x → IsClosed y → literal v ++ x ≡ literal w ++ y → value_kind v ≡ value_kind w
ranks_same v w p q x y h k e =
    let cut = plain_cut (word v) (word w) (after v x) (after w y) (word_plain v p) (word_plain w q) (after_marked v x h) (after_marked w y k)
    (sym (parted v x) ∙ e ∙ parted w y) in
    sym (kind_is v p x h) ∙ (λ i. kind (cut.0 i) (cut.1 i)) ∙ kind_is w q y k

rank_low : (v : Val) → value_kind v < 9
rank_low (boolean b) = omega arith
rank_low (integer z) = omega arith
rank_low (char s) = omega arith
rank_low (user n ps) = omega arith
rank_low (tuple fs) = omega arith
rank_low (relation h rs) = omega arith

-- no literal begins with a parenthesis
literal_first : (w : Val) → IsValue w → (x y : List ℕ) → IsClosed y → 41 ∷ x ≡ literal w ++ y → ⊥
literal_first w q x y k e =
    let cut = plain_cut [] (word w) (41 ∷ x) (after w y) tt (word_plain w q) refl (after_marked w y k) (e ∙ parted w y) in
    let nine : 9 ≡ value_kind w = (λ i. kind (cut.0 i) (cut.1 i)) ∙ kind_is w q y k in
    omega (arith, rank_low w, nine)

-- ---- the parts between commas

parts_closed : (ps : Parts) (x : List ℕ) → IsClosed (parts_literal true ps ++ 41 ∷ x)
parts_closed no_parts x = inl refl
parts_closed (part v ps) x = inr (inl refl)

fields_closed : (fs : Fields) (x : List ℕ) → IsClosed (fields_literal true fs ++ 125 ∷ x)
fields_closed no_fields x = inr (inr refl)
fields_closed (field n v fs) x = inr (inl refl)

-- the heading in a relation type
heading_in : Type' → Attrs
heading_in (types.relation h) = h
heading_in t = no_attrs

-- ---- all values

mutual
  unfolding heading_in

  pub value_cut : (v w : Val) → IsValue v → IsValue w → (x y : List ℕ) → IsClosed x → IsClosed y → literal v ++ x ≡ literal w ++ y → (v ≡ w) × (x ≡ y)
  value_cut (boolean a) (boolean b) p q x y h k e =
      let cut = booleans_cut a b x y e in (ap boolean cut.0, cut.1)
  value_cut (integer z) (integer w) p q x y h k e =
      let cut = numbers_cut z w x y p q (closed_ends x h) (closed_ends y k) e in (ap integer cut.0, cut.1)
  value_cut (char s) (char u) p q x y h k e =
      let whole = sym (parted (char s) x) ∙ e ∙ parted (char u) y in
      let cut = texts_cut s u x y (closed_ends x h) (closed_ends y k) (cut_front (codes "'") _ _ whole) in (ap char cut.0, cut.1)
  value_cut (user n ps) (user m qs) p q x y h k e =
      let names = plain_cut n m _ _ (name_plain n p.0) (name_plain m q.0) refl refl (sym (parted (user n ps) x) ∙ e ∙ parted (user m qs) y) in
      let cut = parts_cut false ps qs p.1 q.1 x y (cut_front (codes "(") _ _ names.1) in
      (λ i. user (names.0 i) (cut.0 i), cut.1)
  value_cut (tuple fs) (tuple gs) p q x y h k e =
      let whole = sym (regroup_3 (codes "TUPLE {") (fields_literal false fs) (codes "}") x) ∙ e ∙ regroup_3 (codes "TUPLE {") (fields_literal false gs) (codes "}") y in
      let cut = fields_cut false fs gs p.0 q.0 x y (cut_front (codes "TUPLE {") _ _ whole) in
      (ap tuple cut.0, cut.1)
  value_cut (relation g rs) (relation i ss) p q x y h k e =
      let whole = sym (regroup_4 (type_text (types.relation g)) (codes " {") (rows_literal false rs) (codes "}") x) ∙ e ∙ regroup_4 (type_text (types.relation i)) (codes " {") (rows_literal false ss) (codes "}") y in
      let headings = type_cut (types.relation g) (types.relation i) p.2 q.2 _ _ refl refl whole in
      let cut = rows_cut false g i rs ss p.0 q.0 x y (cut_front (codes " {") _ _ headings.1) in
      (λ j. relation (heading_in (headings.0 j)) (cut.0 j), cut.1)
  value_cut v w p q x y h k e = let same : value_kind v ≡ value_kind w = ranks_same v w p q x y h k e in absurd (omega (arith, same))

  pub parts_cut : (later : Bool) (ps qs : Parts) → AreValues ps → AreValues qs → (x y : List ℕ)
      → parts_literal later ps ++ 41 ∷ x ≡ parts_literal later qs ++ 41 ∷ y → (ps ≡ qs) × (x ≡ y)
  parts_cut later no_parts no_parts p q x y e = (refl, cut_front (codes ")") x y e)
  parts_cut true no_parts (part w qs) p q x y e = absurd (omega (arith, (tail_of 41 44 _ _ e).0))
  parts_cut false no_parts (part w qs) p q x y e =
      absurd (literal_first w q.0 x _ (parts_closed qs y) (e ∙ regroup_3 [] (literal w) (parts_literal true qs) (41 ∷ y)))
  parts_cut true (part v ps) no_parts p q x y e = absurd (omega (arith, (tail_of 44 41 _ _ e).0))
  parts_cut false (part v ps) no_parts p q x y e =
      absurd (literal_first v p.0 y _ (parts_closed ps x) (sym e ∙ regroup_3 [] (literal v) (parts_literal true ps) (41 ∷ x)))
  parts_cut later (part v ps) (part w qs) p q x y e =
      let whole = sym (regroup_3 (comma_if later) (literal v) (parts_literal true ps) (41 ∷ x)) ∙ e ∙ regroup_3 (comma_if later) (literal w) (parts_literal true qs) (41 ∷ y) in
      let cut = value_cut v w p.0 q.0 _ _ (parts_closed ps x) (parts_closed qs y) (cut_front (comma_if later) _ _ whole) in
      let more = parts_cut true ps qs p.1 q.1 x y cut.1 in
      (λ i. part (cut.0 i) (more.0 i), more.1)

  pub fields_cut : (later : Bool) (fs gs : Fields) → AreFields fs → AreFields gs → (x y : List ℕ)
      → fields_literal later fs ++ 125 ∷ x ≡ fields_literal later gs ++ 125 ∷ y → (fs ≡ gs) × (x ≡ y)
  fields_cut later no_fields no_fields p q x y e = (refl, cut_front (codes "}") x y e)
  fields_cut true no_fields (field m w gs) p q x y e = absurd (omega (arith, (tail_of 125 44 _ _ e).0))
  fields_cut false no_fields (field m w gs) p q x y e =
      absurd (no_name m x _ (name_plain m q.0) (e ∙ regroup_5 [] m (codes " ") (literal w) (fields_literal true gs) (125 ∷ y)))
  fields_cut true (field n v fs) no_fields p q x y e = absurd (omega (arith, (tail_of 44 125 _ _ e).0))
  fields_cut false (field n v fs) no_fields p q x y e =
      absurd (no_name n y _ (name_plain n p.0) (sym e ∙ regroup_5 [] n (codes " ") (literal v) (fields_literal true fs) (125 ∷ x)))
  fields_cut later (field n v fs) (field m w gs) p q x y e =
      let whole = sym (regroup_5 (comma_if later) n (codes " ") (literal v) (fields_literal true fs) (125 ∷ x)) ∙ e ∙ regroup_5 (comma_if later) m (codes " ") (literal w) (fields_literal true gs) (125 ∷ y) in
      let names = plain_cut n m _ _ (name_plain n p.0) (name_plain m q.0) refl refl (cut_front (comma_if later) _ _ whole) in
      let cut = value_cut v w p.1 q.1 _ _ (fields_closed fs x) (fields_closed gs y) (cut_front (codes " ") _ _ names.1) in
      let more = fields_cut true fs gs p.2 q.2 x y cut.1 in
      (λ i. field (names.0 i) (cut.0 i) (more.0 i), more.1)

  pub rows_cut : (later : Bool) (h i : Attrs) (rs ss : Rows) → AreRows h rs → AreRows i ss → (x y : List ℕ)
      → rows_literal later rs ++ 125 ∷ x ≡ rows_literal later ss ++ 125 ∷ y → (rs ≡ ss) × (x ≡ y)
  rows_cut later h i no_rows no_rows p q x y e = (refl, cut_front (codes "}") x y e)
  rows_cut true h i no_rows (row gs ss) p q x y e = absurd (omega (arith, (tail_of 125 44 _ _ e).0))
  rows_cut false h i no_rows (row gs ss) p q x y e = absurd (omega (arith, (tail_of 125 84 _ _ e).0))
  rows_cut true h i (row fs rs) no_rows p q x y e = absurd (omega (arith, (tail_of 44 125 _ _ e).0))
  rows_cut false h i (row fs rs) no_rows p q x y e = absurd (omega (arith, (tail_of 84 125 _ _ e).0))
  rows_cut later h i (row fs rs) (row gs ss) p q x y e =
      let whole = sym (regroup_5 (comma_if later) (codes "TUPLE {") (fields_literal false fs) (codes "}") (rows_literal true rs) (125 ∷ x)) ∙ e ∙ regroup_5 (comma_if later) (codes "TUPLE {") (fields_literal false gs) (codes "}") (rows_literal true ss) (125 ∷ y) in
      let cut = fields_cut false fs gs p.0.0 q.0.0 _ _ (cut_front (codes "TUPLE {") _ _ (cut_front (comma_if later) _ _ whole)) in
      let more = rows_cut true h i rs ss p.1 q.1 x y cut.1 in
      (λ j. row (cut.0 j) (more.0 j), more.1)
