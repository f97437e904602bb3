-- Bytes in UTF-8 compare as the code points of their characters do.
use Rattle.std.proofs.Common.{◌≡◌, ◌∙◌, inl, inr, ap, refl, sym, arith, ℕ, ◌+◌, ◌*◌, ◌/◌, ◌%◌, ◌<◌, ◌≤◌, List, [], ◌∷◌, ◌++◌, lt-ltb, le-ltb}
use Rattle.std.specs.Prelude.{◌⊎◌}
use Rattle.std.specs.Cmp.{nat_cmp_is}
use Rattle.std.specs.Cmp.Lexicographic.{slice_cmp}
use Rattle.std.specs.Ordering.{nat_cmp, ordering_then}
use Rattle.std.specs.Str.{chars}
use Rattle.std.specs.declared.cmp.Ordering.{Ordering}
use Rattle.std.specs.declared.cmp.Ordering.TheVariants.{Less, Equal, Greater}
use Rattle.std.proofs.Math.Nat.{div-add-mod, div-div-eq-div-mul, mod-lt}
use Rattle.std.proofs.Math.Utf8.{encode, encodes}
use Rattle.std.proofs.lemmas.Bool.{cases_order}
use Rattle.std.proofs.lemmas.Str.{encodes-chars}
use Rattle.td_tree.specs.laws.NameLaws.{BytesCompareAsCodePoints}

-- ---- numbers

less : (x y : ℕ) → x < y → nat_cmp x y ≡ Less
less x y h = sym (nat_cmp_is x y Less h)

same : (x y : ℕ) → x ≡ y → nat_cmp x y ≡ Equal
same x y h = sym (nat_cmp_is x y Equal h)

more : (x y : ℕ) → y < x → nat_cmp x y ≡ Greater
more x y h = sym (nat_cmp_is x y Greater h)

below : (a b : ℕ) → (a < b) ⊎ (b ≤ a)
below a b = by_order (cases_order a b)
  where
    by_order : (a ≡ b) ⊎ ((a < b) ⊎ (b < a)) → (a < b) ⊎ (b ≤ a)
    by_order (inl e) = inr (omega (arith, e))
    by_order (inr (inl l)) = inl l
    by_order (inr (inr g)) = inr (omega (arith, g))

-- two numbers compare as their sums with a third
shifted : (k a b : ℕ) → nat_cmp (k + a) (k + b) ≡ nat_cmp a b
shifted k a b = by_order (cases_order a b)
  where
    by_order : (a ≡ b) ⊎ ((a < b) ⊎ (b < a)) → nat_cmp (k + a) (k + b) ≡ nat_cmp a b
    by_order (inl e) = same (k + a) (k + b) (ap (λ n. k + n) e) ∙ sym (same a b e)
    by_order (inr (inl l)) = less (k + a) (k + b) (omega (arith, l)) ∙ sym (less a b l)
    by_order (inr (inr g)) = more (k + a) (k + b) (omega (arith, g)) ∙ sym (more a b g)

in_turn : (o p r : Ordering) → ordering_then (ordering_then o p) r ≡ ordering_then o (ordering_then p r)
in_turn Less p r = refl
in_turn Equal p r = refl
in_turn Greater p r = refl

-- two numbers compare by their higher digits, and then by their last one
by_digits : (c d : ℕ) → nat_cmp c d ≡ ordering_then (nat_cmp (c / 64) (d / 64)) (nat_cmp (c % 64) (d % 64))
by_digits c d = by_high (cases_order (c / 64) (d / 64)) (cases_order (c % 64) (d % 64)) (div-add-mod c 64) (div-add-mod d 64) (mod-lt c (omega arith)) (mod-lt d (omega arith))
  where
    by_high : (c / 64 ≡ d / 64) ⊎ ((c / 64 < d / 64) ⊎ (d / 64 < c / 64)) → (c % 64 ≡ d % 64) ⊎ ((c % 64 < d % 64) ⊎ (d % 64 < c % 64))
        → 64 * (c / 64) + c % 64 ≡ c → 64 * (d / 64) + d % 64 ≡ d → c % 64 < 64 → d % 64 < 64
        → nat_cmp c d ≡ ordering_then (nat_cmp (c / 64) (d / 64)) (nat_cmp (c % 64) (d % 64))
    by_high (inl e) (inl f) p q m n = rw (same (c / 64) (d / 64) e, same (c % 64) (d % 64) f) (same c d (omega (arith, e, f, p, q)))
    by_high (inl e) (inr (inl l)) p q m n = rw (same (c / 64) (d / 64) e, less (c % 64) (d % 64) l) (less c d (omega (arith, e, l, p, q)))
    by_high (inl e) (inr (inr g)) p q m n = rw (same (c / 64) (d / 64) e, more (c % 64) (d % 64) g) (more c d (omega (arith, e, g, p, q)))
    by_high (inr (inl l)) f p q m n = rw (less (c / 64) (d / 64) l) (less c d (omega (arith, l, p, q, m, n)))
    by_high (inr (inr g)) f p q m n = rw (more (c / 64) (d / 64) g) (more c d (omega (arith, g, p, q, m, n)))

by_last : (c d : ℕ) (r : Ordering) → ordering_then (nat_cmp (c / 64) (d / 64)) (ordering_then (nat_cmp (c % 64) (d % 64)) r) ≡ ordering_then (nat_cmp c d) r
by_last c d r = sym (in_turn (nat_cmp (c / 64) (d / 64)) (nat_cmp (c % 64) (d % 64)) r) ∙ ap (λ o. ordering_then o r) (sym (by_digits c d))

-- ---- characters

one_byte : (c : ℕ) → c < 128 → encode c ≡ c ∷ []
unfolding encode
one_byte c h = rw (lt-ltb c 128 h) refl

two_bytes : (c : ℕ) → 128 ≤ c → c < 2048 → encode c ≡ (192 + c / 64) ∷ (128 + c % 64) ∷ []
unfolding encode
two_bytes c l h = rw (le-ltb c 128 l, lt-ltb c 2048 h) refl

three_bytes : (c : ℕ) → 2048 ≤ c → c < 65536 → encode c ≡ (224 + c / 4096) ∷ (128 + (c / 64) % 64) ∷ (128 + c % 64) ∷ []
unfolding encode
three_bytes c l h = rw (le-ltb c 128 (omega (arith, l)), le-ltb c 2048 l, lt-ltb c 65536 h) refl

four_bytes : (c : ℕ) → 65536 ≤ c
    → encode c ≡ (240 + c / 262144) ∷ (128 + (c / 4096) % 64) ∷ (128 + (c / 64) % 64) ∷ (128 + c % 64) ∷ []
unfolding encode
four_bytes c l = rw (le-ltb c 128 (omega (arith, l)), le-ltb c 2048 (omega (arith, l)), le-ltb c 65536 l) refl

-- how the bytes of a character, and what follows them, compare with those of another
abbrev Compares : ℕ → ℕ → Type 0
Compares c d = (x y : List ℕ) → slice_cmp nat_cmp (encode c ++ x) (encode d ++ y) ≡ ordering_then (nat_cmp c d) (slice_cmp nat_cmp x y)

two_compare : (c d : ℕ) → 128 ≤ c → c < 2048 → 128 ≤ d → d < 2048 → Compares c d
two_compare c d a b e f x y =
    rw (two_bytes c a b, two_bytes d e f, shifted 192 (c / 64) (d / 64), shifted 128 (c % 64) (d % 64))
    (by_last c d (slice_cmp nat_cmp x y))

twice : (c : ℕ) → c / 4096 ≡ c / 64 / 64
twice c = sym (div-div-eq-div-mul c 64 64)

thrice : (c : ℕ) → c / 262144 ≡ c / 64 / 64 / 64
thrice c = sym (ap (λ n. n / 64) (div-div-eq-div-mul c 64 64) ∙ div-div-eq-div-mul c 4096 64)

by_two_digits : (c d : ℕ) (r : Ordering)
    → ordering_then (nat_cmp (c / 64 / 64) (d / 64 / 64)) (ordering_then (nat_cmp ((c / 64) % 64) ((d / 64) % 64)) (ordering_then (nat_cmp (c % 64) (d % 64)) r)) ≡ ordering_then (nat_cmp c d) r
by_two_digits c d r = by_last (c / 64) (d / 64) (ordering_then (nat_cmp (c % 64) (d % 64)) r) ∙ by_last c d r

three_compare : (c d : ℕ) → 2048 ≤ c → c < 65536 → 2048 ≤ d → d < 65536 → Compares c d
three_compare c d a b e f x y =
    rw (three_bytes c a b, three_bytes d e f, shifted 224 (c / 4096) (d / 4096), shifted 128 ((c / 64) % 64) ((d / 64) % 64), shifted 128 (c % 64) (d % 64), twice c, twice d)
    (by_two_digits c d (slice_cmp nat_cmp x y))

four_compare : (c d : ℕ) → 65536 ≤ c → 65536 ≤ d → Compares c d
four_compare c d a b x y =
    rw (four_bytes c a, four_bytes d b, shifted 240 (c / 262144) (d / 262144), shifted 128 ((c / 4096) % 64) ((d / 4096) % 64), shifted 128 ((c / 64) % 64) ((d / 64) % 64), shifted 128 (c % 64) (d % 64), thrice c, thrice d, twice c, twice d)
    (by_two_digits (c / 64) (d / 64) (ordering_then (nat_cmp (c % 64) (d % 64)) (slice_cmp nat_cmp x y)) ∙ by_last c d (slice_cmp nat_cmp x y))

-- how many bytes a character has
data Width (c : ℕ) : Type 0 where
  one : c < 128 → Width c
  two : 128 ≤ c → c < 2048 → Width c
  three : 2048 ≤ c → c < 65536 → Width c
  four : 65536 ≤ c → Width c

width : (c : ℕ) → Width c
width c = by_first (below c 128) (below c 2048) (below c 65536)
  where
    by_first : (c < 128) ⊎ (128 ≤ c) → (c < 2048) ⊎ (2048 ≤ c) → (c < 65536) ⊎ (65536 ≤ c) → Width c
    by_first (inl h) s t = one h
    by_first (inr a) (inl h) t = two a h
    by_first (inr a) (inr b) (inl h) = three b h
    by_first (inr a) (inr b) (inr e) = four e

low_of_two : (c : ℕ) → c < 2048 → c / 64 < 32
low_of_two c h = omega (arith, h, div-add-mod c 64)

low_of_three : (c : ℕ) → c < 65536 → c / 4096 < 16
low_of_three c h = omega (arith, h, div-add-mod c 4096)

by_width : (c d : ℕ) → Width c → Width d → Compares c d
by_width c d (one h) (one k) x y = rw (one_byte c h, one_byte d k) refl
by_width c d (one h) (two a b) x y = rw (one_byte c h, two_bytes d a b, less c (192 + d / 64) (omega (arith, h)), less c d (omega (arith, h, a))) refl
by_width c d (one h) (three a b) x y = rw (one_byte c h, three_bytes d a b, less c (224 + d / 4096) (omega (arith, h)), less c d (omega (arith, h, a))) refl
by_width c d (one h) (four a) x y = rw (one_byte c h, four_bytes d a, less c (240 + d / 262144) (omega (arith, h)), less c d (omega (arith, h, a))) refl
by_width c d (two a b) (one k) x y = rw (two_bytes c a b, one_byte d k, more (192 + c / 64) d (omega (arith, k)), more c d (omega (arith, k, a))) refl
by_width c d (two a b) (two e f) x y = two_compare c d a b e f x y
by_width c d (two a b) (three e f) x y = rw (two_bytes c a b, three_bytes d e f, less (192 + c / 64) (224 + d / 4096) (omega (arith, low_of_two c b)), less c d (omega (arith, b, e))) refl
by_width c d (two a b) (four e) x y = rw (two_bytes c a b, four_bytes d e, less (192 + c / 64) (240 + d / 262144) (omega (arith, low_of_two c b)), less c d (omega (arith, b, e))) refl
by_width c d (three a b) (one k) x y = rw (three_bytes c a b, one_byte d k, more (224 + c / 4096) d (omega (arith, k)), more c d (omega (arith, k, a))) refl
by_width c d (three a b) (two e f) x y = rw (three_bytes c a b, two_bytes d e f, more (224 + c / 4096) (192 + d / 64) (omega (arith, low_of_two d f)), more c d (omega (arith, a, f))) refl
by_width c d (three a b) (three e f) x y = three_compare c d a b e f x y
by_width c d (three a b) (four e) x y = rw (three_bytes c a b, four_bytes d e, less (224 + c / 4096) (240 + d / 262144) (omega (arith, low_of_three c b)), less c d (omega (arith, b, e))) refl
by_width c d (four a) (one k) x y = rw (four_bytes c a, one_byte d k, more (240 + c / 262144) d (omega (arith, k)), more c d (omega (arith, k, a))) refl
by_width c d (four a) (two e f) x y = rw (four_bytes c a, two_bytes d e f, more (240 + c / 262144) (192 + d / 64) (omega (arith, low_of_two d f)), more c d (omega (arith, a, f))) refl
by_width c d (four a) (three e f) x y = rw (four_bytes c a, three_bytes d e f, more (240 + c / 262144) (224 + d / 4096) (omega (arith, low_of_three d f)), more c d (omega (arith, a, f))) refl
by_width c d (four a) (four e) x y = four_compare c d a e x y

-- ---- texts

none_first : (d : ℕ) (ys : List ℕ) → Width d → slice_cmp nat_cmp [] (encode d ++ ys) ≡ Less
none_first d ys (one h) = rw (one_byte d h) refl
none_first d ys (two a b) = rw (two_bytes d a b) refl
none_first d ys (three a b) = rw (three_bytes d a b) refl
none_first d ys (four a) = rw (four_bytes d a) refl

none_last : (c : ℕ) (xs : List ℕ) → Width c → slice_cmp nat_cmp (encode c ++ xs) [] ≡ Greater
none_last c xs (one h) = rw (one_byte c h) refl
none_last c xs (two a b) = rw (two_bytes c a b) refl
none_last c xs (three a b) = rw (three_bytes c a b) refl
none_last c xs (four a) = rw (four_bytes c a) refl

encodes_compare : (cs ds : List ℕ) → slice_cmp nat_cmp (encodes cs) (encodes ds) ≡ slice_cmp nat_cmp cs ds
encodes_compare [] [] = refl
encodes_compare [] (d ∷ ds) = none_first d (encodes ds) (width d)
encodes_compare (c ∷ cs) [] = none_last c (encodes cs) (width c)
encodes_compare (c ∷ cs) (d ∷ ds) = by_width c d (width c) (width d) (encodes cs) (encodes ds) ∙ ap (ordering_then (nat_cmp c d)) (encodes_compare cs ds)

pub bytes_compare : BytesCompareAsCodePoints
bytes_compare s t p q = (λ i. slice_cmp nat_cmp (sym (encodes-chars s p) i) (sym (encodes-chars t q) i)) ∙ encodes_compare (chars s) (chars t)
