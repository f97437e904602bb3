-- Pairs as a finite map: the tuple of them gives each name the value that they give it.
use Rattle.std.proofs.Common.{◌≡◌, ℕ, Bool, true, false, List, [], ◌∷◌, Option, Some, refl, sym, ap, ◌∙◌, true≢false}
use Rattle.std.specs.Prelude.{◌||◌, if◌then◌else◌}
use Rattle.std.specs.declared.cmp.Ordering.{Ordering}
use Rattle.std.specs.declared.cmp.Ordering.TheVariants.{Less, Equal, Greater}
use Rattle.std.specs.Cmp.Lexicographic.{same_text}
use Rattle.std.specs.List.{AllByRecursion}
use Rattle.std.specs.List.Sorted.{IsPermutation, IsStrictlySortedBy}
use Rattle.std.proofs.lemmas.List.Sorted.{list_any-IsPermutation}
use Rattle.std.proofs.lemmas.Cmp.{nat_list_eq_equiv}
use Rattle.std.specs.Ordering.{eq_by_cmp}
use Rattle.td_types.specs.model.Types.{same_name}
use Rattle.td_types.specs.model.Headings.{are_distinct, has_name}
use Rattle.td_value.specs.model.Sets.{put_in}
use Rattle.td_value.proofs.SetLaws.{is_set_of}
use Rattle.td_value.specs.model.Values.{Val, Tuple, entry_cmp, tuple_names, tuple_of, value_at}
use Rattle.td_value.specs.code.ValueOrder.{entry_order_total, entry_order_same}
use Rattle.td_types.proofs.DistinctNames.{name_cmp, first_of, second_of}

rising_entries : (e : List ℕ × Val) (es : Tuple) → AllByRecursion (λ m. name_cmp e.0 m ≡ Less) (tuple_names es) → AllByRecursion (λ f. entry_cmp e f ≡ Less) es
rising_entries e [] h = tt
rising_entries e (f ∷ es) h = (rw h.0 refl, rising_entries e es h.1)

by_entries : (es : Tuple) → IsStrictlySortedBy name_cmp (tuple_names es) → IsStrictlySortedBy entry_cmp es
unfolding IsStrictlySortedBy
by_entries [] h = tt
by_entries (e ∷ es) h = (rising_entries e es h.0, by_entries es h.1)

-- entries whose names ascend are the tuple of each permutation of them
pub sorted_is_tuple_of : (es fs : Tuple) → IsPermutation fs es → IsStrictlySortedBy name_cmp (tuple_names es) → es ≡ tuple_of fs
sorted_is_tuple_of es fs p h =
    is_set_of entry_cmp entry_order_total entry_order_same es fs (by_entries es h) (λ t. sym (list_any-IsPermutation (eq_by_cmp entry_cmp t) fs es p))

same_itself : (n : List ℕ) → same_name n n ≡ true
same_itself n = nat_list_eq_equiv.refl n

swapped : (a b c : Bool) → (a || (b || c)) ≡ (b || (a || c))
swapped true true c = refl
swapped true false c = refl
swapped false b c = refl

again : (b c : Bool) → (b || c) ≡ (b || (b || c))
again true c = refl
again false c = refl

has_name-put_in : (m : List ℕ) (e : List ℕ × Val) (es : Tuple) → has_name m (tuple_names (put_in entry_cmp e es)) ≡ has_name m (tuple_names (e ∷ es))
has_name-put_in m e [] = refl
has_name-put_in m e (f ∷ es) = by_order (has_name-put_in m e es) (entry_cmp e f) refl
  where
    by_order : has_name m (tuple_names (put_in entry_cmp e es)) ≡ has_name m (tuple_names (e ∷ es)) → (r : Ordering) → entry_cmp e f ≡ r
        → has_name m (tuple_names (put_in entry_cmp e (f ∷ es))) ≡ has_name m (tuple_names (e ∷ f ∷ es))
    by_order rest Less d = rw d refl
    by_order rest Equal d = rw (d, entry_order_same e f d) (again (same_name f.0 m) (has_name m (tuple_names es)))
    by_order rest Greater d = rw d (ap (λ b. same_name f.0 m || b) rest ∙ swapped (same_name f.0 m) (same_name e.0 m) (has_name m (tuple_names es)))

pub has_name-tuple_of : (m : List ℕ) (es : Tuple) → has_name m (tuple_names (tuple_of es)) ≡ has_name m (tuple_names es)
has_name-tuple_of m [] = refl
has_name-tuple_of m (e ∷ es) = has_name-put_in m e (tuple_of es) ∙ ap (λ b. same_name e.0 m || b) (has_name-tuple_of m es)

pub or_left : (b c : Bool) → (b || c) ≡ false → b ≡ false
or_left true c e = e
or_left false c e = refl

pub or_right : (b c : Bool) → (b || c) ≡ false → c ≡ false
or_right true c e = absurd (true≢false e)
or_right false c e = e

pick : (a b : Bool) (u v w : Option Val) → (a ≡ true → b ≡ true → u ≡ v) → (if a then u else (if b then v else w)) ≡ (if b then v else (if a then u else w))
pick true true u v w h = h refl refl
pick true false u v w h = refl
pick false b u v w h = refl

value_at-put_in : (n : List ℕ) (e : List ℕ × Val) (es : Tuple) → has_name e.0 (tuple_names es) ≡ false → value_at n (put_in entry_cmp e es) ≡ value_at n (e ∷ es)
value_at-put_in n e [] h = refl
value_at-put_in n e (f ∷ es) h = by_order (value_at-put_in n e es (or_right _ _ h)) (entry_cmp e f) refl
  where
    names_differ : same_name f.0 n ≡ true → same_name e.0 n ≡ true → Some f.1 ≡ Some e.1
    names_differ p q =
        let same : f.0 ≡ e.0 = same_text f.0 n (sym p) ∙ sym (same_text e.0 n (sym q)) in
        let itself : same_name f.0 e.0 ≡ true = rw same (same_itself e.0) in
        absurd (true≢false (sym itself ∙ or_left _ _ h))

    by_order : value_at n (put_in entry_cmp e es) ≡ value_at n (e ∷ es) → (r : Ordering) → entry_cmp e f ≡ r → value_at n (put_in entry_cmp e (f ∷ es)) ≡ value_at n (e ∷ f ∷ es)
    by_order rest Less d = rw d refl
    by_order rest Equal d =
        let same : e.0 ≡ f.0 = ap (λ g. g.0) (entry_order_same e f d) in
        let itself : same_name f.0 e.0 ≡ true = rw same (same_itself f.0) in
        absurd (true≢false (sym itself ∙ or_left _ _ h))
    by_order rest Greater d =
        rw d (ap (λ w. if same_name f.0 n then Some f.1 else w) rest ∙ pick (same_name f.0 n) (same_name e.0 n) (Some f.1) (Some e.1) (value_at n es) names_differ)

-- the tuple of pairs of distinct names gives each name the value that they give it
pub value_at-tuple_of : (n : List ℕ) (es : Tuple) → are_distinct (tuple_names es) ≡ true → value_at n (tuple_of es) ≡ value_at n es
value_at-tuple_of n [] h = refl
value_at-tuple_of n (e ∷ es) h =
    value_at-put_in n e (tuple_of es) (has_name-tuple_of e.0 es ∙ first_of _ _ h)
    ∙ ap (λ w. if same_name e.0 n then Some e.1 else w) (value_at-tuple_of n es (second_of _ _ h))
