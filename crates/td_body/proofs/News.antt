-- New members, and what they answer by key.
use Rattle.std.proofs.Common.{◌≡◌, ℕ, ◌+◌, ◌<◌, Bool, true, false, not, cond, ◌||◌, ◌&&◌, List, [], ◌∷◌, ◌++◌, get_or, length, nat_eq, refl, sym, ap, ◌∙◌, arith, subst, true≢false}
use Rattle.std.specs.Prelude.{Some}
use Rattle.std.proofs.lemmas.List.{length-map, map-append}
use Rattle.std.proofs.lemmas.Option.{slice_get-map, slice_get_read}
use Rattle.std.proofs.lemmas.List.Elements.{All-append}
use Rattle.std.specs.List.{All, AllByRecursion, list_any, slice_get}
use Rattle.std.specs.Option.{option_map}
use Rattle.std.specs.List.Sorted.{IsStrictlySortedBy}
use Rattle.std.specs.Cmp.{IsEquivalence, eq_by_cmp_equiv}
use Rattle.std.specs.Ordering.{is_eq}
use Rattle.std.specs.declared.cmp.Ordering.{Ordering}
use Rattle.std.specs.declared.cmp.Ordering.TheVariants.{Less, Equal, Greater}
use Rattle.std.specs.Prelude.{filter}
use Rattle.td_value.specs.model.Values.{HaveSameMembers, IsAscendingBody, Tuple, tuple_cmp}
use Rattle.td_value.specs.code.ValueOrder.{tuple_order_same}
use Rattle.td_value.proofs.Members.{set_members}
use Rattle.td_algebra.proofs.Lists.{contains_filter}
use Rattle.td_body.specs.declared.hashed.index.KeyIndex.{KeyIndex}
use Rattle.td_body.specs.code.KeyIndexes.{IsIndex, agree_at}
use Rattle.td_body.specs.code.KeyParts.{apart_at, tuple_values_at}
use Rattle.td_body.specs.code.Numbered.{live, repeats, tuple_eq}
use Rattle.td_body.specs.code.Members.{AreMembers, IsFresh, places_in, put_tuple, tuples_of}
use Rattle.td_body.proofs.KeyParts.{found_order_total}
use Rattle.td_body.proofs.Lives.{repeats_gap}
use Rattle.td_body.proofs.MembersLaws.{one}
use Rattle.td_body.proofs.Splits.{split_nat}
use Rattle.td_body.proofs.TupleSets.{ascends-set, has-set, has_tuple, same_tuples}

pub all_push : {X : Type 0} (P : X → Type 0) (xs : List X) (x : X) → All P xs → P x → All P (xs ++ x ∷ [])
all_push P xs x all here = All-append P xs (x ∷ []) all (one P x here)

pub places_push : (xs : List KeyIndex) (x : KeyIndex) → places_in (xs ++ x ∷ []) ≡ places_in xs ++ x.places.items ∷ []
places_push xs x = map-append (λ (index : KeyIndex). index.places.items) xs (x ∷ [])

-- what is below each tuple is none of them
no_member : (t : Tuple) (ts : List Tuple) → AllByRecursion (λ u. tuple_cmp t u ≡ Less) ts → has_tuple t ts ≡ false
no_member t [] h = refl
no_member t (u ∷ ts) h = rw h.0 (no_member t ts h.1)

-- a list that ascends has no tuple twice
pub apart_set : (xs : List Tuple) → IsAscendingBody xs → repeats tuple_eq xs ≡ 0
unfolding IsStrictlySortedBy
apart_set [] s = refl
apart_set (x ∷ xs) s =
    let rest = apart_set xs s.1 in
    let none : ◌≡◌ {A = ℕ} (cond (has_tuple x xs) 1 0) 0 = ap (λ b. cond b 1 0) (no_member x xs s.0) in
    omega (arith, rest, none)

-- it is the set of its tuples
pub same_set : (xs : List Tuple) → IsAscendingBody xs → tuples_of xs ≡ xs
same_set xs s = same_tuples (tuples_of xs) xs (ascends-set xs) s (λ t. has-set t xs)

pub set_ascends : (xs : List Tuple) → tuples_of xs ≡ xs → IsAscendingBody xs
set_ascends xs e = subst IsAscendingBody e (ascends-set xs)

pub members_new : (rows : List Tuple) (gone : List Bool) (fixed count : ℕ) (before : List ℕ) (indexes : List KeyIndex) → tuples_of (live rows gone) ≡ live rows gone → length gone ≡ length rows
    → count ≡ length (live rows gone) → before ≡ [] → All (IsIndex rows gone) indexes → All IsFresh indexes → 0 < length indexes → AreMembers rows gone fixed count before indexes []
members_new rows gone fixed count before indexes set marks counted none index fresh some = record {
  marks = marks;
  apart = apart_set (live rows gone) (set_ascends (live rows gone) set);
  proper = refl;
  counted = counted;
  kept = none;
  indexed = index;
  clashes = fresh;
  some = some;
}

-- ---- by key

any_put : (p : Tuple → Bool) (r : Tuple) (s : List Tuple) → list_any p (put_tuple r s) ≡ (p r || list_any p s)
any_put p r [] = refl
any_put p r (x ∷ s) = by (any_put p r s) (tuple_cmp r x) refl
  where
    twice : (a c : Bool) → (a || c) ≡ (a || (a || c))
    twice true c = refl
    twice false c = refl

    turn : (a b c : Bool) → (a || (b || c)) ≡ (b || (a || c))
    turn true true c = refl
    turn true false c = refl
    turn false true c = refl
    turn false false c = refl

    by : list_any p (put_tuple r s) ≡ (p r || list_any p s) → (o : Ordering) → tuple_cmp r x ≡ o → list_any p (put_tuple r (x ∷ s)) ≡ (p r || list_any p (x ∷ s))
    by ih Less e = rw e refl
    by ih Equal e = rw (e, tuple_order_same r x e) (twice (p x) (list_any p s))
    by ih Greater e = rw (e, ih) (turn (p x) (p r) (list_any p s))

any_set : (p : Tuple → Bool) (xs : List Tuple) → list_any p (tuples_of xs) ≡ list_any p xs
any_set p [] = refl
any_set p (x ∷ xs) = any_put p x (tuples_of xs) ∙ ap (λ b. p x || b) (any_set p xs)

put_later : (r x : Tuple) (s : List Tuple) → tuple_cmp r x ≡ Greater → put_tuple r (x ∷ s) ≡ x ∷ put_tuple r s
put_later r x s e = rw e refl

put_first : (r x : Tuple) (s : List Tuple) → tuple_cmp r x ≡ Less → put_tuple r (x ∷ s) ≡ r ∷ x ∷ s
put_first r x s e = rw e refl

-- where a tuple comes into a set
put_gap : (r : Tuple) (s : List Tuple) → has_tuple r s ≡ false → (xs : List Tuple) × (ys : List Tuple) × (put_tuple r s ≡ xs ++ r ∷ ys) × (s ≡ xs ++ ys)
put_gap r [] none = ([], [], refl, refl)
put_gap r (x ∷ s) none = by (put_gap r s) (tuple_cmp r x) refl
  where
    by : (has_tuple r s ≡ false → (xs : List Tuple) × (ys : List Tuple) × (put_tuple r s ≡ xs ++ r ∷ ys) × (s ≡ xs ++ ys)) → (o : Ordering) → tuple_cmp r x ≡ o
        → (xs : List Tuple) × (ys : List Tuple) × (put_tuple r (x ∷ s) ≡ xs ++ r ∷ ys) × (x ∷ s ≡ xs ++ ys)
    by rest Less e = ([], x ∷ s, put_first r x s e, refl)
    by rest Equal e = absurd (true≢false (sym (ap (λ o. is_eq o || has_tuple r s) e) ∙ none))
    by rest Greater e =
        let gap = rest (sym (ap (λ o. is_eq o || has_tuple r s) e) ∙ none) in
        (x ∷ gap.0, gap.1, put_later r x s e ∙ ap (λ l. x ∷ l) gap.2, ap (λ l. x ∷ l) gap.3)

-- as many of a set are alike to others as of its tuples
pub repeats_set : (alike : Tuple → Tuple → Bool) → IsEquivalence alike → (xs : List Tuple) → repeats tuple_eq xs ≡ 0 → repeats alike (tuples_of xs) ≡ repeats alike xs
repeats_set alike laws [] e = refl
repeats_set alike laws (x ∷ xs) e = by (repeats_set alike laws xs) (has_tuple x xs) refl e
  where
    by : (repeats tuple_eq xs ≡ 0 → repeats alike (tuples_of xs) ≡ repeats alike xs) → (b : Bool) → has_tuple x xs ≡ b → cond b 1 0 + repeats tuple_eq xs ≡ 0
        → repeats alike (tuples_of (x ∷ xs)) ≡ repeats alike (x ∷ xs)
    by rest true h z = absurd (omega (arith, z))
    by rest false h z =
        let gap = put_gap x (tuples_of xs) (has-set x xs ∙ h) in
        ap (repeats alike) gap.2 ∙ repeats_gap alike laws gap.0 gap.1 x
        ∙ ap (λ l. cond (list_any (alike x) l) 1 0 + repeats alike l) (sym gap.3)
        ∙ (λ i. cond (any_set (alike x) xs i) 1 0 + rest (omega (arith, z)) i)

apart_is : (places : List ℕ) (xs : List Tuple) → nat_eq (repeats (agree_at places) xs) 0 ≡ apart_at places xs
apart_is places [] = refl
apart_is places (x ∷ xs) = by (apart_is places xs) (list_any (agree_at places x) xs)
  where
    none : (n : ℕ) → nat_eq (1 + n) 0 ≡ false
    none n = split_nat (1 + n) 0 (λ is _. absurd (omega (arith, is))) (λ _ e. e)

    by : nat_eq (repeats (agree_at places) xs) 0 ≡ apart_at places xs → (b : Bool) → nat_eq (cond b 1 0 + repeats (agree_at places) xs) 0 ≡ (not b && apart_at places xs)
    by ih true = none (repeats (agree_at places) xs)
    by ih false = let same : 0 + repeats (agree_at places) xs ≡ repeats (agree_at places) xs = omega arith in ap (λ n. nat_eq n 0) same ∙ ih

-- to agree at places is an equivalence
agree_laws : (places : List ℕ) → IsEquivalence (agree_at places)
agree_laws places =
    let laws = eq_by_cmp_equiv found_order_total in
    record {
      refl = λ s. laws.refl (tuple_values_at places s);
      symm = λ s t. laws.symm (tuple_values_at places s) (tuple_values_at places t);
      congr = λ r s t. laws.congr (tuple_values_at places r) (tuple_values_at places s) (tuple_values_at places t);
    }

-- no two of a set agree where there is no clash
pub apart_now : (places : List ℕ) (xs : List Tuple) (clashes : ℕ) → repeats tuple_eq xs ≡ 0 → clashes ≡ repeats (agree_at places) xs
    → nat_eq clashes 0 ≡ apart_at places (tuples_of xs)
apart_now places xs clashes apart is = ap (λ n. nat_eq n 0) (is ∙ sym (repeats_set (agree_at places) (agree_laws places) xs apart)) ∙ apart_is places (tuples_of xs)

-- the index of a number, as it is seen
module _ (xs : List KeyIndex) (places : List (List ℕ)) (same : places_in xs ≡ places) (k : ℕ) (low : k < length places) where
  pub index_low : k < length xs
  index_low = omega (arith, low, ap length same, length-map xs (λ (index : KeyIndex). index.places.items))

  pub index_places : (x : KeyIndex) → x ≡ get_or xs k x → slice_get places k ≡ Some x.places.items
  index_places x is =
      ap (λ ps. slice_get ps k) (sym same) ∙ slice_get-map (λ (index : KeyIndex). index.places.items) xs k
      ∙ ap (option_map (λ (index : KeyIndex). index.places.items)) (slice_get_read xs (length xs) k x refl index_low is)

-- what is found among tuples is found among their set
pub found_in_set : (p : Tuple → Bool) (xs ts : List Tuple) → HaveSameMembers xs (filter p ts) → HaveSameMembers xs (filter p (tuples_of ts))
found_in_set p xs ts same t = (
  (λ c. let there = (contains_filter p ts t).0 ((same t).0 c) in (contains_filter p (tuples_of ts) t).1 ((set_members ts t).1 there.0, there.1)),
  (λ c. let there = (contains_filter p (tuples_of ts) t).0 c in (same t).1 ((contains_filter p ts t).1 ((set_members ts t).0 there.0, there.1))),
)
