-- The values of tuples on names: where they stand, and what equal ones tell.
use Rattle.std.proofs.Common.{◌≡◌, ◌∙◌, ap, sym, refl, subst, arith, ℕ, ◌+◌, ◌<◌, Bool, true, false, List, [], ◌∷◌, ◌++◌, append-nil, Option, Some, None, filter, get_or, length, map, take, true≢false}
use Rattle.std.specs.Prelude.{◌||◌, is_some, if◌then◌else◌, option_map}
use Rattle.std.specs.Bool.{Decides}
use Rattle.std.specs.List.{All, AllByRecursion, list_all, list_any, slice_get}
use Rattle.std.proofs.lemmas.Cmp.{nat_list_cmp_total}
use Rattle.std.proofs.lemmas.List.{length-map, map-append, take_more}
use Rattle.std.proofs.lemmas.List.Elements.{All-from_recursion, All-get_or, All-head, All-tail, filter-append}
use Rattle.std.proofs.lemmas.Map.Lookups.{exact_bytes}
use Rattle.std.proofs.lemmas.Option.{get_or_from_slice_get, slice_get-get_or, slice_get-map, slice_get_within}
use Rattle.std.proofs.lemmas.Slice.Eq.{bytes_eq-Decides, slice_eq-Decides}
use Rattle.td_types.specs.model.Headings.{common_part, has_attribute, has_attributes, has_name, projection}
use Rattle.td_types.specs.model.Types.{Attribute, Heading, attribute_names, same_name, type_at}
use Rattle.td_types.proofs.HeadingLaws.{has_attribute-names, name_cmp, same_name-itself, same_name-ties, type_at-common, type_at-projection}
use Rattle.td_value.specs.model.Agreement.{agree_on}
use Rattle.td_value.specs.model.Sets.{has}
use Rattle.td_value.specs.code.ValueOrder.{tuple_Decides, value_Decides}
use Rattle.td_value.specs.model.Values.{Val, boolean, IsTupleOf, Tuple, projected_tuple, tuple_names, type_of, value_at}
use Rattle.td_value.specs.code.Views.{tuple_view, values_of}
use Rattle.td_value.proofs.Agreement.{names_ascend, value_of_projection}
use Rattle.td_value.proofs.Kept.{IsTuple-filter}
use Rattle.td_value.proofs.SetLaws.{same_members}
use Rattle.td_value.proofs.Zips.{unzipped}
use Rattle.td_algebra.proofs.Entries.{as_many, has_name-heading, has_value}
use Rattle.td_algebra.proofs.Members.{both_true, first_true, second_true}
use Rattle.td_algebra.specs.code.Lookups.{ArePlacesOf, AreWithin, StandAt, are_same, has_part, part_of, partners_in, values_at, values_on}

-- ---- values at places

within : (all : List Val) (places : List ℕ) (vs : List Val) → map (slice_get all) places ≡ map Some vs
    → AllByRecursion (λ p. p < length all) places
within all [] vs e = tt
within all (p ∷ places) [] e = absurd (cc)
within all (p ∷ places) (v ∷ vs) e =
    let here : slice_get all p ≡ Some v = cc in
    let rest : map (slice_get all) places ≡ map Some vs = cc in
    (slice_get_within all p v here, within all places vs rest)

-- places at which values stand are places of the tuple
pub stand_within : (places : List ℕ) (vs : List Val) (t : Tuple) → StandAt places vs t
    → All (λ p. p < length (values_of t)) places
stand_within places vs t e = All-from_recursion (λ p. p < length (values_of t)) places (within (values_of t) places vs e)

taken_at : (all : List Val) (places : List ℕ) (vs : List Val) → map (slice_get all) places ≡ map Some vs
    → values_at places all ≡ vs
taken_at all [] [] e = refl
taken_at all [] (v ∷ vs) e = absurd (cc)
taken_at all (p ∷ places) [] e = absurd (cc)
taken_at all (p ∷ places) (v ∷ vs) e =
    let here : slice_get all p ≡ Some v = cc in
    let rest : map (slice_get all) places ≡ map Some vs = cc in
    λ i. get_or_from_slice_get all p v (boolean false) here i ∷ taken_at all places vs rest i

-- the values at places are those that stand there
pub stand_part : (places : List ℕ) (vs : List Val) (t : Tuple) → StandAt places vs t → part_of places t ≡ vs
stand_part places vs t e = taken_at (values_of t) places vs e

-- one place more
pub stand_more : (places : List ℕ) (vs : List Val) (t : Tuple) (p : ℕ) (v : Val) → StandAt places vs t
    → slice_get (values_of t) p ≡ Some v
    → StandAt (places ++ p ∷ []) (vs ++ v ∷ []) t
stand_more places vs t p v e is =
    map-append (slice_get (values_of t)) places (p ∷ []) ∙ (λ i. e i ++ is i ∷ []) ∙ sym (map-append Some vs (v ∷ []))

-- places of a heading are places of each of its tuples
pub places_within : (names : List (List ℕ)) (h : Heading) (places : List ℕ) (t : Tuple) → ArePlacesOf names h places
    → IsTupleOf h t → AreWithin places (values_of t)
places_within names h places t are p = stand_within places (values_on names t) t (are t p)

-- the same places of the same heading's names
pub same_places : (g k h i : Heading) (places passed : List ℕ) → g ≡ k → h ≡ i → passed ≡ places
    → ArePlacesOf (attribute_names g) h places → ArePlacesOf (attribute_names k) i passed
same_places g k h i places passed e d is are =
    subst (ArePlacesOf (attribute_names k) i) (sym is)
    (subst (λ j. ArePlacesOf (attribute_names k) j places) d (subst (λ j. ArePlacesOf (attribute_names j) h places) e are))

pub rows_within : (names : List (List ℕ)) (h : Heading) (places : List ℕ) (ts : List Tuple) → ArePlacesOf names h places
    → All (IsTupleOf h) ts → All (λ t. AreWithin places (values_of t)) ts
rows_within names h places ts are all = λ k d l. places_within names h places (get_or ts k d) are (all k d l)

-- a row of a relation has its heading
pub row_headed : (h : Heading) (ts us : List Tuple) (i : ℕ) (t : Tuple) → us ≡ ts → t ≡ get_or us i t → i < length us
    → All (IsTupleOf h) ts → IsTupleOf h t
row_headed h ts us i t is at l all =
    subst (IsTupleOf h) (sym at) (All-get_or (IsTupleOf h) us i t l (subst (All (IsTupleOf h)) (sym is) all))

-- ---- the places of a heading's attributes that another has too

values_on_more : (names : List (List ℕ)) (t : Tuple) (e : List ℕ × Val)
    → values_on names (t ++ e ∷ []) ≡ (if has_name e.0 names then values_on names t ++ e.1 ∷ [] else values_on names t)
values_on_more names t e =
    ap values_of (filter-append (λ f. has_name f.0 names) t (e ∷ []))
    ∙ map-append (λ f. f.1) (projected_tuple names t) (filter (λ f. has_name f.0 names) (e ∷ []))
    ∙ by_test (has_name e.0 names)
  where
    by_test : (b : Bool)
        → values_on names t ++ values_of (if b then e ∷ [] else []) ≡ (if b then values_on names t ++ e.1 ∷ [] else values_on names t)
    by_test true = refl
    by_test false = append-nil (values_on names t)

none_at : (t : Tuple) (i : ℕ) → i < length t → slice_get t i ≡ None → ⊥
none_at [] i l e = absurd (omega (arith, l))
none_at (f ∷ t) i l e = some_none (get_or (f ∷ t) i f) (sym (slice_get-get_or (f ∷ t) i f l) ∙ e)
  where
    some_none : (g : List ℕ × Val) → Some g ≡ None → ⊥
    some_none g e = absurd (cc)

-- one attribute more
pub places_more : (common h : Heading) (t : Tuple) (i : ℕ) (places more : List ℕ) (b : Bool) → IsTupleOf h t → i < length h
    → ((a : Attribute) → slice_get h i ≡ Some a → b ≡ has_attribute a.0 common)
    → more ≡ (if b then places ++ i ∷ [] else places)
    → StandAt places (values_on (attribute_names common) (take i t)) t
    → StandAt more (values_on (attribute_names common) (take (i + 1) t)) t
places_more common h t i places more b p l tells is e = by_entry (slice_get t i) refl
  where
    names : List (List ℕ)
    names = attribute_names common

    before : List Val
    before = values_on names (take i t)

    fits : i < length t
    fits = subst (λ n. i < n) (as_many h t p ∙ length-map t (λ f. f.1)) l

    more_stand : (f : List ℕ × Val) → slice_get t i ≡ Some f → (c : Bool)
        → StandAt (if c then places ++ i ∷ [] else places) (if c then before ++ f.1 ∷ [] else before) t
    more_stand f at true = stand_more places before t i f.1 e (slice_get-map (λ g. g.1) t i ∙ ap (option_map (λ g. g.1)) at)
    more_stand f at false = e

    by_entry : (o : Option (List ℕ × Val)) → slice_get t i ≡ o → StandAt more (values_on names (take (i + 1) t)) t
    by_entry None at = absurd (none_at t i fits at)
    by_entry (Some f) at =
        let here : slice_get h i ≡ Some (f.0, type_of f.1) =
        ap (λ g. slice_get g i) (sym p.1) ∙ slice_get-map (λ g. (g.0, type_of g.1)) t i
        ∙ ap (option_map (λ g. (g.0, type_of g.1))) at in
        let named : b ≡ has_name f.0 names = tells (f.0, type_of f.1) here ∙ has_attribute-names f.0 common in
        let passed : take (i + 1) t ≡ take i t ++ f ∷ [] =
        take_more t i f fits ∙ ap (λ g. take i t ++ g ∷ []) (get_or_from_slice_get t i f f at) in
        let values = ap (values_on names) passed ∙ values_on_more names (take i t) f in
        subst (λ us. StandAt more us t) (sym values)
        (subst (λ ps. StandAt ps (if has_name f.0 names then before ++ f.1 ∷ [] else before) t)
        (sym (is ∙ ap (λ c. if c then places ++ i ∷ [] else places) named)) (more_stand f at (has_name f.0 names)))

-- ---- tuples of equal values on names

same_values : (vs ws : List Val) → Decides (are_same vs ws) (vs ≡ ws)
same_values vs ws = slice_eq-Decides value_Decides vs ws (are_same vs ws) refl

both_or_none : (b c : Bool) → (b ≡ true → c ≡ true) → (c ≡ true → b ≡ true) → b ≡ c
both_or_none true c f g = sym (f refl)
both_or_none false true f g = g refl
both_or_none false false f g = refl

entries_same : (es fs : Tuple) → tuple_names es ≡ tuple_names fs → values_of es ≡ values_of fs → es ≡ fs
entries_same es fs n v = sym (unzipped es) ∙ (λ i. tuple_view (n i) (v i)) ∙ unzipped fs

-- tuples that have the same of the names agree on these where their values on them are the same
pub agree_by_values : (names : List (List ℕ)) (s t : Tuple)
    → tuple_names (projected_tuple names s) ≡ tuple_names (projected_tuple names t)
    → are_same (values_on names s) (values_on names t) ≡ agree_on names s t
agree_by_values names s t n =
    both_or_none (are_same (values_on names s) (values_on names t)) (agree_on names s t)
    (λ e. (tuple_Decides (projected_tuple names s) (projected_tuple names t)).1
    (entries_same (projected_tuple names s) (projected_tuple names t) n ((same_values (values_on names s) (values_on names t)).0 e)))
    (λ e. (same_values (values_on names s) (values_on names t)).1
    (ap values_of ((tuple_Decides (projected_tuple names s) (projected_tuple names t)).0 e)))

-- a name that is among names passes the test that all of them pass
passes : (f : List ℕ → Bool) (names : List (List ℕ)) (n : List ℕ) → list_all f names ≡ true → has_name n names ≡ true
    → f n ≡ true
passes f [] n all e = absurd (true≢false (sym e))
passes f (m ∷ names) n all e = by_name (passes f names n (second_true (f m) (list_all f names) all)) (same_name m n) refl
  where
    by_name : (has_name n names ≡ true → f n ≡ true) → (b : Bool) → same_name m n ≡ b → f n ≡ true
    by_name rest true same = subst (λ k. f k ≡ true) ((bytes_eq-Decides m n).0 same) (first_true (f m) (list_all f names) all)
    by_name rest false same = rest (sym (ap (λ b. b || has_name n names) same) ∙ e)

has_is : (n : List ℕ) (names : List (List ℕ)) → has name_cmp n names ≡ has_name n names
has_is n names = λ i. list_any (λ m. sym (same_name-ties m n) i) names

-- a tuple of a heading that has the names has these
names_there : (names : List (List ℕ)) (h : Heading) (t : Tuple) → has_attributes names h ≡ true → IsTupleOf h t
    → (n : List ℕ) → has name_cmp n (tuple_names (projected_tuple names t)) ≡ has_name n names
names_there names h t all p n =
    has_is n (tuple_names (projected_tuple names t)) ∙ sym (has_value n (projected_tuple names t))
    ∙ ap is_some (value_of_projection names t n)
    ∙ by_name (has_name n names) refl
  where
    by_name : (b : Bool) → has_name n names ≡ b → is_some (if b then value_at n t else None) ≡ b
    by_name true e = has_value n t ∙ has_name-heading h t p n ∙ passes (λ m. has_attribute m h) names n all e
    by_name false e = refl

-- so tuples of two headings that have the names have the same of them
pub same_names : (names : List (List ℕ)) (g h : Heading) (s t : Tuple) → has_attributes names g ≡ true
    → has_attributes names h ≡ true → IsTupleOf g s → IsTupleOf h t
    → tuple_names (projected_tuple names s) ≡ tuple_names (projected_tuple names t)
same_names names g h s t own theirs p q =
    same_members name_cmp nat_list_cmp_total exact_bytes (tuple_names (projected_tuple names s)) (tuple_names (projected_tuple names t))
    (names_ascend (projected_tuple names s) (IsTuple-filter (λ e. has_name e.0 names) s p.0))
    (names_ascend (projected_tuple names t) (IsTuple-filter (λ e. has_name e.0 names) t q.0))
    (λ n. names_there names g s own p n ∙ sym (names_there names h t theirs q n))

-- tests that agree on all items keep the same
pub kept_same : {X : Type 0} (P : X → Type 0) (p q : X → Bool) (xs : List X) → ((x : X) → P x → p x ≡ q x) → All P xs
    → filter p xs ≡ filter q xs
kept_same P p q [] e all = refl
kept_same P p q (x ∷ xs) e all =
    let here : p x ≡ q x = e x (All-head P x xs all) in
    let rest : filter p xs ≡ filter q xs = kept_same P p q xs e (All-tail P x xs all) in
    rw (here, rest) refl

-- the tuples of a heading that have the values of a tuple of another are those that agree with it
pub found_on : (names : List (List ℕ)) (g h : Heading) (w : Tuple) (ts : List Tuple) (places own : List ℕ)
    → has_attributes names g ≡ true → has_attributes names h ≡ true → IsTupleOf g w → All (IsTupleOf h) ts
    → ArePlacesOf names g places → ArePlacesOf names h own
    → partners_in (own, ts) places w ≡ filter (agree_on names w) ts
found_on names g h w ts places own there all p headed are_places are_own =
    kept_same (IsTupleOf h) (has_part own (part_of places w)) (agree_on names w) ts
    (λ t q. (λ i. are_same (stand_part places (values_on names w) w (are_places w p) i) (stand_part own (values_on names t) t (are_own t q) i))
    ∙ agree_by_values names w t (same_names names g h w t there all p q)) headed

-- ---- the names of an operator

-- what holds of each name of a list passes its test
pub all_named : (f : List ℕ → Bool) (ns : List (List ℕ)) → ((n : List ℕ) → has_name n ns ≡ true → f n ≡ true)
    → list_all f ns ≡ true
all_named f [] h = refl
all_named f (n ∷ ns) h =
    both_true (f n) (list_all f ns) (h n (rw (same_name-itself n) refl))
    (all_named f ns (λ m there. h m (later m there (same_name n m))))
  where
    later : (m : List ℕ) → has_name m ns ≡ true → (b : Bool) → (b || has_name m ns) ≡ true
    later m there true = refl
    later m there false = there

-- both headings have the names of their common attributes
pub common_there : (g h : Heading)
    → (has_attributes (attribute_names (common_part g h)) h ≡ true)
    × (has_attributes (attribute_names (common_part g h)) g ≡ true)
common_there g h = (
  all_named (λ n. has_attribute n h) (attribute_names (common_part g h)) (λ n e. (in_both n e).0),
  all_named (λ n. has_attribute n g) (attribute_names (common_part g h)) (λ n e. (in_both n e).1),
)
  where
    by_test : (n : List ℕ) (b : Bool) → is_some (if b then type_at n g else None) ≡ true
        → (b ≡ true) × (has_attribute n g ≡ true)
    by_test n true e = (refl, e)
    by_test n false e = absurd (true≢false (sym e))

    in_both : (n : List ℕ) → has_name n (attribute_names (common_part g h)) ≡ true
        → (has_attribute n h ≡ true) × (has_attribute n g ≡ true)
    in_both n e =
        by_test n (has_attribute n h) (sym (ap is_some (type_at-common n g h)) ∙ has_attribute-names n (common_part g h) ∙ e)

-- the projection on names of a heading has these
pub projection_there : (names : List (List ℕ)) (h : Heading) → has_attributes names h ≡ true
    → has_attributes names (projection names h) ≡ true
projection_there names h all =
    all_named (λ n. has_attribute n (projection names h)) names
    (λ n e. ap is_some (type_at-projection names n h ∙ ap (λ b. if b then type_at n h else None) e)
    ∙ passes (λ m. has_attribute m h) names n all e)
