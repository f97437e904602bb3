-- Values taken from their places.
use Rattle.std.proofs.Common.{◌≡◌, ◌∙◌, ◌+◌, ◌<◌, ◌≤◌, ap, append_assoc, sym, refl, subst, arith, ℕ, zero, suc, Bool, true, false, List, [], ◌∷◌, ◌++◌, Some, None, drop, get_or, length, map, take}
use Rattle.std.specs.Prelude.{if◌then◌else◌}
use Rattle.std.specs.List.{All, slice_get, zip}
use Rattle.std.specs.List.Sorted.{IsPermutation, IsStrictlySortedBy}
use Rattle.std.proofs.lemmas.List.{append-nil, at_drop_more, drop_all, get_or_default, length-map, map-append, take_all, take_more}
use Rattle.std.proofs.lemmas.List.Sorted.{All-permutation, IsPermutation-map, IsPermutation-sym}
use Rattle.std.proofs.lemmas.Option.{get_or_from_slice_get, slice_get-get_or, slice_get_within}
use Rattle.td_types.specs.model.Headings.{has_attribute}
use Rattle.td_types.specs.model.Types.{Attribute, Heading}
use Rattle.td_types.proofs.HeadingLaws.{name_cmp}
use Rattle.td_value.specs.model.Values.{Val, boolean, tuple_of}
use Rattle.td_value.proofs.Maps.{sorted_is_tuple_of}
use Rattle.td_value.proofs.Zips.{zip_names}
use Rattle.td_algebra.specs.code.Layouts.{AreInRange, Sources, entries_taken, placed_tuple, placed_values, source_names, source_unless, sources_outside}

-- names with their places, taken apart and put together again
pub zipped_sources : (ss : Sources) → zip (map (λ s. s.0) ss) (map (λ s. s.1) ss) ≡ ss
zipped_sources [] = refl
zipped_sources (s ∷ ss) = ap (λ r. s ∷ r) (zipped_sources ss)

-- the value at a place
abbrev pub value_in : List Val → ℕ → Val
value_in vs p = get_or vs p (boolean false)

abbrev pub entry_in : List Val → List ℕ × ℕ → List ℕ × Val
entry_in vs s = (s.0, value_in vs s.1)

pub taken_entries : (ss : Sources) (vs : List Val) → AreInRange ss vs → entries_taken ss vs ≡ map (entry_in vs) ss
taken_entries [] vs h = refl
taken_entries (s ∷ ss) vs h =
    let below : s.1 < length vs = h 0 s (omega arith) in
    rw (slice_get-get_or vs s.1 (boolean false) below) (ap (λ r. entry_in vs s ∷ r) (taken_entries ss vs (λ k d l. h (suc k) d (omega arith))))

zip_entries : (ns : List (List ℕ)) (ps : List ℕ) (vs : List Val) → zip ns (map (value_in vs) ps) ≡ map (entry_in vs) (zip ns ps)
zip_entries [] ps vs = refl
zip_entries (n ∷ ns) [] vs = refl
zip_entries (n ∷ ns) (p ∷ ps) vs = ap (λ r. (n, value_in vs p) ∷ r) (zip_entries ns ps vs)

-- ascending names with the values at their places are the tuple of what is taken, in each order of the sources
pub tuple_is_taken : (ns : List (List ℕ)) (ps : List ℕ) (vs : List Val) (sources : Sources) → length ns ≡ length ps → IsStrictlySortedBy name_cmp ns
    → AreInRange (zip ns ps) vs → IsPermutation sources (zip ns ps) → zip ns (map (value_in vs) ps) ≡ tuple_of (entries_taken sources vs)
tuple_is_taken ns ps vs sources e up h p =
    let range : AreInRange sources vs = All-permutation (λ s. s.1 < length vs) (zip ns ps) sources (IsPermutation-sym sources (zip ns ps) p) h in
    let moved : IsPermutation (map (entry_in vs) sources) (map (entry_in vs) (zip ns ps)) = IsPermutation-map (entry_in vs) sources (zip ns ps) p in
    let names = zip_names ns (map (value_in vs) ps) (e ∙ sym (length-map ps (value_in vs))) in
    sorted_is_tuple_of (zip ns (map (value_in vs) ps)) (entries_taken sources vs)
    (rw (taken_entries sources vs range, zip_entries ns ps vs) moved)
    (subst (IsStrictlySortedBy name_cmp) (sym names) up)

-- ---- the values at a layout's places

pub placed_zip : (ns : List (List ℕ)) (ps : List ℕ) (vs : List Val) → length ns ≡ length ps → placed_values (zip ns ps) vs ≡ map (value_in vs) ps
placed_zip [] [] vs e = refl
placed_zip [] (p ∷ ps) vs e = absurd (omega (arith, e))
placed_zip (n ∷ ns) [] vs e = absurd (omega (arith, e))
placed_zip (n ∷ ns) (p ∷ ps) vs e = ap (λ r. value_in vs p ∷ r) (placed_zip ns ps vs (omega (arith, e)))

places_long : (ns : List (List ℕ)) (ps : List ℕ) → length ns ≡ length ps → length (zip ns ps) ≡ length ps
places_long [] [] e = refl
places_long [] (p ∷ ps) e = absurd (omega (arith, e))
places_long (n ∷ ns) [] e = absurd (omega (arith, e))
places_long (n ∷ ns) (p ∷ ps) e = ap suc (places_long ns ps (omega (arith, e)))

pub zip_long : (ns : List (List ℕ)) (ps : List ℕ) (layout : Sources) → length ns ≡ length ps → zip ns ps ≡ layout → length layout ≡ length ps
zip_long ns ps layout e is = sym (ap length is) ∙ places_long ns ps e

pub names_zipped : (ns : List (List ℕ)) (ps : List ℕ) → length ns ≡ length ps → source_names (zip ns ps) ≡ ns
names_zipped [] [] e = refl
names_zipped [] (p ∷ ps) e = absurd (omega (arith, e))
names_zipped (n ∷ ns) [] e = absurd (omega (arith, e))
names_zipped (n ∷ ns) (p ∷ ps) e = ap (λ r. n ∷ r) (names_zipped ns ps (omega (arith, e)))

-- one more of them
pub placed_one : (vs : List Val) (ps : List ℕ) (i : ℕ) (found copy : Val) (old new : List Val) → i < length ps → slice_get vs (get_or ps i 0) ≡ Some found → copy ≡ found
    → new ≡ old ++ copy ∷ [] → old ≡ map (value_in vs) (take i ps) → new ≡ map (value_in vs) (take (i + 1) ps)
placed_one vs ps i found copy old new l at is push inv =
    let got : copy ≡ value_in vs (get_or ps i 0) = is ∙ sym (get_or_from_slice_get vs (get_or ps i 0) found (boolean false) at) in
    push ∙ (λ k. inv k ++ got k ∷ [])
    ∙ sym (ap (map (value_in vs)) (take_more ps i 0 l) ∙ map-append (value_in vs) (take i ps) (get_or ps i 0 ∷ []))

-- all of them
pub placed_all : (ns : List (List ℕ)) (ps : List ℕ) (vs : List Val) (layout : Sources) (items : List ℕ) (i : ℕ) (row : List Val) → length ns ≡ length ps → zip ns ps ≡ layout
    → items ≡ ps → length items ≤ i → row ≡ map (value_in vs) (take i items) → row ≡ placed_values layout vs
placed_all ns ps vs layout items i row e is same past inv =
    inv ∙ ap (map (value_in vs)) (take_all i items past ∙ same) ∙ sym (placed_zip ns ps vs e) ∙ ap (λ ss. placed_values ss vs) is

-- the values at the places
pub placed_taken : (ss : Sources) (vs : List Val) → placed_values ss vs ≡ map (value_in vs) (map (λ s. s.1) ss)
placed_taken [] vs = refl
placed_taken (s ∷ ss) vs = ap (λ r. value_in vs s.1 ∷ r) (placed_taken ss vs)

-- the names with them are the tuple of what is taken, in each order of the sources
pub values_are_taken : (layout sources : Sources) (vs : List Val) → IsStrictlySortedBy name_cmp (source_names layout) → AreInRange layout vs → IsPermutation sources layout
    → zip (source_names layout) (placed_values layout vs) ≡ placed_tuple sources vs
values_are_taken layout sources vs up range p =
    let ps = map (λ (s : List ℕ × ℕ). s.1) layout in
    let same : length (source_names layout) ≡ length ps = length-map layout (λ s. s.0) ∙ sym (length-map layout (λ s. s.1)) in
    let is = zipped_sources layout in
    ap (zip (source_names layout)) (placed_taken layout vs)
    ∙ tuple_is_taken (source_names layout) ps vs sources same up (subst (λ ss. AreInRange ss vs) (sym is) range) (subst (IsPermutation sources) (sym is) p)

pub placed_long : (layout : Sources) (vs : List Val) → length (placed_values layout vs) ≡ length (source_names layout)
placed_long layout vs = length-map layout (λ s. value_in vs s.1) ∙ sym (length-map layout (λ s. s.0))

-- each place of a layout is in range
pub place_below : (ns : List (List ℕ)) (ps : List ℕ) (vs : List Val) (i : ℕ) → length ns ≡ length ps → AreInRange (zip ns ps) vs → i < length ps → get_or ps i 0 < length vs
place_below [] ps vs i e h l = absurd (omega (arith, e, l))
place_below (n ∷ ns) [] vs i e h l = absurd (omega (arith, l))
place_below (n ∷ ns) (p ∷ ps) vs zero e h l = h 0 (n, p) (omega arith)
place_below (n ∷ ns) (p ∷ ps) vs (suc i) e h l = place_below ns ps vs i (omega (arith, e)) (λ k d b. h (suc k) d (omega arith)) (omega (arith, l))

-- the places alone
pub places_zipped : (ns : List (List ℕ)) (ps : List ℕ) → length ns ≡ length ps → map (λ (s : List ℕ × ℕ). s.1) (zip ns ps) ≡ ps
places_zipped [] [] e = refl
places_zipped [] (p ∷ ps) e = absurd (omega (arith, e))
places_zipped (n ∷ ns) [] e = absurd (omega (arith, e))
places_zipped (n ∷ ns) (p ∷ ps) e = ap (λ r. p ∷ r) (places_zipped ns ps (omega (arith, e)))

pub places_below : (layout : Sources) (vs : List Val) → AreInRange layout vs → All (λ p. p < length vs) (map (λ (s : List ℕ × ℕ). s.1) layout)
places_below [] vs h k d l = absurd (omega (arith, l))
places_below (s ∷ layout) vs h zero d l = h 0 s (omega arith)
places_below (s ∷ layout) vs h (suc k) d l = places_below layout vs (λ j e b. h (suc j) e (omega (arith, b))) k d (omega (arith, l))

-- the value that is read at a place of the list
pub value_read : (ps : List ℕ) (vs : List Val) (i place : ℕ) (v : Val) → i < length ps → place ≡ get_or ps i place → slice_get (vs ++ []) place ≡ Some v
    → v ≡ value_in vs (get_or ps i 0)
value_read ps vs i place v l is e =
    sym (get_or_from_slice_get (vs ++ []) place v (boolean false) e) ∙ ap (λ ws. value_in ws place) (append-nil vs) ∙ ap (value_in vs) (is ∙ get_or_default ps i place 0 l)

pub value_there : (ps : List ℕ) (vs own : List Val) (i : ℕ) (v : Val) → i < length ps → v ≡ get_or own i v → own ≡ map (value_in vs) ps → v ≡ value_in vs (get_or ps i 0)
value_there ps vs own i v l is e = is ∙ ap (λ ws. get_or ws i v) e ∙ mapped ps i l
  where
    mapped : (qs : List ℕ) (k : ℕ) → k < length qs → get_or (map (value_in vs) qs) k v ≡ value_in vs (get_or qs k 0)
    mapped [] k m = absurd (omega arith)
    mapped (q ∷ qs) zero m = refl
    mapped (q ∷ qs) (suc k) m = mapped qs k (omega arith)

pub values_more : (ps : List ℕ) (vs own : List Val) (i : ℕ) (v : Val) → i < length ps → i < length own → v ≡ get_or own i v → v ≡ value_in vs (get_or ps i 0)
    → take i own ≡ map (value_in vs) (take i ps) → take (i + 1) own ≡ map (value_in vs) (take (i + 1) ps)
values_more ps vs own i v l m is e inv =
    take_more own i v m ∙ (λ k. inv k ++ (sym is ∙ e) k ∷ [])
    ∙ sym (ap (map (value_in vs)) (take_more ps i 0 l) ∙ map-append (value_in vs) (take i ps) (get_or ps i 0 ∷ []))

-- ---- the places of a heading's names

pub got_first : {X : Type 0} (xs : List X) (i : ℕ) (x : X) → slice_get xs i ≡ Some x → drop i xs ≡ x ∷ drop (i + 1) xs
got_first xs i x e = at_drop_more (λ r. r) xs i x (slice_get_within xs i x e) ∙ ap (λ y. y ∷ drop (i + 1) xs) (get_or_from_slice_get xs i x x e)

pub source_first : (part : Heading) (start : ℕ) (a : Attribute) (xs : Heading)
    → sources_outside part start (a ∷ xs) ≡ source_unless part a.0 start ++ sources_outside part (start + 1) xs
source_first part start a xs = by_test (has_attribute a.0 part)
  where
    by_test : (b : Bool) → (if b then sources_outside part (start + 1) xs else (a.0, start) ∷ sources_outside part (start + 1) xs)
        ≡ (if b then [] else (a.0, start) ∷ []) ++ sources_outside part (start + 1) xs
    by_test true = refl
    by_test false = refl

-- one more name
pub source_more : (part : Heading) (start i place : ℕ) (h : Heading) (a : Attribute) (old new all : Sources) → slice_get h i ≡ Some a → place ≡ start + i
    → old ++ sources_outside part (start + i) (drop i h) ≡ all → new ≡ old ++ source_unless part a.0 place
    → new ++ sources_outside part (start + (i + 1)) (drop (i + 1) h) ≡ all
source_more part start i place h a old new all got at inv is =
    let next : start + (i + 1) ≡ (start + i) + 1 = omega arith in
    let first = ap (sources_outside part (start + i)) (got_first h i a got) ∙ source_first part (start + i) a (drop (i + 1) h) in
    rw (is, at, next, append_assoc) (ap (λ r. old ++ r) (sym first) ∙ inv)

pub got_some : {X : Type 0} (xs : List X) (i : ℕ) → i < length xs → slice_get xs i ≡ None → ⊥
got_some [] i l e = absurd (omega arith)
got_some (x ∷ xs) zero l e = cc
got_some (x ∷ xs) (suc i) l e = got_some xs i (omega arith) e

-- past the last name
pub sources_end : (part : Heading) (start i : ℕ) (h : Heading) (old all : Sources) → length h ≤ i → old ++ sources_outside part start (drop i h) ≡ all → old ≡ all
sources_end part start i h old all past e = sym (append-nil old) ∙ sym (ap (λ xs. old ++ sources_outside part start xs) (drop_all i h past)) ∙ e
