-- A key whose names are put in name order names the same attributes: keys that are allowed stay so, and they stand in that order.
use Rattle.std.proofs.Common.{◌≡◌, ◌∙◌, ◌∷◌, ℕ, Bool, true, false, List, [], ap, filter, map, not, refl, sym}
use Rattle.std.specs.Cmp.Lexicographic.{same_text}
use Rattle.std.specs.List.{AllByRecursion, list_all}
use Rattle.std.specs.Prelude.{◌&&◌, ◌||◌, if◌then◌else◌}
use Rattle.td_algebra.proofs.Entries.{heading_distinct}
use Rattle.td_catalog.specs.model.Dumps.{ordered_names}
use Rattle.td_engine.specs.model.Legality.{AreBaseKeys}
use Rattle.td_check.specs.model.StatementTypes.{is_included, keys_allowed, none_includes}
use Rattle.td_engine.specs.model.Legality.{AreOrdered}
use Rattle.td_eval.proofs.law_lemmas.DistinctNames.{first_apart, has_rest}
use Rattle.td_types.proofs.HeadingLaws.{has_attribute-names, same_name-itself}
use Rattle.td_types.specs.model.Headings.{are_distinct, has_attribute, has_attributes, has_name}
use Rattle.td_types.specs.model.Types.{Heading, IsHeading, attribute_names, pack, same_name}

both : (a b : Bool) → (a && b) ≡ true → (a ≡ true) × (b ≡ true)
both true b e = (refl, e)
both false b e = absurd (cc)

-- ---- names that pass a test

-- a name is one of those that pass exactly where it is one of all and passes
named_filtered : (p : List ℕ → Bool) (n : List ℕ) (ns : List (List ℕ)) → has_name n (filter p ns) ≡ (has_name n ns && p n)
named_filtered p n [] = refl
named_filtered p n (m ∷ ns) = by_tests (p m) refl (same_name m n) refl (named_filtered p n ns)
  where
    passes : same_name m n ≡ true → p n ≡ p m
    passes is = ap p (sym (same_text m n (sym is)))

    no_name : (a : Bool) → (a && false) ≡ false
    no_name true = refl
    no_name false = refl

    by_tests : (b : Bool) → p m ≡ b → (c : Bool) → same_name m n ≡ c → has_name n (filter p ns) ≡ (has_name n ns && p n)
        → has_name n (if b then m ∷ filter p ns else filter p ns) ≡ ((c || has_name n ns) && p n)
    by_tests true pm true is rest = ap (λ c. c || has_name n (filter p ns)) is ∙ sym (passes is ∙ pm)
    by_tests true pm false is rest = ap (λ c. c || has_name n (filter p ns)) is ∙ rest
    by_tests false pm true is rest =
        let fails : p n ≡ false = passes is ∙ pm in
        rest ∙ ap (λ b. has_name n ns && b) fails ∙ no_name (has_name n ns) ∙ sym fails
    by_tests false pm false is rest = rest

-- tests that agree on each of a list choose the same
filtered_alike : (p q : List ℕ → Bool) (ns : List (List ℕ)) → AllByRecursion (λ n. q n ≡ p n) ns → filter q ns ≡ filter p ns
filtered_alike p q [] h = refl
filtered_alike p q (n ∷ ns) h = ap (λ b. if b then n ∷ filter q ns else filter q ns) h.0 ∙ ap (λ rest. if p n then n ∷ rest else rest) (filtered_alike p q ns h.1)

-- each name of a list is one of it
all_named : (ns : List (List ℕ)) → AllByRecursion (λ n. has_name n ns ≡ true) ns
all_named ns = from ns ns (λ n h. h)
  where
    from : (all rest : List (List ℕ)) → ((n : List ℕ) → has_name n rest ≡ true → has_name n all ≡ true) → AllByRecursion (λ n. has_name n all ≡ true) rest
    from all [] h = tt
    from all (n ∷ rest) h = (
      h n (ap (λ b. b || has_name n rest) (same_name-itself n)),
      from all rest (λ m is. h m (has_rest m (n ∷ []) rest is)),
    )

-- what holds of each holds of those that pass
all_filtered : (t p : List ℕ → Bool) (ns : List (List ℕ)) → AllByRecursion (λ n. t n ≡ true) ns → list_all t (filter p ns) ≡ true
all_filtered t p [] h = refl
all_filtered t p (n ∷ ns) h = by_test (p n) (all_filtered t p ns h.1)
  where
    by_test : (b : Bool) → list_all t (filter p ns) ≡ true → list_all t (if b then n ∷ filter p ns else filter p ns) ≡ true
    by_test true rest = ap (λ b. b && list_all t (filter p ns)) h.0 ∙ rest
    by_test false rest = rest

distinct_filtered : (p : List ℕ → Bool) (ns : List (List ℕ)) → are_distinct ns ≡ true → are_distinct (filter p ns) ≡ true
distinct_filtered p [] d = refl
distinct_filtered p (n ∷ ns) d = by_test (p n) (distinct_filtered p ns parts.1)
  where
    parts : (has_name n ns ≡ false) × (are_distinct ns ≡ true)
    parts = first_apart n ns d

    new : has_name n (filter p ns) ≡ false
    new = named_filtered p n ns ∙ ap (λ b. b && p n) parts.0

    by_test : (b : Bool) → are_distinct (filter p ns) ≡ true → are_distinct (if b then n ∷ filter p ns else filter p ns) ≡ true
    by_test true rest = ap (λ b. not b && are_distinct (filter p ns)) new ∙ rest
    by_test false rest = rest

-- a test that all pass is passed by each name of the list
named_passes : (t : List ℕ → Bool) (n : List ℕ) (ns : List (List ℕ)) → list_all t ns ≡ true → has_name n ns ≡ true → t n ≡ true
named_passes t n [] all is = absurd (cc)
named_passes t n (m ∷ ns) all is = by_same (same_name m n) refl is (λ h. named_passes t n ns (both (t m) (list_all t ns) all).1 h)
  where
    parts : (t m ≡ true) × (list_all t ns ≡ true)
    parts = both (t m) (list_all t ns) all

    by_same : (b : Bool) → same_name m n ≡ b → (b || has_name n ns) ≡ true → (has_name n ns ≡ true → t n ≡ true) → t n ≡ true
    by_same true same h rest = ap t (sym (same_text m n (sym same))) ∙ parts.0
    by_same false same h rest = rest h

-- ---- keys

module _ (h : Heading) where
  abbrev names : List (List ℕ)
  names = attribute_names h

  -- a key in name order has the names of the key that are attributes
  in_key : (key : List (List ℕ)) (n : List ℕ) → has_name n names ≡ true → has_name n (ordered_names h key) ≡ has_name n key
  in_key key n is = named_filtered (λ m. has_name m key) n names ∙ ap (λ b. b && has_name n key) is

  -- it stays as it is
  pub key_stays : (key : List (List ℕ)) → ordered_names h (ordered_names h key) ≡ ordered_names h key
  key_stays key = filtered_alike (λ n. has_name n key) (λ n. has_name n (ordered_names h key)) names (each names (all_named names))
    where
      each : (ns : List (List ℕ)) → AllByRecursion (λ n. has_name n names ≡ true) ns → AllByRecursion (λ n. has_name n (ordered_names h key) ≡ has_name n key) ns
      each [] all = tt
      each (n ∷ ns) all = (in_key key n all.0, each ns all.1)

  pub keys_stay : (keys : List (List (List ℕ))) → AreOrdered h (map (ordered_names h) keys)
  keys_stay [] = refl
  keys_stay (key ∷ keys) = ap (λ k. k ∷ map (ordered_names h) (map (ordered_names h) keys)) (key_stays key) ∙ ap (λ ks. ordered_names h key ∷ ks) (keys_stay keys)

  -- a key that is included in another so is included in it as it was written
  included_back : (key other : List (List ℕ)) → has_attributes key h ≡ true → is_included (ordered_names h key) (ordered_names h other) ≡ true → is_included key other ≡ true
  included_back key other attributes included = from key (λ n is. is) attributes
    where
      passes : (n : List ℕ) → has_attribute n h ≡ true → has_name n key ≡ true → has_name n other ≡ true
      passes n is inside =
          let named : has_name n names ≡ true = sym (has_attribute-names n h) ∙ is in
          sym (in_key other n named) ∙ named_passes (λ m. has_name m (ordered_names h other)) n (ordered_names h key) included (in_key key n named ∙ inside)

      from : (rest : List (List ℕ)) → ((n : List ℕ) → has_name n rest ≡ true → has_name n key ≡ true) → list_all (λ n. has_attribute n h) rest ≡ true
          → list_all (λ n. has_name n other) rest ≡ true
      from [] inside all = refl
      from (n ∷ rest) inside all =
          let parts = both (has_attribute n h) (list_all (λ m. has_attribute m h) rest) all in
          let there : has_name n other ≡ true = passes n parts.0 (inside n (ap (λ b. b || has_name n rest) (same_name-itself n))) in
          ap (λ b. b && list_all (λ m. has_name m other) rest) there ∙ from rest (λ m is. inside m (has_rest m (n ∷ []) rest is)) parts.1

  abbrev fits : List (List ℕ) → Bool
  fits key = has_attributes key h && are_distinct key

  -- keys of which neither includes the other stay so
  apart_stays : (key other : List (List ℕ)) → has_attributes key h ≡ true → has_attributes other h ≡ true
      → not (is_included key other || is_included other key) ≡ true
      → not (is_included (ordered_names h key) (ordered_names h other) || is_included (ordered_names h other) (ordered_names h key)) ≡ true
  apart_stays key other a b apart =
      by_tests (is_included (ordered_names h key) (ordered_names h other)) refl (is_included (ordered_names h other) (ordered_names h key)) refl
    where
      neither_is : (x y : Bool) → not (x || y) ≡ true → (x ≡ false) × (y ≡ false)
      neither_is false false e = (refl, refl)
      neither_is false true e = absurd (cc)
      neither_is true y e = absurd (cc)

      by_tests : (x : Bool) → is_included (ordered_names h key) (ordered_names h other) ≡ x → (y : Bool) → is_included (ordered_names h other) (ordered_names h key) ≡ y → not (x || y) ≡ true
      by_tests false ix false iy = refl
      by_tests true ix y iy = let no = sym (included_back key other a ix) ∙ (neither_is (is_included key other) (is_included other key) apart).0 in absurd (cc)
      by_tests false ix true iy = let no = sym (included_back other key b iy) ∙ (neither_is (is_included key other) (is_included other key) apart).1 in absurd (cc)

  all_apart : (key : List (List ℕ)) (keys : List (List (List ℕ))) → has_attributes key h ≡ true → list_all fits keys ≡ true
      → list_all (λ other. not (is_included key other || is_included other key)) keys ≡ true
      → list_all (λ other. not (is_included (ordered_names h key) other || is_included other (ordered_names h key))) (map (ordered_names h) keys) ≡ true
  all_apart key [] a fit apart = refl
  all_apart key (other ∷ keys) a fit apart =
      let fitted = both (fits other) (list_all fits keys) fit in
      let parts = both (not (is_included key other || is_included other key)) _ apart in
      let first = apart_stays key other a (both (has_attributes other h) (are_distinct other) fitted.0).0 parts.0 in
      ap (λ b. b && list_all (λ k. not (is_included (ordered_names h key) k || is_included k (ordered_names h key))) (map (ordered_names h) keys)) first ∙ all_apart key keys a fitted.1 parts.1

  none_stays : (keys : List (List (List ℕ))) → list_all fits keys ≡ true → none_includes keys ≡ true → none_includes (map (ordered_names h) keys) ≡ true
  none_stays [] fit none = refl
  none_stays (key ∷ keys) fit none =
      let fitted = both (fits key) (list_all fits keys) fit in
      let parts = both (list_all (λ other. not (is_included key other || is_included other key)) keys) (none_includes keys) none in
      let first = all_apart key keys (both (has_attributes key h) (are_distinct key) fitted.0).0 fitted.1 parts.0 in
      ap (λ b. b && none_includes (map (ordered_names h) keys)) first ∙ none_stays keys fitted.1 parts.1

  module _ (is : IsHeading (pack h)) where
    -- the names of a key in name order are distinct attributes
    key_fits : (key : List (List ℕ)) → fits (ordered_names h key) ≡ true
    key_fits key =
        let attributes : has_attributes (ordered_names h key) h ≡ true = all_filtered (λ n. has_attribute n h) (λ n. has_name n key) names (each names (all_named names)) in
        ap (λ b. b && are_distinct (ordered_names h key)) attributes ∙ distinct_filtered (λ n. has_name n key) names (heading_distinct h is)
      where
        each : (ns : List (List ℕ)) → AllByRecursion (λ n. has_name n names ≡ true) ns → AllByRecursion (λ n. has_attribute n h ≡ true) ns
        each [] all = tt
        each (n ∷ ns) all = (has_attribute-names n h ∙ all.0, each ns all.1)

    keys_fit : (keys : List (List (List ℕ))) → list_all fits (map (ordered_names h) keys) ≡ true
    keys_fit [] = refl
    keys_fit (key ∷ keys) = ap (λ b. b && list_all fits (map (ordered_names h) keys)) (key_fits key) ∙ keys_fit keys

    pub keys_stay_allowed : (keys : List (List (List ℕ))) → keys_allowed h keys ≡ true → keys_allowed h (map (ordered_names h) keys) ≡ true
    keys_stay_allowed keys allowed =
        let parts = both (list_all fits keys) (none_includes keys) allowed in
        ap (λ b. b && none_includes (map (ordered_names h) keys)) (keys_fit keys) ∙ none_stays keys parts.0 parts.1

    pub base_keys_stay : (keys : List (List (List ℕ))) → AreBaseKeys h keys → AreBaseKeys h (map (ordered_names h) keys)
    base_keys_stay keys are = record { some = λ none. are.some (no_key keys none); allowed = keys_stay_allowed keys are.allowed }
      where
        no_key : (ks : List (List (List ℕ))) → map (ordered_names h) ks ≡ [] → ks ≡ []
        no_key [] e = refl
        no_key (k ∷ ks) e = absurd (cc)
