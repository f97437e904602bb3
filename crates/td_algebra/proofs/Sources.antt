-- The values at the places of a heading's attributes are those of its tuples' entries.
use Rattle.std.proofs.Common.{◌≡◌, ◌∙◌, ap, refl, arith, ℕ, zero, suc, ◌+◌, ◌≤◌, ◌<◌, Bool, true, false, List, [], ◌∷◌, ◌++◌, Option, Some, None, filter, length, map, drop, add-one}
use Rattle.std.specs.Prelude.{◌&&◌, not, if◌then◌else◌, is_some}
use Rattle.std.specs.List.{All, AllByRecursion, slice_get}
use Rattle.std.proofs.lemmas.List.Elements.{All-from_recursion}
use Rattle.td_types.specs.model.Headings.{are_distinct, has_attribute, outside}
use Rattle.td_types.specs.model.Types.{Heading, IsHeading, attribute_names, pack, type_at}
use Rattle.td_types.proofs.HeadingLaws.{IsHeading-filter, type_at-outside}
use Rattle.td_value.specs.model.Values.{Val, Tuple, tuple_names}
use Rattle.td_value.specs.code.Views.{values_of}
use Rattle.td_algebra.specs.code.Layouts.{Sources, sources_outside, entries_taken, with_entry}
use Rattle.td_algebra.proofs.Entries.{heading_distinct}

-- the first of what is left after a place, and the rest
at_next : {X : Type 0} (i : ℕ) (xs : List X) (x : X) (rest : List X) → drop i xs ≡ x ∷ rest → (slice_get xs i ≡ Some x) × (drop (suc i) xs ≡ rest)
at_next zero [] x rest e = absurd (cc)
at_next zero (y ∷ xs) x rest e = (ap Some (let h : y ≡ x = cc in h), (let h : xs ≡ rest = cc in h))
at_next (suc i) [] x rest e = absurd (cc)
at_next (suc i) (y ∷ xs) x rest e = at_next i xs x rest e

pub next_of : {X : Type 0} (i : ℕ) (xs : List X) (x : X) (rest : List X) → drop i xs ≡ x ∷ rest → (slice_get xs i ≡ Some x) × (drop (i + 1) xs ≡ rest)
next_of i xs x rest e =
    let found = at_next i xs x rest e in
    (found.0, rw add-one found.1)

pub taken_outside : (part g : Heading) (t : Tuple) (start : ℕ) (all after : List Val) → tuple_names t ≡ attribute_names g
    → drop start all ≡ values_of t ++ after → entries_taken (sources_outside part start g) all ≡ filter (λ e. not (has_attribute e.0 part)) t
taken_outside part [] [] start all after names left = refl
taken_outside part [] (e ∷ t) start all after names left = absurd (cc)
taken_outside part (a ∷ g) [] start all after names left = absurd (cc)
taken_outside part (a ∷ g) (e ∷ t) start all after names left =
    let name : e.0 ≡ a.0 = cc in
    let others : tuple_names t ≡ attribute_names g = cc in
    let here = next_of start all e.1 (values_of t ++ after) left in
    by_test name here.0 (taken_outside part g t (start + 1) all after others here.1) (has_attribute a.0 part) refl
  where
    by_test : e.0 ≡ a.0 → slice_get all start ≡ Some e.1 → entries_taken (sources_outside part (start + 1) g) all ≡ filter (λ e. not (has_attribute e.0 part)) t
        → (b : Bool) → has_attribute a.0 part ≡ b
        → entries_taken (if b then sources_outside part (start + 1) g else (a.0, start) ∷ sources_outside part (start + 1) g) all ≡ filter (λ e. not (has_attribute e.0 part)) (e ∷ t)
    by_test name value rest true there = rw (name, there) rest
    by_test name value rest false there = rw (name, there, value) (ap (λ es. (a.0, e.1) ∷ es) rest)

pub taken-append : (ss zs : Sources) (vs : List Val) → entries_taken (ss ++ zs) vs ≡ entries_taken ss vs ++ entries_taken zs vs
taken-append [] zs vs = refl
taken-append (s ∷ ss) zs vs = by_value (slice_get vs s.1) (taken-append ss zs vs)
  where
    by_value : (o : Option Val) → entries_taken (ss ++ zs) vs ≡ entries_taken ss vs ++ entries_taken zs vs → with_entry s.0 o (entries_taken (ss ++ zs) vs) ≡ with_entry s.0 o (entries_taken ss vs) ++ entries_taken zs vs
    by_value None rest = rest
    by_value (Some v) rest = ap (λ es. (s.0, v) ∷ es) rest

-- each place is below what is past them
outside_below : (part : Heading) (start n : ℕ) (h : Heading) → start + length h ≤ n → AllByRecursion (λ s. s.1 < n) (sources_outside part start h)
outside_below part start n [] l = tt
outside_below part start n (a ∷ h) l = by_test (outside_below part (start + 1) n h (omega arith)) (has_attribute a.0 part)
  where
    by_test : AllByRecursion (λ s. s.1 < n) (sources_outside part (start + 1) h) → (b : Bool)
        → AllByRecursion (λ s. s.1 < n) (if b then sources_outside part (start + 1) h else (a.0, start) ∷ sources_outside part (start + 1) h)
    by_test rest true = rest
    by_test rest false = (omega arith, rest)

pub outside_in_range : (part : Heading) (start n : ℕ) (h : Heading) → start + length h ≤ n → All (λ s. s.1 < n) (sources_outside part start h)
outside_in_range part start n h l = All-from_recursion (λ s. s.1 < n) (sources_outside part start h) (outside_below part start n h l)

-- the names are those of the attributes that the part lacks
pub names_outside : (part : Heading) (start : ℕ) (h : Heading) → map (λ s. s.0) (sources_outside part start h) ≡ attribute_names (outside part h)
names_outside part start [] = refl
names_outside part start (a ∷ h) = by_test (names_outside part (start + 1) h) (has_attribute a.0 part)
  where
    by_test : map (λ s. s.0) (sources_outside part (start + 1) h) ≡ attribute_names (outside part h) → (b : Bool)
        → map (λ s. s.0) (if b then sources_outside part (start + 1) h else (a.0, start) ∷ sources_outside part (start + 1) h)
        ≡ attribute_names (if not b then a ∷ outside part h else outside part h)
    by_test rest true = rest
    by_test rest false = ap (λ r. a.0 ∷ r) rest

pub distinct_outside : (part : Heading) (start : ℕ) (h : Heading) → IsHeading (pack h) → are_distinct (map (λ s. s.0) (sources_outside part start h)) ≡ true
distinct_outside part start h p =
    ap are_distinct (names_outside part start h) ∙ heading_distinct (outside part h) (IsHeading-filter (λ a. not (has_attribute a.0 part)) h p)

some_unless : {A : Type 0} (o : Option A) (b : Bool) → is_some (if b then None else o) ≡ (is_some o && not b)
some_unless None true = refl
some_unless None false = refl
some_unless (Some a) true = refl
some_unless (Some a) false = refl

pub has_attribute-outside : (part h : Heading) (n : List ℕ) → has_attribute n (outside part h) ≡ (has_attribute n h && not (has_attribute n part))
has_attribute-outside part h n = ap is_some (type_at-outside n part h) ∙ some_unless (type_at n h) (has_attribute n part)
