-- What layouts take from the values of tuples.
use Rattle.std.proofs.Common.{◌≡◌, ◌∙◌, ◌+◌, ◌<◌, ◌≤◌, ap, append_assoc, sym, refl, subst, arith, ℕ, suc, Bool, true, false, List, [], ◌∷◌, ◌++◌, Option, Some, None, filter, get_or, length, map}
use Rattle.std.specs.Prelude.{IfOk, if◌then◌else◌, is_some, not, Result, Ok}
use Rattle.std.specs.declared.alloc.AllocError.{AllocError}
use Rattle.std.specs.List.{All, AllByRecursion, slice_get, zip}
use Rattle.std.specs.List.Sorted.{IsPermutation}
use Rattle.std.proofs.lemmas.List.{append-nil, length-append}
use Rattle.std.proofs.lemmas.List.Elements.{All-from_recursion}
use Rattle.std.proofs.lemmas.List.Sorted.{All-permutation}
use Rattle.std.proofs.lemmas.Result.{IfOk-at_ok}
use Rattle.td_tree.specs.model.Outcomes.{Answers, value_if}
use Rattle.td_tree.specs.declared.cause.Cause.{Cause}
use Rattle.td_tree.specs.declared.fault.Fault.{Fault}
use Rattle.td_types.specs.model.Headings.{are_distinct, has_attribute, has_name, outside, projection}
use Rattle.td_types.specs.model.Types.{Heading, type_at}
use Rattle.td_types.proofs.HeadingLaws.{type_at-outside, type_at-projection}
use Rattle.td_types.proofs.Valued.{value_is}
use Rattle.td_value.specs.model.Values.{IsTupleOf, Relation, Tuple, Val, projected_tuple, relation_of, tuple_names, tuple_of, value_at}
use Rattle.td_value.specs.code.Views.{values_of}
use Rattle.td_value.proofs.Agreement.{entries_of_values, names_ascend, value_at-filter, value_of_projection}
use Rattle.td_value.proofs.Kept.{IsTuple-filter}
use Rattle.td_value.proofs.Maps.{value_at-tuple_of}
use Rattle.td_algebra.specs.code.Layouts.{AreInRange, Sources, numbered_sources, placed_tuple, sources_outside, entries_taken}
use Rattle.td_algebra.proofs.Sources.{taken_outside}
use Rattle.td_algebra.proofs.Entries.{as_many, names_of_heading, no_value_outside, tuple_distinct, tuple_of-ascends}

-- ---- values at places

at_end : (before : List Val) (v : Val) (rest : List Val) → slice_get (before ++ v ∷ rest) (length before) ≡ Some v
at_end [] v rest = refl
at_end (b ∷ before) v rest = at_end before v rest

one_more : (before : List Val) (v : Val) → length (before ++ v ∷ []) ≡ length before + 1
one_more before v = length-append before (v ∷ [])

pub taken_numbered : (before : List Val) (ns : List (List ℕ)) (vs after : List Val) → length ns ≡ length vs
    → entries_taken (numbered_sources (length before) ns) (before ++ (vs ++ after)) ≡ zip ns vs
taken_numbered before [] vs after e = refl
taken_numbered before (n ∷ ns) [] after e = absurd (omega (arith, e))
taken_numbered before (n ∷ ns) (v ∷ vs) after e =
    let rest : entries_taken (numbered_sources (length (before ++ v ∷ [])) ns) ((before ++ v ∷ []) ++ (vs ++ after)) ≡ zip ns vs = taken_numbered (before ++ v ∷ []) ns vs after (omega (arith, e)) in
    let moved : entries_taken (numbered_sources (length before + 1) ns) (before ++ (v ∷ (vs ++ after))) ≡ zip ns vs = rw (one_more before v, append_assoc) at rest in
    rw (at_end before v (vs ++ after)) (ap (λ r. (n, v) ∷ r) moved)

-- ---- their range, and their names

numbered_below : (start n : ℕ) (ns : List (List ℕ)) → start + length ns ≤ n → AllByRecursion (λ s. s.1 < n) (numbered_sources start ns)
numbered_below start n [] l = tt
numbered_below start n (m ∷ ns) l = (omega arith, numbered_below (start + 1) n ns (omega arith))

pub numbered_in_range : (start n : ℕ) (ns : List (List ℕ)) → start + length ns ≤ n → All (λ s. s.1 < n) (numbered_sources start ns)
numbered_in_range start n ns l = All-from_recursion (λ s. s.1 < n) (numbered_sources start ns) (numbered_below start n ns l)

pub names_numbered : (start : ℕ) (ns : List (List ℕ)) → map (λ s. s.0) (numbered_sources start ns) ≡ ns
names_numbered start [] = refl
names_numbered start (n ∷ ns) = ap (λ r. n ∷ r) (names_numbered (start + 1) ns)

-- a layout is in range where its sources are
pub layout_in_range : (sources layout : Sources) (vs : List Val) → IsPermutation sources layout → AreInRange sources vs → AreInRange layout vs
layout_in_range sources layout vs p h = All-permutation (λ s. s.1 < length vs) sources layout p h

-- what one function gives of each item that another gives too
pub map_alike : {X Y : Type 0} (P : X → Type 0) (f g : X → Y) (xs : List X) → All P xs → ((x : X) → P x → f x ≡ g x) → map f xs ≡ map g xs
map_alike P f g [] a e = refl
map_alike P f g (x ∷ xs) a e =
    let first = e x (a 0 x (omega arith)) in
    let rest = map_alike P f g xs (λ k d l. a (suc k) d (omega arith)) e in
    λ i. first i ∷ rest i

-- ---- projections

kept_test : (names : List (List ℕ)) (n : List ℕ) (h : Heading) → has_attribute n h ≡ true → not (has_attribute n (outside (projection names h) h)) ≡ has_name n names
kept_test names n h there = by_name (has_name n names) refl
  where
    by_name : (b : Bool) → has_name n names ≡ b → not (has_attribute n (outside (projection names h) h)) ≡ b
    by_name true e =
        let same : type_at n (projection names h) ≡ type_at n h = type_at-projection names n h ∙ rw e refl in
        let kept : has_attribute n (projection names h) ≡ true = ap is_some same ∙ there in
        let dropped : type_at n (outside (projection names h) h) ≡ None = type_at-outside n (projection names h) h ∙ rw kept refl in
        rw dropped refl
    by_name false e =
        let none : type_at n (projection names h) ≡ None = type_at-projection names n h ∙ rw e refl in
        let lacking : has_attribute n (projection names h) ≡ false = ap is_some none in
        let same : type_at n (outside (projection names h) h) ≡ type_at n h = type_at-outside n (projection names h) h ∙ rw lacking refl in
        let dropped : has_attribute n (outside (projection names h) h) ≡ true = ap is_some same ∙ there in
        rw dropped refl

-- what is taken of the names that a projection keeps is the projected tuple
pub placed_projection : (names : List (List ℕ)) (h : Heading) (t : Tuple) → IsTupleOf h t
    → placed_tuple (sources_outside (outside (projection names h) h) 0 h) (values_of t) ≡ projected_tuple names t
placed_projection names h t p = ap tuple_of taken_kept ∙ entries_of_values (tuple_of kept) (projected_tuple names t) (tuple_of-ascends kept distinct) (names_ascend (projected_tuple names t) (IsTuple-filter (λ e. has_name e.0 names) t p.0)) same
  where
    part : Heading
    part = outside (projection names h) h

    kept : Tuple
    kept = filter (λ e. not (has_attribute e.0 part)) t

    distinct : are_distinct (tuple_names kept) ≡ true
    distinct = tuple_distinct kept (IsTuple-filter (λ e. not (has_attribute e.0 part)) t p.0)

    taken_kept : entries_taken (sources_outside part 0 h) (values_of t) ≡ kept
    taken_kept = taken_outside part h t 0 (values_of t) [] (names_of_heading h t p) (sym (append-nil (values_of t)))

    by_name : (n : List ℕ) (b : Bool) → has_attribute n h ≡ b → (if not (has_attribute n part) then value_at n t else None) ≡ (if has_name n names then value_at n t else None)
    by_name n true e = ap (λ b. if b then value_at n t else None) (kept_test names n h e)
    by_name n false e = rw (no_value_outside h t p n e) (both_none (not (has_attribute n part)) (has_name n names))
      where
        none : Option Val
        none = None

        both_none : (b c : Bool) → (if b then none else none) ≡ (if c then none else none)
        both_none true true = refl
        both_none true false = refl
        both_none false true = refl
        both_none false false = refl

    same : (n : List ℕ) → value_at n (tuple_of kept) ≡ value_at n (projected_tuple names t)
    same n =
        value_at-tuple_of n kept distinct ∙ value_at-filter (λ m. not (has_attribute m part)) n t ∙ by_name n (has_attribute n h) refl
        ∙ sym (value_of_projection names t n)

-- ---- rows that a layout makes

-- what an operation on headings answers, where it refuses nothing
pub value_of_answer : {A : Type 0} (r : Result A Fault) (x y : A) (test : Bool) (cause : Cause) → Answers (λ v. v) r (value_if test y cause) → r ≡ Ok x → x ≡ y
value_of_answer r x y test cause h e = IfOk-at_ok (λ v. v ≡ y) e (value_is (λ v. v) r y test cause h)

pub all_in_range : (sources layout : Sources) (h : Heading) (ts : List Tuple) → IsPermutation sources layout → All (λ s. s.1 < length h) sources
    → All (IsTupleOf h) ts → All (λ t. AreInRange layout (values_of t)) ts
all_in_range sources layout h ts p r a = λ k d l.
    layout_in_range sources layout (values_of (get_or ts k d)) p (subst (λ n. All (λ s. s.1 < n) sources) (as_many h (get_or ts k d) (a k d l)) r)

pub headed_by : (h g : Heading) (ts us : List Tuple) → h ≡ g → ts ≡ us → All (IsTupleOf g) us → All (IsTupleOf h) ts
headed_by h g ts us e f a = subst (λ k. All (IsTupleOf k) ts) (sym e) (subst (All (IsTupleOf g)) (sym f) a)

-- a relation is made of a heading and tuples that are those of its definition
pub relation_is : (r : Result Relation AllocError) (g h : Heading) (ts us : List Tuple) → g ≡ h → ts ≡ us
    → IfOk r (λ made. made ≡ relation_of g ts) → IfOk r (λ made. made ≡ relation_of h us)
relation_is r g h ts us e f = subst (λ made. IfOk r (λ m. m ≡ relation_of g ts) → IfOk r (λ m. m ≡ made)) (λ i. relation_of (e i) (f i)) (λ k. k)
