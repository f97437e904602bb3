-- Two ascending lists of tuples side by side.
use Rattle.std.proofs.Common.{◌≡◌, ◌∙◌, ap, arith, sym, refl, subst, true≢false, append_assoc, Bool, true, false, ◌||◌, ℕ, zero, suc, ◌+◌, ◌<◌, List, [], ◌∷◌, ◌++◌, drop, filter, get_or, length, nat_eq}
use Rattle.std.specs.Prelude.{◌&&◌, if◌then◌else◌}
use Rattle.std.specs.declared.cmp.Ordering.{Ordering}
use Rattle.std.specs.declared.cmp.Ordering.TheVariants.{Less, Equal, Greater}
use Rattle.std.specs.Ordering.{eq_by_cmp, is_eq, is_lt, ordering_reverse}
use Rattle.std.specs.List.{AllByRecursion, list_all}
use Rattle.std.specs.List.Sorted.{IsStrictlySortedBy}
use Rattle.std.proofs.Math.Bool.{beq}
use Rattle.std.proofs.lemmas.Bool.{eqb-true}
use Rattle.std.proofs.lemmas.List.{append-nil, at_drop_more}
use Rattle.std.proofs.lemmas.List.Folds.{list_any-append}
use Rattle.std.proofs.lemmas.List.Kept.{IsStrictlySortedBy-filter}
use Rattle.td_value.specs.model.Sets.{has, set_of}
use Rattle.td_value.specs.model.Values.{Tuple, IsAscendingBody, Relation, relation_of, tuple_cmp}
use Rattle.td_value.specs.code.ValueOrder.{tuple_Decides, tuple_order_same, tuple_order_total}
use Rattle.td_value.proofs.SetLaws.{is_set_of, same_members}
use Rattle.td_algebra.specs.model.Operators.{union}
use Rattle.td_algebra.proofs.Ascents.{ascending_set}
use Rattle.td_algebra.proofs.Lists.{all_kept}
use Rattle.td_algebra.specs.code.Merges.{IsAbreast, without_first, begins_with, below, is_wanted, merged_tuples, not_below}

-- ---- the order of two tuples

abbrev AreAbove : Tuple → List Tuple → Type 0
AreAbove t = AllByRecursion (λ u. tuple_cmp t u ≡ Less)

turned : (t u : Tuple) → tuple_cmp u t ≡ ordering_reverse (tuple_cmp t u)
turned t u = tuple_order_total.antisymm u t

-- what is below a tuple is not it
apart : (t u : Tuple) → tuple_cmp t u ≡ Less → eq_by_cmp tuple_cmp t u ≡ false
apart t u e = ap is_eq e

apart_turned : (t u : Tuple) → tuple_cmp u t ≡ Less → eq_by_cmp tuple_cmp t u ≡ false
apart_turned t u e = ap is_eq (turned u t ∙ ap ordering_reverse e)

above_all : (t u : Tuple) (us : List Tuple) → tuple_cmp t u ≡ Less → AreAbove u us → AreAbove t us
above_all t u [] e h = tt
above_all t u (v ∷ vs) e h = (tuple_order_total.trans t u v e h.0, above_all t u vs e h.1)

-- what is below all of a list is not in it
missing : (t : Tuple) (us : List Tuple) → AreAbove t us → has tuple_cmp t us ≡ false
missing t [] h = refl
missing t (u ∷ us) h = rw (apart t u h.0, missing t us h.1)

-- ---- what is left of a list that a tuple is looked for in

pub not_below-ascends : (t : Tuple) (us : List Tuple) → IsAscendingBody us → IsAscendingBody (not_below t us)
unfolding IsStrictlySortedBy
not_below-ascends t [] h = tt
not_below-ascends t (u ∷ us) h = by_order (not_below-ascends t us h.1) (is_lt (tuple_cmp u t)) refl
  where
    by_order : IsAscendingBody (not_below t us) → (b : Bool) → is_lt (tuple_cmp u t) ≡ b → IsAscendingBody (not_below t (u ∷ us))
    by_order rest true e = rw e rest
    by_order rest false e = rw e h

-- what is not below the tuple is left
has-not_below : (s t : Tuple) (us : List Tuple) → tuple_cmp t s ≡ Less → has tuple_cmp s (not_below t us) ≡ has tuple_cmp s us
has-not_below s t [] e = refl
has-not_below s t (u ∷ us) e = by_order (has-not_below s t us e) (tuple_cmp u t) refl
  where
    by_order : has tuple_cmp s (not_below t us) ≡ has tuple_cmp s us → (o : Ordering) → tuple_cmp u t ≡ o → has tuple_cmp s (not_below t (u ∷ us)) ≡ has tuple_cmp s (u ∷ us)
    by_order rest Less d = rw (d, apart_turned s u (tuple_order_total.trans u t s d e)) rest
    by_order rest Equal d = rw d refl
    by_order rest Greater d = rw d refl

-- what is left begins with the tuple exactly where the list has it
begins-has : (t : Tuple) (us : List Tuple) → IsAscendingBody us → begins_with t (not_below t us) ≡ has tuple_cmp t us
unfolding IsStrictlySortedBy
begins-has t [] h = refl
begins-has t (u ∷ us) h = by_order (begins-has t us h.1) (tuple_cmp u t) refl
  where
    by_order : begins_with t (not_below t us) ≡ has tuple_cmp t us → (o : Ordering) → tuple_cmp u t ≡ o → begins_with t (not_below t (u ∷ us)) ≡ has tuple_cmp t (u ∷ us)
    by_order rest Less d = rw (d, apart_turned t u d) rest
    by_order rest Equal d =
        let same : t ≡ u = sym (tuple_order_same u t d) in
        rw (d, ap is_eq (turned u t ∙ ap ordering_reverse d)) refl
    by_order rest Greater d =
        let less : tuple_cmp t u ≡ Less = turned u t ∙ ap ordering_reverse d in
        rw (d, apart t u less, missing t us (above_all t u us less h.0)) refl

has-later : (s t : Tuple) (ts : List Tuple) → has tuple_cmp s ts ≡ true → has tuple_cmp s (t ∷ ts) ≡ true
has-later s t ts e = rw e (or_true (eq_by_cmp tuple_cmp s t))
  where
    or_true : (b : Bool) → (b || true) ≡ true
    or_true true = refl
    or_true false = refl

is_above : (s t : Tuple) (ts : List Tuple) → AreAbove t ts → has tuple_cmp s ts ≡ true → tuple_cmp t s ≡ Less
is_above s t [] h e = absurd (true≢false (sym e))
is_above s t (u ∷ us) h e = by_tie (is_above s t us h.1) (eq_by_cmp tuple_cmp s u) refl
  where
    by_tie : (has tuple_cmp s us ≡ true → tuple_cmp t s ≡ Less) → (b : Bool) → eq_by_cmp tuple_cmp s u ≡ b → tuple_cmp t s ≡ Less
    by_tie later true is = ap (tuple_cmp t) ((tuple_Decides s u).0 is) ∙ h.0
    by_tie later false is = later (rw is at e)

-- the next tuple is in the whole list exactly where what is left begins with it
pub next_is_in : (t : Tuple) (ts rest us : List Tuple) → IsAscendingBody rest → IsAbreast (t ∷ ts) rest us → begins_with t (not_below t rest) ≡ has tuple_cmp t us
next_is_in t ts rest us a h = begins-has t rest a ∙ h t (rw ((tuple_Decides t t).1 refl) refl)

-- and after it they are abreast again
pub abreast_after : (t : Tuple) (ts rest us : List Tuple) → IsAscendingBody (t ∷ ts) → IsAbreast (t ∷ ts) rest us → IsAbreast ts (not_below t rest) us
unfolding IsStrictlySortedBy
abreast_after t ts rest us a h s e = has-not_below s t rest (is_above s t ts a.0 e) ∙ h s (has-later s t ts e)

-- ---- the merge has the tuples of both, and ascends

or_assoc : (a b c : Bool) → ((a || b) || c) ≡ (a || (b || c))
or_assoc true b c = refl
or_assoc false b c = refl

has-split : (s t : Tuple) (us : List Tuple) → has tuple_cmp s us ≡ (has tuple_cmp s (below t us) || has tuple_cmp s (not_below t us))
has-split s t [] = refl
has-split s t (u ∷ us) = by_order (has-split s t us) (is_lt (tuple_cmp u t)) refl
  where
    by_order : has tuple_cmp s us ≡ (has tuple_cmp s (below t us) || has tuple_cmp s (not_below t us)) → (b : Bool) → is_lt (tuple_cmp u t) ≡ b
        → has tuple_cmp s (u ∷ us) ≡ (has tuple_cmp s (below t (u ∷ us)) || has tuple_cmp s (not_below t (u ∷ us)))
    by_order rest true e = rw e (ap (λ b. eq_by_cmp tuple_cmp s u || b) rest ∙ sym (or_assoc (eq_by_cmp tuple_cmp s u) _ _))
    by_order rest false e = rw e refl

-- with the tuple, its own place in the list makes no difference
has-without_first : (s t : Tuple) (us : List Tuple) → (eq_by_cmp tuple_cmp s t || has tuple_cmp s (without_first t us)) ≡ (eq_by_cmp tuple_cmp s t || has tuple_cmp s us)
has-without_first s t [] = refl
has-without_first s t (u ∷ us) = by_tie (eq_by_cmp tuple_cmp t u) refl
  where
    again : (b c : Bool) → (b || c) ≡ (b || (b || c))
    again true c = refl
    again false c = refl

    by_tie : (b : Bool) → eq_by_cmp tuple_cmp t u ≡ b → (eq_by_cmp tuple_cmp s t || has tuple_cmp s (without_first t (u ∷ us))) ≡ (eq_by_cmp tuple_cmp s t || has tuple_cmp s (u ∷ us))
    by_tie true e = rw (e, sym ((tuple_Decides t u).0 e)) (again (eq_by_cmp tuple_cmp s t) (has tuple_cmp s us))
    by_tie false e = rw e refl

reordered : (a b c d e : Bool) → (b || e) ≡ (b || d) → (a || (b || (c || e))) ≡ ((b || c) || (a || d))
reordered a true c d e h = by_first a
  where
    by_first : (a : Bool) → (a || true) ≡ true
    by_first true = refl
    by_first false = refl
reordered a false c d e h = rw h (swapped a c d)
  where
    swapped : (a c d : Bool) → (a || (c || d)) ≡ (c || (a || d))
    swapped true true d = refl
    swapped true false d = refl
    swapped false c d = refl

has-merged : (s : Tuple) (ts us : List Tuple) → has tuple_cmp s (merged_tuples ts us) ≡ (has tuple_cmp s ts || has tuple_cmp s us)
has-merged s [] us = refl
has-merged s (t ∷ ts) us =
    let rest = without_first t (not_below t us) in
    list_any-append (eq_by_cmp tuple_cmp s) (below t us) (t ∷ merged_tuples ts rest)
    ∙ ap (λ b. has tuple_cmp s (below t us) || (eq_by_cmp tuple_cmp s t || b)) (has-merged s ts rest)
    ∙ reordered (has tuple_cmp s (below t us)) (eq_by_cmp tuple_cmp s t) (has tuple_cmp s ts) (has tuple_cmp s (not_below t us)) (has tuple_cmp s rest) (has-without_first s t (not_below t us))
    ∙ ap (λ b. has tuple_cmp s (t ∷ ts) || b) (sym (has-split s t us))

without_first-ascends : (t : Tuple) (us : List Tuple) → IsAscendingBody us → IsAscendingBody (without_first t us)
unfolding IsStrictlySortedBy
without_first-ascends t [] h = tt
without_first-ascends t (u ∷ us) h = by_tie (eq_by_cmp tuple_cmp t u) refl
  where
    by_tie : (b : Bool) → eq_by_cmp tuple_cmp t u ≡ b → IsAscendingBody (without_first t (u ∷ us))
    by_tie true e = rw e h.1
    by_tie false e = rw e h

-- what stands after the tuple is above it
without_first-above : (t : Tuple) (us : List Tuple) → IsAscendingBody us → AreAbove t (without_first t (not_below t us))
unfolding IsStrictlySortedBy
without_first-above t [] h = tt
without_first-above t (u ∷ us) h = by_order (without_first-above t us h.1) (tuple_cmp u t) refl
  where
    by_order : AreAbove t (without_first t (not_below t us)) → (o : Ordering) → tuple_cmp u t ≡ o → AreAbove t (without_first t (not_below t (u ∷ us)))
    by_order rest Less d = rw d rest
    by_order rest Equal d =
        let same : u ≡ t = tuple_order_same u t d in
        rw (d, ap is_eq (turned u t ∙ ap ordering_reverse d)) (subst (λ v. AreAbove v us) same h.0)
    by_order rest Greater d =
        let less : tuple_cmp t u ≡ Less = turned u t ∙ ap ordering_reverse d in
        rw (d, apart t u less) (less, above_all t u us less h.0)

-- what holds of all tuples of both holds of all of the merge
module _ (P : Tuple → Type 0) where
  pub joined_all : (us vs : List Tuple) → AllByRecursion P us → AllByRecursion P vs → AllByRecursion P (us ++ vs)
  joined_all [] vs a b = b
  joined_all (u ∷ us) vs a b = (a.0, joined_all us vs a.1 b)

  pub below_all : (t : Tuple) (us : List Tuple) → AllByRecursion P us → AllByRecursion P (below t us)
  below_all t [] h = tt
  below_all t (u ∷ us) h = by_order (below_all t us h.1) (is_lt (tuple_cmp u t)) refl
    where
      by_order : AllByRecursion P (below t us) → (b : Bool) → is_lt (tuple_cmp u t) ≡ b → AllByRecursion P (below t (u ∷ us))
      by_order rest true e = rw e (h.0, rest)
      by_order rest false e = rw e tt

  not_below_all : (t : Tuple) (us : List Tuple) → AllByRecursion P us → AllByRecursion P (not_below t us)
  not_below_all t [] h = tt
  not_below_all t (u ∷ us) h = by_order (not_below_all t us h.1) (is_lt (tuple_cmp u t)) refl
    where
      by_order : AllByRecursion P (not_below t us) → (b : Bool) → is_lt (tuple_cmp u t) ≡ b → AllByRecursion P (not_below t (u ∷ us))
      by_order rest true e = rw e rest
      by_order rest false e = rw e h

  without_first_all : (t : Tuple) (us : List Tuple) → AllByRecursion P us → AllByRecursion P (without_first t us)
  without_first_all t [] h = tt
  without_first_all t (u ∷ us) h = by_tie (eq_by_cmp tuple_cmp t u) refl
    where
      by_tie : (b : Bool) → eq_by_cmp tuple_cmp t u ≡ b → AllByRecursion P (without_first t (u ∷ us))
      by_tie true e = rw e h.1
      by_tie false e = rw e h

  pub merged_all : (ts us : List Tuple) → AllByRecursion P ts → AllByRecursion P us → AllByRecursion P (merged_tuples ts us)
  merged_all [] us a b = b
  merged_all (t ∷ ts) us a b =
      joined_all (below t us) (t ∷ merged_tuples ts (without_first t (not_below t us))) (below_all t us b)
      (a.0, merged_all ts (without_first t (not_below t us)) a.1 (without_first_all t (not_below t us) (not_below_all t us b)))

below_then : (t : Tuple) (us ms : List Tuple) → IsAscendingBody us → IsAscendingBody (t ∷ ms) → IsAscendingBody (below t us ++ t ∷ ms)
unfolding IsStrictlySortedBy
below_then t [] ms a b = b
below_then t (u ∷ us) ms a b = by_order (below_then t us ms a.1 b) (tuple_cmp u t) refl
  where
    by_order : IsAscendingBody (below t us ++ t ∷ ms) → (o : Ordering) → tuple_cmp u t ≡ o → IsAscendingBody (below t (u ∷ us) ++ t ∷ ms)
    by_order rest Less d = rw d (joined_all (λ v. tuple_cmp u v ≡ Less) (below t us) (t ∷ ms) (below_all (λ v. tuple_cmp u v ≡ Less) t us a.0) (d, above_all u t ms d b.0), rest)
    by_order rest Equal d = rw d b
    by_order rest Greater d = rw d b

pub merged-ascends : (ts us : List Tuple) → IsAscendingBody ts → IsAscendingBody us → IsAscendingBody (merged_tuples ts us)
unfolding IsStrictlySortedBy
merged-ascends [] us a b = b
merged-ascends (t ∷ ts) us a b =
    let rest = without_first t (not_below t us) in
    let ascends : IsAscendingBody rest = without_first-ascends t (not_below t us) (not_below-ascends t us b) in
    below_then t us (merged_tuples ts rest) b (merged_all (λ v. tuple_cmp t v ≡ Less) ts rest a.0 (without_first-above t us b), merged-ascends ts rest a.1 ascends)

-- the merge of two ascending lists is the set of both
pub merged-is-set : (ts us : List Tuple) → IsAscendingBody ts → IsAscendingBody us → merged_tuples ts us ≡ set_of tuple_cmp (ts ++ us)
merged-is-set ts us a b =
    is_set_of tuple_cmp tuple_order_total tuple_order_same (merged_tuples ts us) (ts ++ us) (merged-ascends ts us a b)
    (λ s. has-merged s ts us ∙ sym (list_any-append (eq_by_cmp tuple_cmp s) ts us))

-- ---- one step along the first list

first_left : (ts : List Tuple) (i : ℕ) (t : Tuple) → i < length ts → t ≡ get_or ts i t → drop i ts ≡ t ∷ drop (i + 1) ts
first_left ts i t h e = at_drop_more (λ r. r) ts i t h ∙ ap (λ u. u ∷ drop (i + 1) ts) (sym e)

drop-ascends : (ts : List Tuple) (i : ℕ) → IsAscendingBody ts → IsAscendingBody (drop i ts)
unfolding IsStrictlySortedBy
drop-ascends ts zero h = h
drop-ascends [] (suc i) h = h
drop-ascends (t ∷ ts) (suc i) h = drop-ascends ts i h.1

-- the tuple at the place is in the whole list exactly where what is left begins with it
pub step_finds : (ts rest left us : List Tuple) (i : ℕ) (t : Tuple) (b : Bool) → i < length ts → t ≡ get_or ts i t → IsAscendingBody rest
    → IsAbreast (drop i ts) rest us → left ≡ not_below t rest → b ≡ begins_with t left → b ≡ has tuple_cmp t us
step_finds ts rest left us i t b h e a abreast is found =
    found ∙ ap (begins_with t) is ∙ next_is_in t (drop (i + 1) ts) rest us a (subst (λ l. IsAbreast l rest us) (first_left ts i t h e) abreast)

-- and past it they are abreast again
pub step_abreast : (ts rest left us : List Tuple) (i : ℕ) (t : Tuple) → i < length ts → t ≡ get_or ts i t → IsAscendingBody ts → IsAbreast (drop i ts) rest us
    → left ≡ not_below t rest → IsAbreast (drop (i + 1) ts) left us
step_abreast ts rest left us i t h e a abreast is =
    let first = first_left ts i t h e in
    subst (λ l. IsAbreast (drop (i + 1) ts) l us) (sym is)
    (abreast_after t (drop (i + 1) ts) rest us (subst IsAscendingBody first (drop-ascends ts i a)) (subst (λ l. IsAbreast l rest us) first abreast))

pub left-ascends : (t : Tuple) (rest left : List Tuple) → IsAscendingBody rest → left ≡ not_below t rest → IsAscendingBody left
left-ascends t rest left a is = subst IsAscendingBody (sym is) (not_below-ascends t rest a)

-- whether a tuple is wanted, as the code tests it
pub wanted_is : (wanted : Bool) (us : List Tuple) (t : Tuple) (found result : Bool) → found ≡ has tuple_cmp t us → beq found wanted ≡ result → is_wanted wanted us t ≡ result
wanted_is true us t true result e f = sym e ∙ f
wanted_is true us t false result e f = sym e ∙ f
wanted_is false us t true result e f = rw (sym e) f
wanted_is false us t false result e f = rw (sym e) f

-- a test of all from the place on, by the tuple at the place
pub step_failed : (p : Tuple → Bool) (ts : List Tuple) (i : ℕ) (t : Tuple) → i < length ts → t ≡ get_or ts i t → false ≡ p t
    → list_all p (drop i ts) ≡ list_all p ts → false ≡ list_all p ts
step_failed p ts i t h e is inv = sym (ap (list_all p) (first_left ts i t h e) ∙ rw (sym is) refl) ∙ inv

pub step_passed : (p : Tuple → Bool) (ts : List Tuple) (i : ℕ) (t : Tuple) → i < length ts → t ≡ get_or ts i t → true ≡ p t
    → list_all p (drop i ts) ≡ list_all p ts → list_all p (drop (i + 1) ts) ≡ list_all p ts
step_passed p ts i t h e is inv = sym (ap (list_all p) (first_left ts i t h e) ∙ rw (sym is) refl) ∙ inv

-- a filter from the place on, by the tuple at the place
pub step_kept : (p : Tuple → Bool) (ts kept all : List Tuple) (i : ℕ) (t : Tuple) → i < length ts → t ≡ get_or ts i t → p t ≡ true
    → kept ++ filter p (drop i ts) ≡ all → (kept ++ t ∷ []) ++ filter p (drop (i + 1) ts) ≡ all
step_kept p ts kept all i t h e is inv =
    append_assoc kept (t ∷ []) (filter p (drop (i + 1) ts))
    ∙ ap (λ l. kept ++ l) (sym (ap (filter p) (first_left ts i t h e) ∙ rw is refl)) ∙ inv

pub step_dropped : (p : Tuple → Bool) (ts kept all : List Tuple) (i : ℕ) (t : Tuple) → i < length ts → t ≡ get_or ts i t → p t ≡ false
    → kept ++ filter p (drop i ts) ≡ all → kept ++ filter p (drop (i + 1) ts) ≡ all
step_dropped p ts kept all i t h e is inv =
    ap (λ l. kept ++ l) (sym (ap (filter p) (first_left ts i t h e) ∙ rw is refl)) ∙ inv

-- ---- what two ascending lists have in common

has-filter : (p : Tuple → Bool) (t : Tuple) (ts : List Tuple) → has tuple_cmp t (filter p ts) ≡ (has tuple_cmp t ts && p t)
has-filter p t [] = refl
has-filter p t (u ∷ us) = by_test (eq_by_cmp tuple_cmp t u) refl (p u) refl (has-filter p t us)
  where
    and_false : (b : Bool) → (b && false) ≡ false
    and_false true = refl
    and_false false = refl

    by_test : (same : Bool) → eq_by_cmp tuple_cmp t u ≡ same → (kept : Bool) → p u ≡ kept → has tuple_cmp t (filter p us) ≡ (has tuple_cmp t us && p t)
        → has tuple_cmp t (if kept then u ∷ filter p us else filter p us) ≡ ((same || has tuple_cmp t us) && p t)
    by_test true is true e later =
        let there : p t ≡ true = ap p ((tuple_Decides t u).0 is) ∙ e in
        ap (λ b. b || has tuple_cmp t (filter p us)) is ∙ sym there
    by_test true is false e later =
        let none : p t ≡ false = ap p ((tuple_Decides t u).0 is) ∙ e in
        later ∙ ap (λ b. has tuple_cmp t us && b) none ∙ and_false (has tuple_cmp t us) ∙ sym none
    by_test false is true e later = ap (λ b. b || has tuple_cmp t (filter p us)) is ∙ later
    by_test false is false e later = later

-- those of the one that the other has are those of the other that it has
pub common_turned : (ts us : List Tuple) → IsAscendingBody ts → IsAscendingBody us
    → filter (λ t. has tuple_cmp t us) ts ≡ filter (λ t. has tuple_cmp t ts) us
common_turned ts us a b =
    same_members tuple_cmp tuple_order_total tuple_order_same (filter (λ t. has tuple_cmp t us) ts) (filter (λ t. has tuple_cmp t ts) us)
    (IsStrictlySortedBy-filter tuple_cmp (λ t. has tuple_cmp t us) ts a) (IsStrictlySortedBy-filter tuple_cmp (λ t. has tuple_cmp t ts) us b)
    (λ t. has-filter (λ u. has tuple_cmp u us) t ts ∙ both (has tuple_cmp t ts) (has tuple_cmp t us) ∙ sym (has-filter (λ u. has tuple_cmp u ts) t us))
  where
    both : (b c : Bool) → (b && c) ≡ (c && b)
    both true true = refl
    both true false = refl
    both false true = refl
    both false false = refl

-- ---- an operand that has no tuples

pub no_rows : (rows ts : List Tuple) (empty : Bool) → rows ≡ ts → empty ≡ nat_eq (length rows) 0 → empty ≡ true → ts ≡ []
no_rows [] ts empty is e test = sym is
no_rows (t ∷ rows) ts empty is e test = absurd (omega (arith, eqb-true (length (t ∷ rows)) 0 (sym e ∙ test)))

pub all_wanted : (wanted : Bool) (us ts : List Tuple) → wanted ≡ false → us ≡ [] → filter (is_wanted wanted us) ts ≡ ts
all_wanted wanted us ts w none = rw (w, none) (all_kept (is_wanted false []) ts (λ t. refl))

-- the union with nothing
pub union_nothing : (r s : Relation) → IsAscendingBody r.body → s.body ≡ [] → r ≡ union r s
union_nothing r s up none = ascending_set r.heading r.body up ∙ ap (relation_of r.heading) (sym (append-nil r.body) ∙ ap (λ ts. r.body ++ ts) (sym none))

pub nothing_union : (r s : Relation) → r.heading ≡ s.heading → IsAscendingBody s.body → r.body ≡ [] → s ≡ union r s
nothing_union r s same up none = ascending_set s.heading s.body up ∙ (λ i. relation_of (sym same i) (sym none i ++ s.body))
