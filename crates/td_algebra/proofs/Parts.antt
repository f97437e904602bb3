-- Lists of values compared place by place.
use Rattle.std.proofs.Common.{◌≡◌, ◌∙◌, ap, sym, arith, ℕ, ◌+◌, ◌<◌, Bool, true, false, List, drop, get_or, length}
use Rattle.std.specs.Prelude.{◌&&◌, not}
use Rattle.std.specs.Ordering.{eq_by_cmp}
use Rattle.std.proofs.lemmas.List.{drop_more, get_or_default}
use Rattle.td_value.specs.model.Values.{Val, boolean, value_cmp}
use Rattle.td_algebra.specs.code.Lookups.{AreWithin, are_same, values_at}

-- the test from a place on is that of the values there, and of those after them
pub same_more : (values others : List Val) (places other_places : List ℕ) (i : ℕ) → i < length places → i < length other_places
    → are_same (values_at (drop i places) values) (values_at (drop i other_places) others)
    ≡ (eq_by_cmp value_cmp (get_or values (get_or places i 0) (boolean false)) (get_or others (get_or other_places i 0) (boolean false))
    && are_same (values_at (drop (i + 1) places) values) (values_at (drop (i + 1) other_places) others))
same_more values others places other_places i l m =
    λ j. are_same (values_at (drop_more places i 0 l j) values) (values_at (drop_more other_places i 0 m j) others)

-- values that differ at one place are not the same
pub same_stops : (values others : List Val) (places other_places : List ℕ) (i : ℕ) (v w : Val) (differ : Bool) → length places ≡ length other_places → i < length places
    → v ≡ get_or values (get_or places i 0) v → w ≡ get_or others (get_or other_places i 0) w
    → AreWithin places values → AreWithin other_places others
    → differ ≡ not (eq_by_cmp value_cmp v w) → differ ≡ true
    → are_same (values_at (drop i places) values) (values_at (drop i other_places) others) ≡ are_same (values_at places values) (values_at other_places others)
    → false ≡ are_same (values_at places values) (values_at other_places others)
same_stops values others places other_places i v w differ long l is are own theirs e d so_far =
    let m : i < length other_places = omega (arith, long, l) in
    let first : v ≡ get_or values (get_or places i 0) (boolean false) = is ∙ get_or_default values (get_or places i 0) v (boolean false) (own i 0 l) in
    let second : w ≡ get_or others (get_or other_places i 0) (boolean false) = are ∙ get_or_default others (get_or other_places i 0) w (boolean false) (theirs i 0 m) in
    by_test (eq_by_cmp value_cmp v w) (sym e ∙ d)
    (ap (λ b. b && are_same (values_at (drop (i + 1) places) values) (values_at (drop (i + 1) other_places) others)) (λ j. eq_by_cmp value_cmp (first j) (second j))
    ∙ sym (same_more values others places other_places i l m) ∙ so_far)
  where
    by_test : (b : Bool) → not b ≡ true
        → (b && are_same (values_at (drop (i + 1) places) values) (values_at (drop (i + 1) other_places) others)) ≡ are_same (values_at places values) (values_at other_places others)
        → false ≡ are_same (values_at places values) (values_at other_places others)
    by_test true f rest = absurd (cc)
    by_test false f rest = rest
