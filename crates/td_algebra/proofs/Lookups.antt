-- The rows of a look-up: the first of given values, and after each the next of the same.
use Rattle.std.proofs.Common.{◌≡◌, ◌∙◌, ap, sym, refl, subst, add-one, arith, cond, ℕ, zero, suc, ◌+◌, ◌<◌, ◌≤◌, Bool, true, false, List, [], ◌∷◌, ◌++◌, reverse, Option, None, Some, drop, filter, get_or, length}
use Rattle.std.specs.Prelude.{◌||◌, IfSome, is_some, if◌then◌else◌}
use Rattle.std.specs.HashMap.{HashMap, get}
use Rattle.std.specs.List.{list_any, slice_get}
use Rattle.std.proofs.lemmas.Grind.{reverse_onto}
use Rattle.std.proofs.lemmas.List.{drop_more, length-drop}
use Rattle.std.proofs.lemmas.Option.{slice_get_read}
use Rattle.td_value.specs.model.Values.{Val, Tuple}
use Rattle.td_algebra.specs.code.Lookups.{HasFirsts, RowsByParts, are_same, first_place, has_part, like_first, like_row_at, next_places, part_of}
use Rattle.td_algebra.specs.code.Parts.{same_Decides, same_equiv}

-- one more is left out
dropped_suc : (all : List Tuple) (i : ℕ) (t : Tuple) (ts : List Tuple) → drop i all ≡ t ∷ ts → drop (suc i) all ≡ ts
dropped_suc [] zero t ts e = absurd (cc)
dropped_suc [] (suc i) t ts e = absurd (cc)
dropped_suc (u ∷ all) zero t ts e = cc
dropped_suc (u ∷ all) (suc i) t ts e = dropped_suc all i t ts e

dropped_more : (all : List Tuple) (i : ℕ) (t : Tuple) (ts : List Tuple) → drop i all ≡ t ∷ ts → drop (i + 1) all ≡ ts
dropped_more all i t ts e = ap (λ n. drop n all) (add-one i) ∙ dropped_suc all i t ts e

-- ---- rows from a place on

module _ (places : List ℕ) (all : List Tuple) where
  -- from the first row of given values on come those that have them
  pub first_rows : (vs : List Val) (start : ℕ) (ts : List Tuple) → drop start all ≡ ts
      → like_row_at (places, all) (first_place (has_part places vs) start ts) ≡ filter (has_part places vs) ts
  first_rows vs start [] e = refl
  first_rows vs start (t ∷ ts) e =
      by_test (first_rows vs (start + 1) ts (dropped_more all start t ts e)) (has_part places vs t) refl
    where
      by_test : like_row_at (places, all) (first_place (has_part places vs) (start + 1) ts) ≡ filter (has_part places vs) ts
          → (b : Bool) → has_part places vs t ≡ b
          → like_row_at (places, all) (if b then Some start else first_place (has_part places vs) (start + 1) ts)
          ≡ (if b then t ∷ filter (has_part places vs) ts else filter (has_part places vs) ts)
      by_test later true is =
          let same : vs ≡ part_of places t = (same_Decides vs (part_of places t)).0 is in
          ap (like_first places) e ∙ ap (λ ws. t ∷ filter (has_part places ws) ts) (sym same)
      by_test later false is = later

-- the first place is one of the rows
pub first_within : (p : Tuple → Bool) (start : ℕ) (ts : List Tuple) (place : ℕ) → first_place p start ts ≡ Some place
    → place < start + length ts
first_within p start [] place e = absurd (cc)
first_within p start (t ∷ ts) place e = by_test (first_within p (start + 1) ts place) (p t) e
  where
    by_test : (first_place p (start + 1) ts ≡ Some place → place < start + 1 + length ts) → (b : Bool) → (if b then Some start else first_place p (start + 1) ts) ≡ Some place → place < start + length (t ∷ ts)
    by_test later true f =
        let same : start ≡ place = cc in
        omega (arith, same)
    by_test later false f = omega (arith, later f)

-- there is one where a row passes the test
pub first_there : (p : Tuple → Bool) (start : ℕ) (ts : List Tuple) → is_some (first_place p start ts) ≡ list_any p ts
first_there p start [] = refl
first_there p start (t ∷ ts) = by_test (first_there p (start + 1) ts) (p t)
  where
    by_test : is_some (first_place p (start + 1) ts) ≡ list_any p ts → (b : Bool) → is_some (if b then Some start else first_place p (start + 1) ts) ≡ (b || list_any p ts)
    by_test later true = refl
    by_test later false = later

-- ---- next places

pub length-next_places : (places : List ℕ) (start : ℕ) (ts : List Tuple) → length (next_places places start ts) ≡ length ts
length-next_places places start [] = refl
length-next_places places start (t ∷ ts) = ap suc (length-next_places places (start + 1) ts)

-- the one at a place is that of the row there
pub next_at : (places : List ℕ) (start : ℕ) (ts : List Tuple) (k : ℕ) (t : Tuple) (d : Option ℕ) → slice_get ts k ≡ Some t
    → get_or (next_places places start ts) k d ≡ first_place (has_part places (part_of places t)) (start + k + 1) (drop (k + 1) ts)
next_at places start [] k t d e = absurd (cc)
next_at places start (u ∷ ts) zero t d e =
    let same : u ≡ t = cc in
    let more : start + 1 ≡ start + 0 + 1 = omega arith in
    λ i. first_place (has_part places (part_of places (same i))) (more i) ts
next_at places start (u ∷ ts) (suc k) t d e =
    let more : start + 1 + k + 1 ≡ start + suc k + 1 = omega arith in
    next_at places (start + 1) ts k t d e
    ∙ (λ i. first_place (has_part places (part_of places t)) (more i) (drop_one (add-one k ∙ refl) i))
  where
    drop_one : k + 1 ≡ suc k → drop (k + 1) ts ≡ drop (suc k + 1) (u ∷ ts)
    drop_one e = sym (ap (λ n. drop n (u ∷ ts)) (add-one (suc k)) ∙ sym (ap (λ n. drop n ts) e))

-- ---- the table, from the last row to the first

-- one row more
pub firsts_more : {S : Type 0} (places : List ℕ) (rows : List Tuple) (place : ℕ) (row : Tuple) (part : List Val) (old new : HashMap (List Val) ℕ S)
    → place < length rows → row ≡ get_or rows place row → part ≡ part_of places row
    → HasFirsts places (place + 1) (drop (place + 1) rows) old
    → ((vs : List Val) → get are_same new vs ≡ cond (are_same part vs) (Some place) (get are_same old vs))
    → HasFirsts places place (drop place rows) new
firsts_more places rows place row part old new l is e firsts puts vs =
    puts vs ∙ ap (cond (are_same part vs) (Some place)) (firsts vs)
    ∙ ap (λ b. cond b (Some place) (first_place (has_part places vs) (place + 1) (drop (place + 1) rows)))
    (ap (λ ws. are_same ws vs) e ∙ same_equiv.symm (part_of places row) vs)
    ∙ ap (first_place (has_part places vs) place)
    (sym (drop_more rows place row l ∙ ap (λ t. t ∷ drop (place + 1) rows) (sym is)))

-- and its next one is what the table had
pub next_more : {S : Type 0} (places : List ℕ) (rows : List Tuple) (place : ℕ) (row : Tuple) (part : List Val) (old : HashMap (List Val) ℕ S) (was : Option ℕ)
    → place < length rows → row ≡ get_or rows place row → part ≡ part_of places row
    → HasFirsts places (place + 1) (drop (place + 1) rows) old → was ≡ get are_same old part
    → next_places places place (drop place rows) ≡ was ∷ next_places places (place + 1) (drop (place + 1) rows)
next_more places rows place row part old was l is e firsts there =
    ap (next_places places place) (drop_more rows place row l ∙ ap (λ t. t ∷ drop (place + 1) rows) (sym is))
    ∙ ap (λ o. o ∷ next_places places (place + 1) (drop (place + 1) rows))
    (sym (there ∙ ap (get are_same old) e ∙ firsts (part_of places row)))

-- the list of the next ones is made from its end
pub next_pushed : {S : Type 0} (places : List ℕ) (rows : List Tuple) (place : ℕ) (row : Tuple) (part : List Val) (old : HashMap (List Val) ℕ S) (was : Option ℕ) (made more : List (Option ℕ))
    → place < length rows → row ≡ get_or rows place row → part ≡ part_of places row
    → HasFirsts places (place + 1) (drop (place + 1) rows) old → was ≡ get are_same old part
    → made ≡ reverse (next_places places (place + 1) (drop (place + 1) rows)) → more ≡ made ++ was ∷ []
    → more ≡ reverse (next_places places place (drop place rows))
next_pushed places rows place row part old was made more l is e firsts there so_far push =
    let rest = next_places places (place + 1) (drop (place + 1) rows) in
    push ∙ ap (λ os. os ++ was ∷ []) so_far ∙ sym (reverse_onto rest was [])
    ∙ ap reverse (sym (next_more places rows place row part old was l is e firsts there))

-- ---- rows to come

-- at a place the row there comes first, and then those from its next place on
pub row_then : (l : RowsByParts) (place : ℕ) (row : Tuple) → place < length l.1 → row ≡ get_or l.1 place row
    → like_row_at l (Some place)
    ≡ row ∷ like_row_at l (first_place (has_part l.0 (part_of l.0 row)) (place + 1) (drop (place + 1) l.1))
row_then l place row within is =
    ap (like_first l.0) (drop_more l.1 place row within ∙ ap (λ t. t ∷ drop (place + 1) l.1) (sym is))
    ∙ ap (λ ts. row ∷ ts) (sym (first_rows l.0 l.1 (part_of l.0 row) (place + 1) (drop (place + 1) l.1) refl))

-- a first place of all rows is one of them
pub first_is_within : (p : Tuple → Bool) (ts : List Tuple) (found : Option ℕ) → found ≡ first_place p 0 ts → IfSome found (λ place. place < length ts)
first_is_within p ts None e = tt
first_is_within p ts (Some place) e = omega (arith, first_within p 0 ts place (sym e))

-- ---- one step along the rows of the same values

module _ (l : RowsByParts) (places : List ℕ) (rows : List Tuple) (next : List (Option ℕ)) (place : ℕ) (got : Option ℕ)
    (parts : (places, rows) ≡ l) (next_is : next ≡ next_places places 0 rows) (within : place < length rows) (read : got ≡ get_or next place got) where
  got_is : (row : Tuple) → row ≡ get_or rows place row → got ≡ first_place (has_part places (part_of places row)) (place + 1) (drop (place + 1) rows)
  got_is row is =
      let more : 0 + place + 1 ≡ place + 1 = omega arith in
      read ∙ ap (λ os. get_or os place got) next_is
      ∙ next_at places 0 rows place row got (slice_get_read rows (length rows) place row refl within is)
      ∙ ap (λ n. first_place (has_part places (part_of places row)) n (drop (place + 1) rows)) more

  -- the next place is one of the rows
  pub step_within : (row : Tuple) → row ≡ get_or rows place row → IfSome got (λ k. k < length l.1)
  step_within row is = subst (λ m. IfSome got (λ k. k < length m.1)) parts (by_case got (got_is row is))
    where
      by_case : (o : Option ℕ) → o ≡ first_place (has_part places (part_of places row)) (place + 1) (drop (place + 1) rows) → IfSome o (λ k. k < length rows)
      by_case None e = tt
      by_case (Some k) e =
          omega (arith, within, length-drop (place + 1) rows, first_within (has_part places (part_of places row)) (place + 1) (drop (place + 1) rows) k (sym e))

  -- the row comes first, and then those from the next place on
  pub step_gives : (row : Tuple) (self : List Tuple) (was : Option ℕ) → row ≡ get_or rows place row → like_row_at l was ≡ self → was ≡ Some place
      → self ≡ row ∷ like_row_at l got
  step_gives row self was is view at =
      sym view ∙ ap (like_row_at l) at
      ∙ subst (λ m. like_row_at m (Some place) ≡ row ∷ like_row_at m got) parts
      (row_then (places, rows) place row within is
      ∙ ap (λ o. row ∷ like_row_at (places, rows) o) (sym (got_is row is)))

-- what is kept is not more than all
pub kept_fewer : {X : Type 0} (p : X → Bool) (xs : List X) → length (filter p xs) ≤ length xs
kept_fewer p [] = omega arith
kept_fewer p (x ∷ xs) = by_test (p x) (kept_fewer p xs)
  where
    by_test : (b : Bool) → length (filter p xs) ≤ length xs → length (if b then x ∷ filter p xs else filter p xs) ≤ length (x ∷ xs)
    by_test true later = omega (arith, later)
    by_test false later = omega (arith, later)
