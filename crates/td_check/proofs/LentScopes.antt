-- What a name finds among relvars that stand in two lists, and among those that are declared.
use Rattle.std.proofs.Common.{◌≡◌, ◌∙◌, ◌∷◌, ◌++◌, ◌+◌, ◌<◌, ◌≤◌, ℕ, zero, suc, Bool, true, false, cond, List, [], Option, Some, None, ap, arith, map, nat_lt, option_map, refl, sym, take}
use Rattle.std.specs.Prelude.{if◌then◌else◌, is_some, length, not, ◌||◌}
use Rattle.std.specs.List.{position, position_or_len}
use Rattle.std.specs.Map.{keys_of, lookup}
use Rattle.td_check.specs.code.LentScopes.{declared_relvars, known_as}
use Rattle.td_check.specs.model.Scopes.{KnownRelvar, kind_and_heading, relvar_in}
use Rattle.td_check.specs.declared.declared.Declared.{Declared}
use Rattle.td_check.specs.declared.scope.Kind.{Kind}
use Rattle.td_check.specs.declared.scope.Kind.TheVariants.{Base, Virtual}
use Rattle.td_types.specs.model.Headings.{has_name}
use Rattle.td_types.specs.model.Types.{Heading, same_name}
use Rattle.td_types.proofs.HeadingLaws.{same_name-flips}

-- the first, or else the second
abbrev pub or_else : {A : Type 0} → Option A → Option A → Option A
or_else (Some x) o = Some x
or_else None o = o

-- what stands before is found before what stands behind
pub in_either : (name : List ℕ) (xs ys : List KnownRelvar)
    → option_map kind_and_heading (relvar_in name (xs ++ ys))
    ≡ or_else (option_map kind_and_heading (relvar_in name xs)) (option_map kind_and_heading (relvar_in name ys))
in_either name [] ys = refl
in_either name (r ∷ xs) ys = by_test (same_name r.name name) (in_either name xs ys)
  where
    by_test : (b : Bool)
        → option_map kind_and_heading (relvar_in name (xs ++ ys))
        ≡ or_else (option_map kind_and_heading (relvar_in name xs)) (option_map kind_and_heading (relvar_in name ys))
        → option_map kind_and_heading (if b then Some r else relvar_in name (xs ++ ys))
        ≡ or_else (option_map kind_and_heading (if b then Some r else relvar_in name xs)) (option_map kind_and_heading (relvar_in name ys))
    by_test true rest = refl
    by_test false rest = rest

-- what is found nowhere is not found behind
pub none_behind : (name : List ℕ) (xs ys : List KnownRelvar) → not (is_some (relvar_in name (xs ++ ys))) ≡ true → not (is_some (relvar_in name ys)) ≡ true
none_behind name [] ys h = h
none_behind name (r ∷ xs) ys h = by_test (same_name r.name name) h (none_behind name xs ys)
  where
    by_test : (b : Bool) → not (is_some (if b then Some r else relvar_in name (xs ++ ys))) ≡ true
        → (not (is_some (relvar_in name (xs ++ ys))) ≡ true → not (is_some (relvar_in name ys)) ≡ true) → not (is_some (relvar_in name ys)) ≡ true
    by_test true e rest = absurd (cc)
    by_test false e rest = rest e

pub unnamed_behind : (name : List ℕ) (ns ms : List (List ℕ)) → not (has_name name (ns ++ ms)) ≡ true → not (has_name name ms) ≡ true
unnamed_behind name [] ms h = h
unnamed_behind name (n ∷ ns) ms h = by_test (same_name n name) h (unnamed_behind name ns ms)
  where
    by_test : (b : Bool) → not (b || has_name name (ns ++ ms)) ≡ true → (not (has_name name (ns ++ ms)) ≡ true → not (has_name name ms) ≡ true)
        → not (has_name name ms) ≡ true
    by_test true e rest = absurd (cc)
    by_test false e rest = rest e

-- a name finds the heading of a row, of the rows' kind
pub in_rows : (kind : Kind) (name : List ℕ) (rows : List (List ℕ × Heading))
    → option_map (λ h. (kind, h)) (lookup (same_name name) rows) ≡ option_map kind_and_heading (relvar_in name (map (known_as kind) rows))
in_rows kind name [] = refl
in_rows kind name (row ∷ rows) =
    ap (λ b. option_map (λ h. (kind, h)) (cond b (Some row.1) (lookup (same_name name) rows))) (sym (same_name-flips row.0 name))
    ∙ by_test (same_name row.0 name) (in_rows kind name rows)
  where
    by_test : (b : Bool)
        → option_map (λ h. (kind, h)) (lookup (same_name name) rows) ≡ option_map kind_and_heading (relvar_in name (map (known_as kind) rows))
        → option_map (λ h. (kind, h)) (cond b (Some row.1) (lookup (same_name name) rows))
        ≡ option_map kind_and_heading (if b then Some (known_as kind row) else relvar_in name (map (known_as kind) rows))
    by_test true rest = refl
    by_test false rest = rest

-- a name finds the base relvar, or else the virtual relvar
pub in_declared : (name : List ℕ) (declared : Declared) (virtuals : ℕ)
    → or_else (option_map (λ h. (Base, h)) (lookup (same_name name) declared.bases.entries))
    (option_map (λ h. (Virtual, h)) (lookup (same_name name) (take virtuals declared.virtuals.entries)))
    ≡ option_map kind_and_heading (relvar_in name (declared_relvars declared virtuals))
in_declared name declared virtuals =
    (λ i. or_else (in_rows Base name declared.bases.entries i) (in_rows Virtual name (take virtuals declared.virtuals.entries) i))
    ∙ sym (in_either name (map (known_as Base) declared.bases.entries) (map (known_as Virtual) (take virtuals declared.virtuals.entries)))

-- ---- the front of a list of rows

place_is : {X : Type 0} (test : X → Bool) (xs : List X) (i : ℕ) → position test xs ≡ Some i → position_or_len test xs ≡ i
place_is test xs i = by_test (nat_lt (position_or_len test xs) (length xs))
  where
    by_test : (b : Bool) → cond b (Some (position_or_len test xs)) None ≡ Some i → position_or_len test xs ≡ i
    by_test true e = cc
    by_test false e = absurd (cc)

module _ {V : Type 0} (test : List ℕ → Bool) where
  within : (rows : List (List ℕ × V)) (n : ℕ) → position_or_len test (keys_of rows) < n → lookup test (take n rows) ≡ lookup test rows
  within rows zero h = absurd (omega (arith, h))
  within [] (suc n) h = refl
  within (row ∷ rows) (suc n) h = by_test (test row.0) refl (within rows n)
    where
      by_test : (b : Bool) → test row.0 ≡ b → (position_or_len test (keys_of rows) < n → lookup test (take n rows) ≡ lookup test rows)
          → cond b (Some row.1) (lookup test (take n rows)) ≡ cond b (Some row.1) (lookup test rows)
      by_test true is rest = refl
      by_test false is rest =
          let later : 1 + position_or_len test (keys_of rows) < suc n = rw is at h in
          rest (omega (arith, later))

  beyond : (rows : List (List ℕ × V)) (n : ℕ) → n ≤ position_or_len test (keys_of rows) → lookup test (take n rows) ≡ None
  beyond rows zero h = refl
  beyond [] (suc n) h = refl
  beyond (row ∷ rows) (suc n) h = by_test (test row.0) refl (beyond rows n)
    where
      by_test : (b : Bool) → test row.0 ≡ b → (n ≤ position_or_len test (keys_of rows) → lookup test (take n rows) ≡ None)
          → cond b (Some row.1) (lookup test (take n rows)) ≡ None
      by_test true is rest =
          let here : suc n ≤ 0 = rw is at h in
          absurd (omega (arith, here))
      by_test false is rest =
          let later : suc n ≤ 1 + position_or_len test (keys_of rows) = rw is at h in
          rest (omega (arith, later))

  -- what is found at a place is found in a front that holds the place
  pub taken_within : (rows : List (List ℕ × V)) (n i : ℕ) → position test (keys_of rows) ≡ Some i → i < n → lookup test (take n rows) ≡ lookup test rows
  taken_within rows n i at h =
      let is : position_or_len test (keys_of rows) ≡ i = place_is test (keys_of rows) i at in
      within rows n (omega (arith, is, h))

  -- and in no other
  pub taken_beyond : (rows : List (List ℕ × V)) (n i : ℕ) → position test (keys_of rows) ≡ Some i → n ≤ i → lookup test (take n rows) ≡ None
  taken_beyond rows n i at h =
      let is : position_or_len test (keys_of rows) ≡ i = place_is test (keys_of rows) i at in
      beyond rows n (omega (arith, is, h))

  -- nor is what is nowhere
  pub taken_nowhere : (rows : List (List ℕ × V)) (n : ℕ) → lookup test rows ≡ None → lookup test (take n rows) ≡ None
  taken_nowhere rows zero h = refl
  taken_nowhere [] (suc n) h = refl
  taken_nowhere (row ∷ rows) (suc n) h = by_test (test row.0) h (taken_nowhere rows n)
    where
      by_test : (b : Bool) → cond b (Some row.1) (lookup test rows) ≡ None → (lookup test rows ≡ None → lookup test (take n rows) ≡ None)
          → cond b (Some row.1) (lookup test (take n rows)) ≡ None
      by_test true e rest = absurd (cc)
      by_test false e rest = rest e
