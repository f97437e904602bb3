-- Entries that are put in again: where they stand then, and that their names are free before.
use Rattle.std.proofs.Common.{◌≡◌, ◌≤◌, ◌∷◌, ◌++◌, ◌∙◌, ℕ, zero, suc, Bool, true, false, List, [], ap, arith, length, map, refl, sym, true≢false}
use Rattle.std.specs.List.{list_any}
use Rattle.std.specs.Prelude.{◌||◌, Ok, Err, IfOk, IsOk, OnOk, Result, if◌then◌else◌, insert, is_some, nat_lt, not}
use Rattle.std.specs.Cmp.Lexicographic.{same_text}
use Rattle.std.specs.List.{position_or_len}
use Rattle.std.specs.Map.{keys_of, lookup}
use Rattle.std.proofs.lemmas.Bool.{ltb-false, ltb-true}
use Rattle.std.proofs.lemmas.List.{drop_all, take_all}
use Rattle.indexmap.specs.IndexMap.{IndexMap, insert_entry, insert_index, move_index}
use Rattle.indexmap.proofs.MoveLemmas.{push_moved}
use Rattle.td_catalog.specs.code.CatalogViews.{Rows, constraint_view, virtual_view}
use Rattle.td_catalog.specs.model.Database.{BaseRelvar, NamedConstraint, VirtualRelvar}
use Rattle.td_catalog.specs.code.Histories.{HeldBase, IsStage, held_base, held_view, with_held_bases, with_held_constraints, with_held_virtuals}
use Rattle.td_catalog.specs.declared.entry.BaseEntry.{BaseEntry}
use Rattle.td_catalog.specs.declared.entry.ConstraintEntry.{ConstraintEntry}
use Rattle.td_catalog.specs.declared.entry.VirtualEntry.{VirtualEntry}
use Rattle.td_catalog.proofs.Lists.{both, distinct_behind, distinct_front, neither, not_true}
use Rattle.td_catalog.proofs.Rows.{known, rows_with}
use Rattle.td_types.specs.model.Headings.{are_distinct, has_name}
use Rattle.td_types.specs.model.Types.{same_name}
use Rattle.td_types.proofs.HeadingLaws.{same_name-itself}
use Rattle.td_value.specs.model.Values.{Relation}

-- ---- where they stand

pub what_is_ok : {X E : Type 0} (P : Type 0) (r : Result X E) → IsOk r → IfOk r (λ _. P) → P
what_is_ok P (Ok x) is h = h
what_is_ok P (Err e) is h = absurd (cc)

pub what_ok_is : {X E : Type 0} (P : Type 0) (r : Result X E) → IsOk r → OnOk r P → P
what_ok_is P (Ok x) is h = h
what_ok_is P (Err e) is h = absurd (cc)

past_end : {X : Type 0} (xs : List X) (n : ℕ) (x : X) → length xs ≤ n → insert xs n x ≡ xs ++ (x ∷ [])
past_end xs n x le = λ i. take_all n xs le i ++ (x ∷ drop_all n xs le i)

-- a place past the end is the end
clamped : {X : Type 0} (xs : List X) (place : ℕ) (x : X) → insert xs (if nat_lt place (length xs) then place else length xs) x ≡ insert xs place x
clamped xs place x = by_test (nat_lt place (length xs)) refl
  where
    by_test : (b : Bool) → nat_lt place (length xs) ≡ b → insert xs (if b then place else length xs) x ≡ insert xs place x
    by_test true e = refl
    by_test false e = past_end xs (length xs) x (omega arith) ∙ sym (past_end xs place x (ltb-false place (length xs) e))

clamped_within : (n place : ℕ) → (if nat_lt place n then place else n) ≤ n
clamped_within n place = by_test (nat_lt place n) refl
  where
    by_test : (b : Bool) → nat_lt place n ≡ b → (if b then place else n) ≤ n
    by_test true e = omega (arith, ltb-true place n e)
    by_test false e = omega arith

no_place : {E : Type 0} (name : List ℕ) (rows : List (List ℕ × E)) → is_some (lookup (same_name name) rows) ≡ false → position_or_len (same_name name) (keys_of rows) ≡ length rows
no_place name [] e = refl
no_place name (row ∷ rows) e = by_test (same_name name row.0) refl (no_place name rows)
  where
    by_test : (b : Bool) → same_name name row.0 ≡ b → (is_some (lookup (same_name name) rows) ≡ false → position_or_len (same_name name) (keys_of rows) ≡ length rows)
        → position_or_len (same_name name) (keys_of (row ∷ rows)) ≡ length (row ∷ rows)
    by_test true is rest = absurd (true≢false (rw is at e))
    by_test false is rest =
        let more : position_or_len (same_name name) (keys_of rows) ≡ length rows = rest (rw is at e) in
        rw is (omega (arith, more))

module _ {V S : Type 0} (m : IndexMap (List ℕ) V S) (name : List ℕ) (value : V) (place : ℕ) (free : is_some (lookup (same_name name) m.entries) ≡ false) where
  -- a new row that was moved to a place stands there
  pub stands_again : (at : ℕ) → at ≡ (if nat_lt place (length m.entries) then place else length m.entries) → (rows : List (List ℕ × V))
      → rows ≡ move_index (insert_entry same_name m.entries name value) (insert_index same_name m name) at → rows ≡ insert m.entries place (name, value)
  stands_again at clamp rows is =
      is ∙ (λ i. move_index (rows_with (λ (row : List ℕ × V). row) (λ (row : List ℕ × V). row.0) (λ row. refl) m name value free i) (no_place name m.entries free i) (clamp i))
      ∙ push_moved m.entries (name, value) (if nat_lt place (length m.entries) then place else length m.entries) (clamped_within (length m.entries) place)
      ∙ clamped m.entries place (name, value)

-- ---- names alone

no_name_place : (name : List ℕ) (names : List (List ℕ)) → list_any (same_name name) names ≡ false → position_or_len (same_name name) names ≡ length names
no_name_place name [] e = refl
no_name_place name (n ∷ names) e =
    let apart = neither (same_name name n) (list_any (same_name name) names) e in
    let more : position_or_len (same_name name) names ≡ length names = no_name_place name names apart.1 in
    rw apart.0 (omega (arith, more))

-- a new name that was moved to a place stands there
pub name_stands_again : (names : List (List ℕ)) (name : List ℕ) (place at : ℕ) → list_any (same_name name) names ≡ false
    → at ≡ (if nat_lt place (length names) then place else length names) → (after : List (List ℕ))
    → after ≡ move_index (if list_any (same_name name) names then names else names ++ (name ∷ [])) (position_or_len (same_name name) names) at → after ≡ insert names place name
name_stands_again names name place at free clamp after is =
    is ∙ (λ i. move_index (if free i then names else names ++ (name ∷ [])) (no_name_place name names free i) (clamp i))
    ∙ push_moved names name (if nat_lt place (length names) then place else length names) (clamped_within (length names) place)
    ∙ clamped names place name

-- ---- free names

module _ {X : Type 0} (name_of : X → List ℕ) where
  there : (xs : List X) (i : ℕ) (x : X) → has_name (name_of x) (map name_of (insert xs i x)) ≡ true
  there xs zero x = first
    where
      first : has_name (name_of x) (name_of x ∷ map name_of xs) ≡ true
      first = ap (λ b. b || has_name (name_of x) (map name_of xs)) (same_name-itself (name_of x))
  there [] (suc i) x = ap (λ b. b || false) (same_name-itself (name_of x))
  there (y ∷ xs) (suc i) x = later (same_name (name_of y) (name_of x)) (there xs i x)
    where
      later : (b : Bool) → has_name (name_of x) (map name_of (insert xs i x)) ≡ true → (b || has_name (name_of x) (map name_of (insert xs i x))) ≡ true
      later true e = refl
      later false e = e

  -- a name that comes once among them is not among the others
  pub comes_once : (xs : List X) (i : ℕ) (x : X) → are_distinct (map name_of (insert xs i x)) ≡ true → has_name (name_of x) (map name_of xs) ≡ false
  comes_once xs zero x h = not_true (has_name (name_of x) (map name_of xs)) (both (not (has_name (name_of x) (map name_of xs))) (are_distinct (map name_of xs)) h).0
  comes_once [] (suc i) x h = refl
  comes_once (y ∷ xs) (suc i) x h =
      let parts = both (not (has_name (name_of y) (map name_of (insert xs i x)))) (are_distinct (map name_of (insert xs i x))) h in
      rw (other (not_true (has_name (name_of y) (map name_of (insert xs i x))) parts.0), comes_once xs i x parts.1) refl
    where
      other : has_name (name_of y) (map name_of (insert xs i x)) ≡ false → same_name (name_of y) (name_of x) ≡ false
      other none = by_test (same_name (name_of y) (name_of x)) refl
        where
          by_test : (b : Bool) → same_name (name_of y) (name_of x) ≡ b → same_name (name_of y) (name_of x) ≡ false
          by_test true is =
              let same : name_of y ≡ name_of x = same_text (name_of y) (name_of x) (sym is) in
              absurd (true≢false (sym (there xs i x) ∙ ap (λ n. has_name n (map name_of (insert xs i x))) (sym same) ∙ none))
          by_test false is = is

module _ {B : Type 0} (relation : B → Relation) (keys : B → List (List (List ℕ))) (kept : B → List Relation) (rows : Rows B) (place : ℕ) (name : List ℕ) where
  abbrev held_name : HeldBase → List ℕ
  held_name b = b.base.name

  held_names : (hs : List HeldBase) → map (λ (r : BaseRelvar). r.name) (map (λ (b : HeldBase). b.base) hs) ≡ map held_name hs
  held_names [] = refl
  held_names (b ∷ hs) = ap (λ ns. b.base.name ∷ ns) (held_names hs)

  pub base_free : (entry : BaseEntry B)
      → IsStage (with_held_bases (insert (map (held_base relation keys kept) rows.bases) place (held_base relation keys kept (name, entry))) (held_view relation keys kept rows))
      → is_some (lookup (same_name name) rows.bases) ≡ false
  base_free entry h =
      let hs = insert (map (held_base relation keys kept) rows.bases) place (held_base relation keys kept (name, entry)) in
      let names = distinct_front (map (λ (r : BaseRelvar). r.name) (map (λ (b : HeldBase). b.base) hs)) (map (λ (v : VirtualRelvar). v.name) (map virtual_view rows.virtuals)) h.is_typed.distinct in
      known (held_base relation keys kept) held_name (λ row. refl) name rows.bases
      ∙ comes_once held_name (map (held_base relation keys kept) rows.bases) place (held_base relation keys kept (name, entry)) (ap are_distinct (sym (held_names hs)) ∙ names)

  pub virtual_free : (entry : VirtualEntry)
      → IsStage (with_held_virtuals (insert (map virtual_view rows.virtuals) place (virtual_view (name, entry))) (held_view relation keys kept rows))
      → is_some (lookup (same_name name) rows.virtuals) ≡ false
  virtual_free entry h =
      let vs = insert (map virtual_view rows.virtuals) place (virtual_view (name, entry)) in
      let bases = map (λ (r : BaseRelvar). r.name) (map (λ (b : HeldBase). b.base) (map (held_base relation keys kept) rows.bases)) in
      known virtual_view (λ (v : VirtualRelvar). v.name) (λ row. refl) name rows.virtuals
      ∙ comes_once (λ (v : VirtualRelvar). v.name) (map virtual_view rows.virtuals) place (virtual_view (name, entry))
      (distinct_behind bases (map (λ (v : VirtualRelvar). v.name) vs) h.is_typed.distinct)

  pub constraint_free : (entry : ConstraintEntry)
      → IsStage (with_held_constraints (insert (map constraint_view rows.constraints) place (constraint_view (name, entry))) (held_view relation keys kept rows))
      → is_some (lookup (same_name name) rows.constraints) ≡ false
  constraint_free entry h =
      known constraint_view (λ (c : NamedConstraint). c.name) (λ row. refl) name rows.constraints
      ∙ comes_once (λ (c : NamedConstraint). c.name) (map constraint_view rows.constraints) place (constraint_view (name, entry)) h.is_typed.constraints_distinct

-- ---- a list with one more, seen

pub view_inserted : {E X : Type 0} (view : E → X) (rows : List E) (i : ℕ) (row : E) → map view (insert rows i row) ≡ insert (map view rows) i (view row)
view_inserted view rows zero row = refl
view_inserted view [] (suc i) row = refl
view_inserted view (r ∷ rows) (suc i) row = ap (λ xs. view r ∷ xs) (view_inserted view rows i row)
