-- Rows of a catalogue by their places, and names that are distinct.
use Rattle.std.proofs.Common.{◌≡◌, ◌∷◌, ◌++◌, ◌∙◌, ◌+◌, ℕ, zero, suc, Bool, true, false, cond, List, [], Option, None, Some, ap, arith, length, map, nat_lt, option_map, refl, sym, take}
use Rattle.std.specs.Prelude.{◌||◌, not}
use Rattle.std.specs.List.{position, prefix_len, slice_get}
use Rattle.std.specs.Map.{keys_of}
use Rattle.std.proofs.lemmas.Option.{slice_get-map}
use Rattle.std.proofs.lemmas.List.{length-map}
use Rattle.td_catalog.specs.code.CatalogViews.{virtual_view}
use Rattle.td_catalog.specs.model.Database.{Database, VirtualRelvar}
use Rattle.td_catalog.specs.declared.entry.VirtualEntry.{VirtualEntry}
use Rattle.td_catalog.proofs.Lists.{both, not_true}
use Rattle.td_types.specs.model.Headings.{are_distinct, has_name}
use Rattle.td_types.specs.model.Types.{same_name}
use Rattle.td_types.proofs.HeadingLaws.{same_name-flips}

-- a name that is none of the names that stand before it
pub apart : (n : List ℕ) (ns more : List (List ℕ)) → are_distinct (ns ++ (n ∷ more)) ≡ true → has_name n ns ≡ false
apart n [] more h = refl
apart n (m ∷ ns) more h =
    let parts = both (not (has_name m (ns ++ (n ∷ more)))) (are_distinct (ns ++ (n ∷ more))) h in
    rw (same_name-flips m n ∙ other ns (not_true (has_name m (ns ++ (n ∷ more))) parts.0), apart n ns more parts.1) refl
  where
    first : (a b : Bool) → (a || b) ≡ false → a ≡ false
    first false b e = refl
    first true b e = absurd (cc)

    later : (a b : Bool) → (a || b) ≡ false → b ≡ false
    later false b e = e
    later true b e = absurd (cc)

    other : (xs : List (List ℕ)) → has_name m (xs ++ (n ∷ more)) ≡ false → same_name n m ≡ false
    other [] g = first (same_name n m) (has_name m more) g
    other (x ∷ xs) g = other xs (later (same_name x m) (has_name m (xs ++ (n ∷ more))) g)

-- ---- what stands at a place

module _ {A : Type 0} where
  -- what stands in a list at a place, with what stands before it there
  pub stands_at : (xs : List A) (i : ℕ) (x : A) → slice_get xs i ≡ Some x → (later : List A) × (xs ≡ take i xs ++ (x ∷ later))
  stands_at [] i x e = absurd (cc)
  stands_at (y ∷ ys) zero x e = let same : y ≡ x = cc in (ys, ap (λ z. z ∷ ys) same)
  stands_at (y ∷ ys) (suc i) x e = let rest = stands_at ys i x e in (rest.0, ap (λ zs. y ∷ zs) rest.1)

  pub one_more_taken : (xs : List A) (i : ℕ) (x : A) → slice_get xs i ≡ Some x → take (i + 1) xs ≡ take i xs ++ (x ∷ [])
  one_more_taken xs i x e = ap (λ n. take n xs) next ∙ by_place xs i e
    where
      next : i + 1 ≡ suc i
      next = omega arith

      by_place : (ys : List A) (j : ℕ) → slice_get ys j ≡ Some x → take (suc j) ys ≡ take j ys ++ (x ∷ [])
      by_place [] j f = absurd (cc)
      by_place (y ∷ ys) zero f = let same : y ≡ x = cc in ap (λ z. z ∷ []) same
      by_place (y ∷ ys) (suc j) f = ap (λ zs. y ∷ zs) (by_place ys j f)

-- as many virtual relvars as rows
pub rows_counted : (rows : List (List ℕ × VirtualEntry)) (db : Database) → map virtual_view rows ≡ db.virtuals → length rows ≡ length db.virtuals
rows_counted rows db seen = sym (length-map rows virtual_view) ∙ ap length seen

-- a name has the place of its row
pub place_found : (name : List ℕ) (rows : List (List ℕ × VirtualEntry))
    → position (same_name name) (keys_of rows) ≡ position (λ (v : VirtualRelvar). same_name v.name name) (map virtual_view rows)
place_found name rows = λ i. cond (nat_lt (before rows i) (same_length rows i)) (Some (before rows i)) None
  where
    same_length : (xs : List (List ℕ × VirtualEntry)) → length (keys_of xs) ≡ length (map virtual_view xs)
    same_length [] = refl
    same_length (x ∷ xs) = ap suc (same_length xs)

    before : (xs : List (List ℕ × VirtualEntry))
        → prefix_len (λ n. not (same_name name n)) (keys_of xs) ≡ prefix_len (λ (v : VirtualRelvar). not (same_name v.name name)) (map virtual_view xs)
    before [] = refl
    before (x ∷ xs) = rw (same_name-flips x.0 name) (ap (λ n. cond (not (same_name name x.0)) (1 + n) 0) (before xs))

-- the expression of a row at a place
pub tree_at : (rows : List (List ℕ × VirtualEntry)) (place : ℕ)
    → option_map (λ (row : List ℕ × VirtualEntry). row.1.tree) (slice_get rows place)
    ≡ option_map (λ (v : VirtualRelvar). v.tree) (slice_get (map virtual_view rows) place)
tree_at rows place = by_option (slice_get rows place) ∙ ap (option_map (λ (v : VirtualRelvar). v.tree)) (sym (slice_get-map virtual_view rows place))
  where
    by_option : (o : Option (List ℕ × VirtualEntry))
        → option_map (λ (row : List ℕ × VirtualEntry). row.1.tree) o ≡ option_map (λ (v : VirtualRelvar). v.tree) (option_map virtual_view o)
    by_option None = refl
    by_option (Some row) = refl
