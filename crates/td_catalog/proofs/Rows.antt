-- What rows by name give, where each is seen as an entry of a database.
use Rattle.std.proofs.Common.{◌≡◌, ◌∷◌, ◌++◌, ◌∙◌, ℕ, Bool, true, false, List, [], Option, Some, None, ap, map, option_map, refl, sym, Bor}
use Rattle.std.specs.Prelude.{◌||◌, IfSome, is_some, not}
use Rattle.std.specs.List.{find}
use Rattle.std.specs.Option.{option_copied}
use Rattle.std.specs.Cmp.Lexicographic.{same_text}
use Rattle.std.specs.Map.{lookup, remove_entry}
use Rattle.std.specs.Set.{remove_key}
use Rattle.std.proofs.lemmas.List.{map-append}
use Rattle.indexmap.specs.IndexMap.{IndexMap, insert_entry}
use Rattle.indexmap.proofs.CallerLemmas.{insert_entry-new}
use Rattle.td_check.specs.model.StatementTypes.{holds_or}
use Rattle.td_tree.specs.model.Outcomes.{Valued, named_cause}
use Rattle.td_tree.specs.declared.cause.Cause.{Cause}
use Rattle.td_tree.specs.declared.cause.Cause.TheVariants as causes
use Rattle.td_types.specs.model.Headings.{has_name}
use Rattle.td_types.specs.model.Types.{same_name}
use Rattle.td_types.proofs.HeadingLaws.{same_name-flips}

pub no_row : {X : Type 0} (o : Option X) → is_some o ≡ false → o ≡ None
no_row None e = refl
no_row (Some x) e = absurd (cc)

module _ {E X : Type 0} (view : List ℕ × E → X) (name_of : X → List ℕ) (named : (row : List ℕ × E) → name_of (view row) ≡ row.0) where
  -- whether an entry has the name
  abbrev pub has_the_name : List ℕ → X → Bool
  has_the_name name x = same_name (name_of x) name

  flipped : (name : List ℕ) (row : List ℕ × E) (b : Bool) → same_name name row.0 ≡ b → same_name (name_of (view row)) name ≡ b
  flipped name row b is = ap (λ n. same_name n name) (named row) ∙ same_name-flips row.0 name ∙ is

  -- a name finds the entry of the row that it finds
  pub found : (name : List ℕ) (rows : List (List ℕ × E))
      → option_map (λ (e : E). view (name, e)) (lookup (same_name name) rows) ≡ find (has_the_name name) (map view rows)
  found name [] = refl
  found name (row ∷ rows) = by_test (found name rows) (same_name name row.0) refl
    where
      by_test : option_map (λ (e : E). view (name, e)) (lookup (same_name name) rows) ≡ find (has_the_name name) (map view rows)
          → (b : Bool) → same_name name row.0 ≡ b
          → option_map (λ (e : E). view (name, e)) (lookup (same_name name) (row ∷ rows)) ≡ find (has_the_name name) (map view (row ∷ rows))
      by_test rest true is = rw (is, flipped name row true is) (ap (λ n. Some (view (n, row.1))) (same_text name row.0 (sym is)))
      by_test rest false is = rw (is, flipped name row false is) rest

  -- and where it finds no row, there is no entry of the name
  pub unnamed : (name : List ℕ) (rows : List (List ℕ × E)) → is_some (lookup (same_name name) rows) ≡ false
      → find (has_the_name name) (map view rows) ≡ None
  unnamed name rows e = sym (found name rows) ∙ ap (option_map (λ (entry : E). view (name, entry))) (no_row (lookup (same_name name) rows) e)

  -- a name has a row where an entry has it
  pub known : (name : List ℕ) (rows : List (List ℕ × E)) → is_some (lookup (same_name name) rows) ≡ has_name name (map name_of (map view rows))
  known name [] = refl
  known name (row ∷ rows) = by_test (known name rows) (same_name name row.0) refl
    where
      by_test : is_some (lookup (same_name name) rows) ≡ has_name name (map name_of (map view rows)) → (b : Bool) → same_name name row.0 ≡ b
          → is_some (lookup (same_name name) (row ∷ rows)) ≡ has_name name (map name_of (map view (row ∷ rows)))
      by_test rest true is = rw (is, flipped name row true is) refl
      by_test rest false is = rw (is, flipped name row false is) rest

  -- the entries without the first of the name
  pub removed : (name : List ℕ) (rows : List (List ℕ × E)) → map view (remove_entry (same_name name) rows) ≡ remove_key (has_the_name name) (map view rows)
  removed name [] = refl
  removed name (row ∷ rows) = by_test (removed name rows) (same_name name row.0) refl
    where
      by_test : map view (remove_entry (same_name name) rows) ≡ remove_key (has_the_name name) (map view rows) → (b : Bool) → same_name name row.0 ≡ b
          → map view (remove_entry (same_name name) (row ∷ rows)) ≡ remove_key (has_the_name name) (map view (row ∷ rows))
      by_test rest true is = rw (is, flipped name row true is) refl
      by_test rest false is = rw (is, flipped name row false is) (ap (λ xs. view row ∷ xs) rest)

  -- one more row of a name that is new
  module _ {S : Type 0} (m : IndexMap (List ℕ) E S) (name : List ℕ) (entry : E) (free : is_some (lookup (same_name name) m.entries) ≡ false) where
    pub rows_with : insert_entry same_name m.entries name entry ≡ m.entries ++ ((name, entry) ∷ [])
    rows_with = insert_entry-new same_name m name entry (no_row (lookup (same_name name) m.entries) free)

    pub view_with : map view (insert_entry same_name m.entries name entry) ≡ map view m.entries ++ (view (name, entry) ∷ [])
    view_with = ap (map view) rows_with ∙ map-append view m.entries ((name, entry) ∷ [])

-- of what references point to
pub map_references : {T U : Type 0} (f : T → U) (o : Option (Bor T)) → option_map (λ k. f k.now) o ≡ option_map f (option_copied o)
map_references f None = refl
map_references f (Some k) = refl

pub if_references : {T : Type 0} (P : T → Type 0) (o : Option (Bor T)) → IfSome (option_copied o) P → IfSome o (λ k. P k.now)
if_references P None h = tt
if_references P (Some k) h = h

-- names of two lists
pub has_append : (name : List ℕ) (xs ys : List (List ℕ)) → has_name name (xs ++ ys) ≡ (has_name name xs || has_name name ys)
has_append name [] ys = refl
has_append name (x ∷ xs) ys = by_test (same_name x name) (has_append name xs ys)
  where
    by_test : (b : Bool) → has_name name (xs ++ ys) ≡ (has_name name xs || has_name name ys)
        → (b || has_name name (xs ++ ys)) ≡ ((b || has_name name xs) || has_name name ys)
    by_test true rest = refl
    by_test false rest = rest

-- what is answered where a name is taken, and where it is free
pub refused : (cause : Cause) (b : Bool) → b ≡ true → named_cause (holds_or cause (not b)) ≡ Some cause
refused cause b e = rw e refl

pub accepted : (cause : Cause) (b : Bool) → b ≡ false → holds_or cause (not b) ≡ Valued tt
accepted cause b e = rw e refl

-- where there is nothing of the name, and where there is
pub missing : (cause : Cause) (b : Bool) → b ≡ false → named_cause (holds_or cause b) ≡ Some cause
missing cause b e = rw e refl

pub present : (cause : Cause) (b : Bool) → b ≡ true → holds_or cause b ≡ Valued tt
present cause b e = rw e refl
