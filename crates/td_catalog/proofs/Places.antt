-- A row whose body is another one.
use Rattle.std.proofs.Common.{◌≡◌, ◌∷◌, ◌∙◌, ◌+◌, ℕ, zero, suc, Bool, true, false, List, [], Some, None, ap, arith, cond, map, refl, subst}
use Rattle.std.specs.Prelude.{not, position, nat_lt, length}
use Rattle.std.specs.List.{position_or_len, prefix_len, slice_get}
use Rattle.std.specs.Map.{keys_of}
use Rattle.indexmap.specs.Layout.{set_value_at}
use Rattle.td_catalog.specs.code.CatalogViews.{AreEntries, IsEntry, base_view}
use Rattle.td_catalog.specs.model.Database.{base_among, with_relation}
use Rattle.td_catalog.specs.declared.entry.BaseEntry.{BaseEntry}
use Rattle.td_types.specs.model.Types.{same_name}
use Rattle.td_types.proofs.HeadingLaws.{same_name-flips}
use Rattle.td_value.specs.model.Values.{Relation}

module _ {B : Type 0} (relation : B → Relation) (keys : B → List (List (List ℕ))) where
  -- the entry with another body
  abbrev pub with_entry_body : BaseEntry B → B → BaseEntry B
  with_entry_body entry body = record { heading = entry.heading; keys = entry.keys; body = body }

  -- what follows where the row of the name, at that place, has another body
  pub record IsChanged (name : List ℕ) (body : B) (rows : List (List ℕ × BaseEntry B)) (i : ℕ) (row : List ℕ × BaseEntry B) : Type 0 where
    pub found : base_among name (map (base_view relation) rows) ≡ Some (base_view relation row)
    pub view : map (base_view relation) (set_value_at rows i (with_entry_body row.1 body)) ≡ with_relation name (relation body) (map (base_view relation) rows)
    pub was : AreEntries relation keys rows → IsEntry relation keys row.1
    pub entries : AreEntries relation keys rows → IsEntry relation keys (with_entry_body row.1 body) → AreEntries relation keys (set_value_at rows i (with_entry_body row.1 body))

  some_row : (r row : List ℕ × BaseEntry B) → Some r ≡ Some row → r ≡ row
  some_row r row e = cc

  abbrev pub other_name : List ℕ → List ℕ → Bool
  other_name name n = not (same_name name n)

  pub changed : (name : List ℕ) (body : B) (rows : List (List ℕ × BaseEntry B)) (i : ℕ) (row : List ℕ × BaseEntry B)
      → prefix_len (other_name name) (keys_of rows) ≡ i → slice_get rows i ≡ Some row → IsChanged name body rows i row
  changed name body [] zero row p e = absurd (cc)
  changed name body [] (suc i) row p e = absurd (cc)
  changed name body (r ∷ rows) zero row p e = by_test (same_name name r.0) refl
    where
      here : same_name name r.0 ≡ true → IsChanged name body (r ∷ rows) zero r
      here is =
          let same : same_name r.0 name ≡ true = same_name-flips r.0 name ∙ is in
          record { found = rw same refl; view = rw same refl; was = λ h. h.0; entries = λ h n. (n, h.1) }

      by_test : (b : Bool) → same_name name r.0 ≡ b → IsChanged name body (r ∷ rows) zero row
      by_test true is = subst (IsChanged name body (r ∷ rows) zero) (some_row r row e) (here is)
      by_test false is =
          let more : 1 + prefix_len (other_name name) (keys_of rows) ≡ zero = rw is at p in
          absurd (omega (arith, more))
  changed name body (r ∷ rows) (suc i) row p e = by_test (same_name name r.0) refl (λ q. changed name body rows i row q e)
    where
      there : same_name name r.0 ≡ false → IsChanged name body rows i row → IsChanged name body (r ∷ rows) (suc i) row
      there is rest =
          let same : same_name r.0 name ≡ false = same_name-flips r.0 name ∙ is in
          record {
            found = rw same rest.found;
            view = rw same (ap (λ rs. base_view relation r ∷ rs) rest.view);
            was = λ h. rest.was h.1;
            entries = λ h n. (h.0, rest.entries h.1 n);
          }

      by_test : (b : Bool) → same_name name r.0 ≡ b → (prefix_len (other_name name) (keys_of rows) ≡ i → IsChanged name body rows i row)
          → IsChanged name body (r ∷ rows) (suc i) row
      by_test true is rest =
          let none : zero ≡ suc i = rw is at p in
          absurd (cc)
      by_test false is rest =
          let more : 1 + prefix_len (other_name name) (keys_of rows) ≡ suc i = rw is at p in
          there is (rest (omega (arith, more)))

  -- the place that is found is the first of the name
  pub place_is : (name : List ℕ) (rows : List (List ℕ × BaseEntry B)) (i : ℕ) → position (same_name name) (keys_of rows) ≡ Some i
      → prefix_len (other_name name) (keys_of rows) ≡ i
  place_is name rows i e = by_test (nat_lt (position_or_len (same_name name) (keys_of rows)) (length (keys_of rows))) e
    where
      by_test : (b : Bool) → cond b (Some (position_or_len (same_name name) (keys_of rows))) None ≡ Some i → position_or_len (same_name name) (keys_of rows) ≡ i
      by_test true h = cc
      by_test false h = absurd (cc)
