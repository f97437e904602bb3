-- Catalogues in which a body changed, or could not.
use Rattle.std.proofs.Common.{◌≡◌, ◌∷◌, ◌∙◌, ℕ, Bool, true, false, List, [], Some, IfSome, ap, refl, subst, sym}
use Rattle.std.specs.Prelude.{None, Option, Result, Ok, Err, OnErr, OnOk, ⊤, if◌then◌else◌}
use Rattle.std.specs.List.{prefix_len, slice_get}
use Rattle.std.specs.Map.{keys_of}
use Rattle.indexmap.specs.Layout.{set_value_at}
use Rattle.td_body.specs.model.Bodies.{after_change}
use Rattle.td_catalog.specs.code.CatalogViews.{IsBodyOf, IsCatalog, IsEntry, Rows, base_view, database_view, entry_keys}
use Rattle.td_catalog.specs.model.Database.{BaseRelvar, Database, base_among, base_named, base_relvar, with_bases, with_body, with_relation}
use Rattle.td_catalog.specs.model.TypedDatabases.{AreTyped, IsTypedBase}
use Rattle.td_catalog.specs.declared.entry.BaseEntry.{BaseEntry}
use Rattle.td_catalog.proofs.ChangedRelations.{typed_after_change}
use Rattle.td_catalog.proofs.Changes.{catalog_with_body, view_with_body, with_base_rows}
use Rattle.td_catalog.proofs.Places.{changed, other_name, with_entry_body}
use Rattle.td_catalog.proofs.TypedChanges.{found_base}
use Rattle.td_types.specs.model.Types.{same_name}
use Rattle.td_value.specs.model.Values.{IsRelation, Relation}

-- a relvar that holds the relation that it held is the same
own_relation : (name : List ℕ) (rs : List BaseRelvar) (r : BaseRelvar) → base_among name rs ≡ Some r → with_relation name r.relation rs ≡ rs
own_relation name [] r e = absurd (cc)
own_relation name (s ∷ rs) r e = by_test (same_name s.name name) refl (own_relation name rs r)
  where
    same : Some s ≡ Some r → s ≡ r
    same is = cc

    by_test : (b : Bool) → same_name s.name name ≡ b → (base_among name rs ≡ Some r → with_relation name r.relation rs ≡ rs)
        → (if b then base_relvar s.name s.keys r.relation ∷ rs else s ∷ with_relation name r.relation rs) ≡ s ∷ rs
    by_test true is rest = ap (λ (q : BaseRelvar). base_relvar s.name s.keys q.relation ∷ rs) (sym (same (rw is at e)))
    by_test false is rest = ap (λ qs. s ∷ qs) (rest (rw is at e))

-- an answer that holds either way
pub either : {E : Type 0} (P : Type 0) (answer : Result ⊤ E) → OnOk answer P → OnErr answer P → P
either P (Ok u) h k = h
either P (Err e) h k = k

-- what holds, also on an error
pub on_any_error : {E : Type 0} (P : Type 0) (answer : Result ⊤ E) → P → OnErr answer P
on_any_error P (Ok u) h = tt
on_any_error P (Err e) h = h

pub if_some : {A : Type 0} (P Q : A → Type 0) (o other : Option A) → o ≡ other → ((a : A) → P a → Q a) → IfSome o P → IfSome other Q
if_some P Q None other is f h = subst (λ q. IfSome q Q) is tt
if_some P Q (Some a) other is f h = subst (λ q. IfSome q Q) is (f a h)

pub on_ok : {E : Type 0} (P Q : Type 0) (answer : Result ⊤ E) → (P → Q) → OnOk answer P → OnOk answer Q
on_ok P Q (Ok u) f h = f h
on_ok P Q (Err e) f h = tt

pub on_err : {E : Type 0} (P Q : Type 0) (answer : Result ⊤ E) → (P → Q) → OnErr answer P → OnErr answer Q
on_err P Q (Ok u) f h = tt
on_err P Q (Err e) f h = f h

module _ {B : Type 0} (relation : B → Relation) (keys : B → List (List (List ℕ))) (out add : Relation) where
  -- what is asked of the relations, at the entry
  pub headings_at : (rows : Rows B) (name : List ℕ) (i : ℕ) (row : List ℕ × BaseEntry B) (now : Database)
      → prefix_len (other_name relation keys name) (keys_of rows.bases) ≡ i → slice_get rows.bases i ≡ Some row → database_view relation rows ≡ now
      → IfSome (base_named name now) (λ r. (out.heading ≡ r.relation.heading) × (add.heading ≡ r.relation.heading))
      → (out.heading ≡ (relation row.1.body).heading) × (add.heading ≡ (relation row.1.body).heading)
  headings_at rows name i row now place at seen h =
      let found = (changed relation keys name row.1.body rows.bases i row place at).found in
      subst (λ o. IfSome o (λ r. (out.heading ≡ r.relation.heading) × (add.heading ≡ r.relation.heading))) (ap (base_named name) (sym seen) ∙ found) h

module _ {B E : Type 0} (relation : B → Relation) (keys : B → List (List (List ℕ))) (out add : Relation) where
  -- what a change makes of an entry
  pub record IsChangedEntry (answer : Result ⊤ E) (before after : BaseEntry B) : Type 0 where
    pub heading : after.heading ≡ before.heading
    pub names : after.keys ≡ before.keys
    pub keys_stay : keys after.body ≡ keys before.body
    pub changed : OnOk answer (relation after.body ≡ after_change out add (relation before.body))
    pub same : OnErr answer (relation after.body ≡ relation before.body)
    pub valid : IsRelation (relation after.body)

  module _ (rows : Rows B) (name : List ℕ) (i : ℕ) (row : List ℕ × BaseEntry B)
      (place : prefix_len (other_name relation keys name) (keys_of rows.bases) ≡ i) (at : slice_get rows.bases i ≡ Some row)
      (answer : Result ⊤ E) (after : BaseEntry B) (h : IsChangedEntry answer row.1 after) where
    abbrev db : Database
    db = database_view relation rows

    abbrev entry : BaseEntry B
    entry = with_entry_body relation keys row.1 after.body

    is_entry : after ≡ entry
    is_entry = λ j. record { heading = h.heading j; keys = h.names j; body = after.body }

    found : base_named name db ≡ Some (base_view relation row)
    found = (changed relation keys name after.body rows.bases i row place at).found

    view : database_view relation (with_base_rows (set_value_at rows.bases i after) rows) ≡ with_body name (relation after.body) db
    view =
        ap (λ e. database_view relation (with_base_rows (set_value_at rows.bases i e) rows)) is_entry
        ∙ view_with_body relation keys rows name after.body i row place at

    pub view_changed : OnOk answer (IfSome (base_named name db) (λ r.
        database_view relation (with_base_rows (set_value_at rows.bases i after) rows) ≡ with_body name (after_change out add r.relation) db))
    view_changed =
        on_ok (relation after.body ≡ after_change out add (relation row.1.body)) _ answer
        (λ is. subst (λ o. IfSome o (λ r. database_view relation (with_base_rows (set_value_at rows.bases i after) rows) ≡ with_body name (after_change out add r.relation) db)) (sym found)
        (view ∙ ap (λ r. with_body name r db) is))
        h.changed

    pub view_same : OnErr answer (database_view relation (with_base_rows (set_value_at rows.bases i after) rows) ≡ db)
    view_same =
        on_err (relation after.body ≡ relation row.1.body) _ answer
        (λ is. view ∙ ap (λ r. with_body name r db) is ∙ ap (λ bs. with_bases bs db) (own_relation name db.bases (base_view relation row) found))
        h.same

    -- the catalogue stays one
    module _ (catalog : IsCatalog relation keys rows)
        (headings : IfSome (base_named name db) (λ r. (out.heading ≡ r.relation.heading) × (add.heading ≡ r.relation.heading)))
        (typed : AreTyped rows.types add) where
      was : IsEntry relation keys row.1
      was = (changed relation keys name after.body rows.bases i row place at).was catalog.entries

      was_base : IsTypedBase rows.types (base_view relation row)
      was_base = found_base (IsTypedBase rows.types) name db.bases (base_view relation row) catalog.is_typed.bases found

      add_heading : add.heading ≡ (relation row.1.body).heading
      add_heading = (subst (λ o. IfSome o (λ r. (out.heading ≡ r.relation.heading) × (add.heading ≡ r.relation.heading))) found headings).1

      heading_stays : (relation after.body).heading ≡ (relation row.1.body).heading
      heading_stays =
          either ((relation after.body).heading ≡ (relation row.1.body).heading) answer
          (on_ok (relation after.body ≡ after_change out add (relation row.1.body)) _ answer (ap (λ (r : Relation). r.heading)) h.changed)
          (on_err (relation after.body ≡ relation row.1.body) _ answer (ap (λ (r : Relation). r.heading)) h.same)

      still_typed : AreTyped rows.types (relation after.body)
      still_typed =
          either (AreTyped rows.types (relation after.body)) answer
          (on_ok (relation after.body ≡ after_change out add (relation row.1.body)) _ answer
          (λ is. subst (AreTyped rows.types) (sym is) (typed_after_change rows.types out add (relation row.1.body) add_heading was_base.typed typed)) h.changed)
          (on_err (relation after.body ≡ relation row.1.body) _ answer (λ is. subst (AreTyped rows.types) (sym is) was_base.typed) h.same)

      pub catalog_changed : IsCatalog relation keys (with_base_rows (set_value_at rows.bases i after) rows)
      catalog_changed =
          let fits : IsBodyOf (relation row.1.body).heading (entry_keys row.1) (relation after.body) (keys after.body) =
          record { heading_is = heading_stays; keys_are = h.keys_stay ∙ was.keys_are } in
          subst (λ e. IsCatalog relation keys (with_base_rows (set_value_at rows.bases i e) rows)) (sym is_entry)
          (catalog_with_body relation keys rows name after.body i row place at catalog
          (subst (λ o. IfSome o (λ r. IsBodyOf r.relation.heading r.keys (relation after.body) (keys after.body))) (sym found) fits) h.valid still_typed)
