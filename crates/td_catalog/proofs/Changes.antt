-- Catalogues with one more entry, and with another body.
use Rattle.std.proofs.Common.{◌≡◌, ◌∷◌, ◌++◌, ◌∙◌, ℕ, Bool, true, false, List, [], Some, IfSome, ap, map, refl, subst, sym}
use Rattle.std.specs.Prelude.{◌||◌, if◌then◌else◌, is_some}
use Rattle.std.specs.List.{prefix_len, slice_get}
use Rattle.std.specs.Map.{keys_of, lookup}
use Rattle.indexmap.specs.IndexMap.{IndexMap, insert_entry}
use Rattle.indexmap.specs.Layout.{set_value_at}
use Rattle.td_catalog.specs.code.CatalogViews.{AreEntries, IsBodyOf, IsCatalog, IsEntry, Rows, base_view, constraint_view, database_view, entry_keys, virtual_view}
use Rattle.td_catalog.specs.model.Database.{BaseRelvar, NamedConstraint, VirtualRelvar, base_relvar, base_named, database_scope, knows_constraint, knows_relvar, with_base, with_body, with_constraint, with_virtual}
use Rattle.td_catalog.specs.model.WrittenDefinitions.{ConstraintIsWritten}
use Rattle.td_catalog.specs.model.TypedDatabases.{AreTyped, IsConstrained, IsTyped, IsTypedBase, IsTypedConstraint, IsTypedVirtual}
use Rattle.td_catalog.specs.declared.entry.BaseEntry.{BaseEntry}
use Rattle.td_catalog.specs.declared.entry.ConstraintEntry.{ConstraintEntry}
use Rattle.td_catalog.specs.declared.entry.VirtualEntry.{VirtualEntry}
use Rattle.td_catalog.proofs.TypedChanges.{held, typed_empty, typed_with_base, typed_with_body, typed_with_constraint, typed_with_type, typed_with_virtual}
use Rattle.td_catalog.proofs.Lists.{all_push, neither}
use Rattle.td_catalog.proofs.Places.{IsChanged, changed, other_name, with_entry_body}
use Rattle.td_catalog.proofs.Rows.{has_append, known, rows_with, view_with}
use Rattle.td_tree.specs.model.Names.{IsName}
use Rattle.td_tree.specs.model.WrittenTrees.{IsWritten}
use Rattle.td_types.specs.model.TypeLists.{AreDeclared, AreKnown, DeclaredType}
use Rattle.td_types.specs.model.Types.{pack, same_name}
use Rattle.td_value.specs.model.Values.{IsRelation, Relation}

-- ---- rows with other ones in one list

module _ {B : Type 0} where
  abbrev pub with_types : List DeclaredType → Rows B → Rows B
  with_types types rows = record { types = types; bases = rows.bases; virtuals = rows.virtuals; constraints = rows.constraints }

  abbrev pub with_base_rows : List (List ℕ × BaseEntry B) → Rows B → Rows B
  with_base_rows bases rows = record { types = rows.types; bases = bases; virtuals = rows.virtuals; constraints = rows.constraints }

  abbrev pub with_virtual_rows : List (List ℕ × VirtualEntry) → Rows B → Rows B
  with_virtual_rows virtuals rows = record { types = rows.types; bases = rows.bases; virtuals = virtuals; constraints = rows.constraints }

  abbrev pub with_constraint_rows : List (List ℕ × ConstraintEntry) → Rows B → Rows B
  with_constraint_rows constraints rows = record { types = rows.types; bases = rows.bases; virtuals = rows.virtuals; constraints = constraints }

module _ {B : Type 0} (relation : B → Relation) (keys : B → List (List (List ℕ))) where
  pub catalog_empty : (rows : Rows B) → rows.types ≡ [] → rows.bases ≡ [] → rows.virtuals ≡ [] → rows.constraints ≡ [] → IsCatalog relation keys rows
  catalog_empty rows e f g h =
      subst (λ ts. IsCatalog relation keys (with_types ts rows)) (sym e)
      (subst (λ bs. IsCatalog relation keys (with_types [] (with_base_rows bs rows))) (sym f)
      (subst (λ vs. IsCatalog relation keys (with_types [] (with_base_rows [] (with_virtual_rows vs rows)))) (sym g)
      (subst (λ cs. IsCatalog relation keys (record { types = []; bases = []; virtuals = []; constraints = cs })) (sym h)
      (record { entries = tt; is_typed = typed_empty }))))

  pub catalog_with_type : (rows : Rows B) (d : DeclaredType) (after : List DeclaredType)
      → IsCatalog relation keys rows → after ≡ rows.types ++ (d ∷ []) → AreDeclared after → IsConstrained rows.types d → ConstraintIsWritten d
      → IsCatalog relation keys (with_types after rows)
  catalog_with_type rows d after h e all constrained written =
      subst (λ ts. IsCatalog relation keys (with_types ts rows)) (sym e)
      (record { entries = h.entries; is_typed = typed_with_type (database_view relation rows) d h.is_typed (subst AreDeclared e all) constrained written })

  -- the entry that a name finds is as its body
  pub as_body : (name : List ℕ) (rows : List (List ℕ × BaseEntry B)) → AreEntries relation keys rows → IfSome (lookup (same_name name) rows) (IsEntry relation keys)
  as_body name [] h = tt
  as_body name (row ∷ rows) h = by_test (as_body name rows h.1) (same_name name row.0)
    where
      by_test : IfSome (lookup (same_name name) rows) (IsEntry relation keys) → (b : Bool)
          → IfSome (if b then Some row.1 else lookup (same_name name) rows) (IsEntry relation keys)
      by_test rest true = h.0
      by_test rest false = rest

  -- ---- names that are free

  base_named_so : (row : List ℕ × BaseEntry B) → (base_view relation row).name ≡ row.0
  base_named_so row = refl

  pub knows_by : (name : List ℕ) (rows : Rows B)
      → (is_some (lookup (same_name name) rows.bases) || is_some (lookup (same_name name) rows.virtuals)) ≡ knows_relvar name (database_view relation rows)
  knows_by name rows =
      (λ i. known (base_view relation) (λ (r : BaseRelvar). r.name) base_named_so name rows.bases i
      || known virtual_view (λ (v : VirtualRelvar). v.name) (λ row. refl) name rows.virtuals i)
      ∙ sym (has_append name (map (λ (r : BaseRelvar). r.name) (map (base_view relation) rows.bases)) (map (λ (v : VirtualRelvar). v.name) (map virtual_view rows.virtuals)))

  -- which a base relvar decides where there is one of the name, and else the virtual relvars
  pub known_base : (name : List ℕ) (rows : Rows B) → is_some (lookup (same_name name) rows.bases) ≡ true → knows_relvar name (database_view relation rows) ≡ true
  known_base name rows e = sym (knows_by name rows) ∙ ap (λ b. b || is_some (lookup (same_name name) rows.virtuals)) e

  pub unknown_base : (name : List ℕ) (rows : Rows B) → is_some (lookup (same_name name) rows.bases) ≡ false
      → knows_relvar name (database_view relation rows) ≡ is_some (lookup (same_name name) rows.virtuals)
  unknown_base name rows e = sym (knows_by name rows) ∙ ap (λ b. b || is_some (lookup (same_name name) rows.virtuals)) e

  pub knows_constraint_by : (name : List ℕ) (rows : Rows B) → is_some (lookup (same_name name) rows.constraints) ≡ knows_constraint name (database_view relation rows)
  knows_constraint_by name rows = known constraint_view (λ (c : NamedConstraint). c.name) (λ row. refl) name rows.constraints

  pub no_base : (name : List ℕ) (rows : Rows B) → knows_relvar name (database_view relation rows) ≡ false → is_some (lookup (same_name name) rows.bases) ≡ false
  no_base name rows e = (neither (is_some (lookup (same_name name) rows.bases)) (is_some (lookup (same_name name) rows.virtuals)) (knows_by name rows ∙ e)).0

  pub no_virtual : (name : List ℕ) (rows : Rows B) → knows_relvar name (database_view relation rows) ≡ false → is_some (lookup (same_name name) rows.virtuals) ≡ false
  no_virtual name rows e = (neither (is_some (lookup (same_name name) rows.bases)) (is_some (lookup (same_name name) rows.virtuals)) (knows_by name rows ∙ e)).1

  -- ---- one more base relvar

  -- what is asked of it
  pub record IsNewBase (types : List DeclaredType) (name : List ℕ) (entry : BaseEntry B) : Type 0 where
    pub named : IsName name
    pub heading : AreKnown types (pack entry.heading)
    pub of_body : IsEntry relation keys entry
    pub proper : IsRelation (relation entry.body)
    pub typed : AreTyped types (relation entry.body)

  new_base : (types : List DeclaredType) (name : List ℕ) (entry : BaseEntry B) → IsNewBase types name entry → IsTypedBase types (base_view relation (name, entry))
  new_base types name entry h =
      record {
        known = subst (λ g. AreKnown types (pack g)) (sym h.of_body.heading_is) h.heading;
        relation = h.proper;
        typed = h.typed;
      }

  module _ {S : Type 0} (rows : Rows B) (m : IndexMap (List ℕ) (BaseEntry B) S) (name : List ℕ) (entry : BaseEntry B)
      (of : rows.bases ≡ m.entries) (free : knows_relvar name (database_view relation rows) ≡ false) where
    free_row : is_some (lookup (same_name name) m.entries) ≡ false
    free_row = ap (λ rs. is_some (lookup (same_name name) rs)) (sym of) ∙ no_base name rows free

    view_added : map (base_view relation) (insert_entry same_name m.entries name entry) ≡ map (base_view relation) rows.bases ++ (base_view relation (name, entry) ∷ [])
    view_added =
        view_with (base_view relation) (λ (r : BaseRelvar). r.name) base_named_so m name entry free_row
        ∙ ap (λ rs. map (base_view relation) rs ++ (base_view relation (name, entry) ∷ [])) (sym of)

    pub view_with_base : database_view relation (with_base_rows (insert_entry same_name m.entries name entry) rows) ≡ with_base (base_view relation (name, entry)) (database_view relation rows)
    view_with_base =
        ap (λ bs. record { types = rows.types; bases = bs; virtuals = map virtual_view rows.virtuals; constraints = map constraint_view rows.constraints }) view_added

    pub catalog_with_base : IsCatalog relation keys rows → IsNewBase rows.types name entry
        → IsCatalog relation keys (with_base_rows (insert_entry same_name m.entries name entry) rows)
    catalog_with_base h new =
        record {
          entries =
              subst (AreEntries relation keys) (sym (rows_with (base_view relation) (λ (r : BaseRelvar). r.name) base_named_so m name entry free_row))
              (all_push (λ row. IsEntry relation keys row.1) m.entries (name, entry) (subst (AreEntries relation keys) of h.entries) new.of_body);
          is_typed =
              subst IsTyped (sym view_with_base)
              (typed_with_base (database_view relation rows) (base_view relation (name, entry)) h.is_typed new.named free (new_base rows.types name entry new));
        }

  -- ---- one more virtual relvar

  module _ {S : Type 0} (rows : Rows B) (m : IndexMap (List ℕ) VirtualEntry S) (name : List ℕ) (entry : VirtualEntry)
      (of : rows.virtuals ≡ m.entries) (free : knows_relvar name (database_view relation rows) ≡ false) where
    pub view_with_virtual : database_view relation (with_virtual_rows (insert_entry same_name m.entries name entry) rows) ≡ with_virtual (virtual_view (name, entry)) (database_view relation rows)
    view_with_virtual =
        ap (λ vs. record { types = rows.types; bases = map (base_view relation) rows.bases; virtuals = vs; constraints = map constraint_view rows.constraints })
        (view_with virtual_view (λ (v : VirtualRelvar). v.name) (λ row. refl) m name entry (ap (λ rs. is_some (lookup (same_name name) rs)) (sym of) ∙ no_virtual name rows free)
        ∙ ap (λ rs. map virtual_view rs ++ (virtual_view (name, entry) ∷ [])) (sym of))

    pub catalog_with_virtual : IsCatalog relation keys rows → IsName name → IsTypedVirtual (database_scope (database_view relation rows)) (virtual_view (name, entry))
        → IsWritten entry.tree → IsCatalog relation keys (with_virtual_rows (insert_entry same_name m.entries name entry) rows)
    catalog_with_virtual h named new written =
        record {
          entries = h.entries;
          is_typed = subst IsTyped (sym view_with_virtual) (typed_with_virtual (database_view relation rows) (virtual_view (name, entry)) h.is_typed named free new written);
        }

  -- ---- one more constraint

  module _ {S : Type 0} (rows : Rows B) (m : IndexMap (List ℕ) ConstraintEntry S) (name : List ℕ) (entry : ConstraintEntry)
      (of : rows.constraints ≡ m.entries) (free : knows_constraint name (database_view relation rows) ≡ false) where
    pub view_with_constraint : database_view relation (with_constraint_rows (insert_entry same_name m.entries name entry) rows)
        ≡ with_constraint (constraint_view (name, entry)) (database_view relation rows)
    view_with_constraint =
        ap (λ cs. record { types = rows.types; bases = map (base_view relation) rows.bases; virtuals = map virtual_view rows.virtuals; constraints = cs })
        (view_with constraint_view (λ (c : NamedConstraint). c.name) (λ row. refl) m name entry
        (ap (λ rs. is_some (lookup (same_name name) rs)) (sym of) ∙ knows_constraint_by name rows ∙ free)
        ∙ ap (λ rs. map constraint_view rs ++ (constraint_view (name, entry) ∷ [])) (sym of))

    pub catalog_with_constraint : IsCatalog relation keys rows → IsName name → IsTypedConstraint (database_scope (database_view relation rows)) (constraint_view (name, entry))
        → IsCatalog relation keys (with_constraint_rows (insert_entry same_name m.entries name entry) rows)
    catalog_with_constraint h named new =
        record {
          entries = h.entries;
          is_typed = subst IsTyped (sym view_with_constraint) (typed_with_constraint (database_view relation rows) (constraint_view (name, entry)) h.is_typed named free new);
        }

  -- ---- another body

  module _ (rows : Rows B) (name : List ℕ) (body : B) (i : ℕ) (row : List ℕ × BaseEntry B)
      (place : prefix_len (other_name relation keys name) (keys_of rows.bases) ≡ i) (at : slice_get rows.bases i ≡ Some row) where
    change : IsChanged relation keys name body rows.bases i row
    change = changed relation keys name body rows.bases i row place at

    pub view_with_body : database_view relation (with_base_rows (set_value_at rows.bases i (with_entry_body relation keys row.1 body)) rows) ≡ with_body name (relation body) (database_view relation rows)
    view_with_body =
        ap (λ bs. record { types = rows.types; bases = bs; virtuals = map virtual_view rows.virtuals; constraints = map constraint_view rows.constraints }) change.view

    pub catalog_with_body : IsCatalog relation keys rows
        → IfSome (base_named name (database_view relation rows)) (λ r. IsBodyOf r.relation.heading r.keys (relation body) (keys body))
        → IsRelation (relation body) → AreTyped rows.types (relation body)
        → IsCatalog relation keys (with_base_rows (set_value_at rows.bases i (with_entry_body relation keys row.1 body)) rows)
    catalog_with_body h fits proper typed =
        let was = change.was h.entries in
        let fit : IsBodyOf (relation row.1.body).heading (entry_keys row.1) (relation body) (keys body) =
        subst (λ o. IfSome o (λ r. IsBodyOf r.relation.heading r.keys (relation body) (keys body))) change.found fits in
        let entry : IsEntry relation keys (with_entry_body relation keys row.1 body) = record { heading_is = fit.heading_is ∙ was.heading_is; keys_are = fit.keys_are } in
        record {
          entries = change.entries h.entries entry;
          is_typed = subst IsTyped (sym view_with_body) (typed_with_body (database_view relation rows) name (relation body) h.is_typed (fitting fits));
        }
      where
        fitting : IfSome (base_named name (database_view relation rows)) (λ r. IsBodyOf r.relation.heading r.keys (relation body) (keys body))
            → (r : BaseRelvar) → base_named name (database_view relation rows) ≡ Some r
            → ((relation body).heading ≡ r.relation.heading) × IsTypedBase rows.types (base_relvar name r.keys (relation body))
        fitting f r e =
            let fit : IsBodyOf r.relation.heading r.keys (relation body) (keys body) =
            subst (λ o. IfSome o (λ r'. IsBodyOf r'.relation.heading r'.keys (relation body) (keys body))) e f in (
              fit.heading_is,
              held (database_view relation rows) name (relation body) r h.is_typed e fit.heading_is proper typed,
            )
