-- Catalogues with one entry less.
use Rattle.std.proofs.Common.{◌≡◌, ◌∙◌, ◌++◌, ℕ, Bool, true, false, List, [], ◌∷◌, ap, cond, map, refl, subst, sym, true≢false}
use Rattle.std.specs.Prelude.{is_some, not}
use Rattle.std.specs.Cmp.Lexicographic.{same_text}
use Rattle.std.specs.Map.{lookup, remove_entry}
use Rattle.td_catalog.specs.code.CatalogViews.{AreEntries, IsCatalog, Rows, base_view, constraint_view, database_view, virtual_view}
use Rattle.td_catalog.specs.model.Database.{BaseRelvar, NamedConstraint, VirtualRelvar, without_constraint, without_relvar}
use Rattle.td_catalog.specs.model.TypedDatabases.{IsTyped}
use Rattle.td_catalog.specs.laws.TypedDatabaseLaws.{DropsKeepTyped}
use Rattle.td_catalog.specs.model.Mentioned.{is_relvar_in_use, is_type_in_use}
use Rattle.td_catalog.specs.declared.entry.BaseEntry.{BaseEntry}
use Rattle.td_catalog.specs.declared.entry.VirtualEntry.{VirtualEntry}
use Rattle.td_catalog.proofs.Changes.{with_base_rows, with_constraint_rows, with_types, with_virtual_rows}
use Rattle.td_catalog.proofs.TypedDrops.{typed_without_constraint, typed_without_relvar}
use Rattle.td_catalog.proofs.TypedTypeDrops.{typed_without_type}
use Rattle.td_catalog.proofs.Lists.{both, neither, not_true}
use Rattle.td_catalog.proofs.Rows.{has_append, known, removed}
use Rattle.td_types.specs.model.Headings.{are_distinct, has_name}
use Rattle.td_types.specs.model.NamedTypes.{without_declared}
use Rattle.td_types.specs.model.TypeLists.{DeclaredType}
use Rattle.td_types.specs.model.Types.{same_name}
use Rattle.td_value.specs.model.Values.{Relation}

-- where no row has the name, none is taken out
nothing_removed : {E : Type 0} (name : List ℕ) (rows : List (List ℕ × E)) → is_some (lookup (same_name name) rows) ≡ false → remove_entry (same_name name) rows ≡ rows
nothing_removed name [] e = refl
nothing_removed name (row ∷ rows) e = by_test (same_name name row.0) refl (nothing_removed name rows)
  where
    by_test : (b : Bool) → same_name name row.0 ≡ b → (is_some (lookup (same_name name) rows) ≡ false → remove_entry (same_name name) rows ≡ rows)
        → remove_entry (same_name name) (row ∷ rows) ≡ row ∷ rows
    by_test true is rest = absurd (true≢false (rw is at e))
    by_test false is rest = rw is (ap (λ rs. row ∷ rs) (rest (rw is at e)))

-- a name of the one list is none of the other, where no name comes twice
elsewhere : (n : List ℕ) (xs ys : List (List ℕ)) → are_distinct (xs ++ ys) ≡ true → has_name n xs ≡ true → has_name n ys ≡ false
elsewhere n [] ys h there = absurd (true≢false (sym there))
elsewhere n (x ∷ xs) ys h there = by_test (same_name x n) refl (elsewhere n xs ys parts.1)
  where
    parts : (not (has_name x (xs ++ ys)) ≡ true) × (are_distinct (xs ++ ys) ≡ true)
    parts = both (not (has_name x (xs ++ ys))) (are_distinct (xs ++ ys)) h

    by_test : (b : Bool) → same_name x n ≡ b → (has_name n xs ≡ true → has_name n ys ≡ false) → has_name n ys ≡ false
    by_test true is rest =
        let same : x ≡ n = same_text x n (sym is) in
        (neither (has_name n xs) (has_name n ys) (sym (has_append n xs ys) ∙ ap (λ m. has_name m (xs ++ ys)) (sym same) ∙ not_true (has_name x (xs ++ ys)) parts.0)).1
    by_test false is rest = rest (rw is at there)

elsewhere_first : (n : List ℕ) (xs ys : List (List ℕ)) → are_distinct (xs ++ ys) ≡ true → has_name n ys ≡ true → has_name n xs ≡ false
elsewhere_first n xs ys h there = by_test (has_name n xs) refl
  where
    by_test : (b : Bool) → has_name n xs ≡ b → has_name n xs ≡ false
    by_test true is = absurd (true≢false (sym there ∙ elsewhere n xs ys h is))
    by_test false is = is

module _ {B : Type 0} (relation : B → Relation) (keys : B → List (List (List ℕ))) where
  -- without the relvar of the name
  abbrev pub without_relvar_rows : List ℕ → Rows B → Rows B
  without_relvar_rows name rows =
      record {
        types = rows.types;
        bases = remove_entry (same_name name) rows.bases;
        virtuals = remove_entry (same_name name) rows.virtuals;
        constraints = rows.constraints;
      }

  abbrev base_names : Rows B → List (List ℕ)
  base_names rows = map (λ (r : BaseRelvar). r.name) (map (base_view relation) rows.bases)

  abbrev virtual_names : Rows B → List (List ℕ)
  virtual_names rows = map (λ (v : VirtualRelvar). v.name) (map virtual_view rows.virtuals)

  entries_removed : (test : List ℕ → Bool) (rows : List (List ℕ × BaseEntry B)) → AreEntries relation keys rows → AreEntries relation keys (remove_entry test rows)
  entries_removed test [] h = tt
  entries_removed test (row ∷ rows) h = by_test (test row.0) (entries_removed test rows h.1)
    where
      by_test : (b : Bool) → AreEntries relation keys (remove_entry test rows) → AreEntries relation keys (cond b rows (row ∷ remove_entry test rows))
      by_test true rest = h.1
      by_test false rest = (h.0, rest)

  module _ (rows : Rows B) (name : List ℕ) where
    pub view_without_relvar : database_view relation (without_relvar_rows name rows) ≡ without_relvar name (database_view relation rows)
    view_without_relvar =
        λ i. record {
          types = rows.types;
          bases = removed (base_view relation) (λ (r : BaseRelvar). r.name) (λ row. refl) name rows.bases i;
          virtuals = removed virtual_view (λ (v : VirtualRelvar). v.name) (λ row. refl) name rows.virtuals i;
          constraints = map constraint_view rows.constraints;
        }

    pub catalog_without_relvar : IsCatalog relation keys rows → is_relvar_in_use name (database_view relation rows) ≡ false → IsCatalog relation keys (without_relvar_rows name rows)
    catalog_without_relvar h free =
        record {
          entries = entries_removed (same_name name) rows.bases h.entries;
          is_typed = subst IsTyped (sym view_without_relvar) (typed_without_relvar (database_view relation rows) name h.is_typed free);
        }

    -- a name that is a base relvar's is no virtual relvar's, and the other way
    bases_alone : IsCatalog relation keys rows → has_name name (base_names rows) ≡ true → remove_entry (same_name name) rows.virtuals ≡ rows.virtuals
    bases_alone h there =
        nothing_removed name rows.virtuals
        (known virtual_view (λ (v : VirtualRelvar). v.name) (λ row. refl) name rows.virtuals ∙ elsewhere name (base_names rows) (virtual_names rows) h.is_typed.distinct there)

    virtuals_alone : IsCatalog relation keys rows → has_name name (virtual_names rows) ≡ true → remove_entry (same_name name) rows.bases ≡ rows.bases
    virtuals_alone h there =
        nothing_removed name rows.bases
        (known (base_view relation) (λ (r : BaseRelvar). r.name) (λ row. refl) name rows.bases ∙ elsewhere_first name (base_names rows) (virtual_names rows) h.is_typed.distinct there)

    module _ (h : IsCatalog relation keys rows) where
      module _ (there : has_name name (base_names rows) ≡ true) (entries : List (List ℕ × BaseEntry B)) (is : entries ≡ remove_entry (same_name name) rows.bases) where
        base_rows_less : with_base_rows entries rows ≡ without_relvar_rows name rows
        base_rows_less = λ i. record { types = rows.types; bases = is i; virtuals = sym (bases_alone h there) i; constraints = rows.constraints }

        pub view_without_base : database_view relation (with_base_rows entries rows) ≡ without_relvar name (database_view relation rows)
        view_without_base = ap (database_view relation) base_rows_less ∙ view_without_relvar

        pub catalog_without_base : is_relvar_in_use name (database_view relation rows) ≡ false → IsCatalog relation keys (with_base_rows entries rows)
        catalog_without_base free = subst (IsCatalog relation keys) (sym base_rows_less) (catalog_without_relvar h free)

      module _ (there : has_name name (virtual_names rows) ≡ true) (entries : List (List ℕ × VirtualEntry)) (is : entries ≡ remove_entry (same_name name) rows.virtuals) where
        virtual_rows_less : with_virtual_rows entries rows ≡ without_relvar_rows name rows
        virtual_rows_less = λ i. record { types = rows.types; bases = sym (virtuals_alone h there) i; virtuals = is i; constraints = rows.constraints }

        pub view_without_virtual : database_view relation (with_virtual_rows entries rows) ≡ without_relvar name (database_view relation rows)
        view_without_virtual = ap (database_view relation) virtual_rows_less ∙ view_without_relvar

        pub catalog_without_virtual : is_relvar_in_use name (database_view relation rows) ≡ false → IsCatalog relation keys (with_virtual_rows entries rows)
        catalog_without_virtual free = subst (IsCatalog relation keys) (sym virtual_rows_less) (catalog_without_relvar h free)

    pub view_without_constraint : database_view relation (with_constraint_rows (remove_entry (same_name name) rows.constraints) rows) ≡ without_constraint name (database_view relation rows)
    view_without_constraint =
        ap (λ cs. record { types = rows.types; bases = map (base_view relation) rows.bases; virtuals = map virtual_view rows.virtuals; constraints = cs })
        (removed constraint_view (λ (c : NamedConstraint). c.name) (λ row. refl) name rows.constraints)

    pub catalog_without_constraint : IsCatalog relation keys rows → IsCatalog relation keys (with_constraint_rows (remove_entry (same_name name) rows.constraints) rows)
    catalog_without_constraint h =
        record {
          entries = h.entries;
          is_typed = subst IsTyped (sym view_without_constraint) (typed_without_constraint (database_view relation rows) name h.is_typed);
        }

    -- without the type of the name
    pub catalog_without_type : (types : List DeclaredType) → types ≡ without_declared name rows.types → IsCatalog relation keys rows
        → is_type_in_use name (database_view relation rows) ≡ false → IsCatalog relation keys (with_types types rows)
    catalog_without_type types is h free =
        record {
          entries = h.entries;
          is_typed =
              subst (λ ts. IsTyped (database_view relation (with_types ts rows))) (sym is)
              (typed_without_type name (database_view relation rows) h.is_typed free);
        }

-- ---- laws

pub drops_keep : DropsKeepTyped
drops_keep =
    record {
      type = λ db name h unused. typed_without_type name db h (not_true (is_type_in_use name db) unused);
      relvar = λ db name h unused. typed_without_relvar db name h (not_true (is_relvar_in_use name db) unused);
      constraint = typed_without_constraint;
    }
