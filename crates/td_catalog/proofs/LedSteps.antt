-- Steps that lead from tables to others: each taken back gives what was there.
use Rattle.std.proofs.Common.{◌≡◌, ◌+◌, ◌-◌, ◌∷◌, ◌++◌, ◌∙◌, ℕ, zero, suc, Bool, true, false, List, [], Option, Some, None, ap, arith, cond, length, map, option_map, refl, subst, sym, take, true≢false}
use Rattle.std.specs.Prelude.{insert, is_some, nat_lt, not, position, slice_get}
use Rattle.std.specs.List.{position_or_len, prefix_len}
use Rattle.std.specs.Map.{keys_of, lookup, lookup_key, remove_entry}
use Rattle.std.proofs.lemmas.List.{length-append, map-append, take-append-le, take_all}
use Rattle.indexmap.specs.Layout.{set_value_at}
use Rattle.td_catalog.specs.code.CatalogViews.{Rows, constraint_view, virtual_view}
use Rattle.td_catalog.specs.code.Histories.{HeldTables, HeldBase, held_base, held_view, latest, went_back, with_body_back, with_held_bases, with_held_constraints, with_held_types, with_held_virtuals, without_last}
use Rattle.td_catalog.specs.declared.entry.BaseEntry.{BaseEntry}
use Rattle.td_catalog.specs.declared.entry.ConstraintEntry.{ConstraintEntry}
use Rattle.td_catalog.specs.declared.entry.VirtualEntry.{VirtualEntry}
use Rattle.td_catalog.specs.declared.history.Step.TheVariants.{TypeAdded, BaseAdded, VirtualAdded, ConstraintAdded, BaseDropped, VirtualDropped, ConstraintDropped, BodyChanged}
use Rattle.td_catalog.proofs.Changes.{with_base_rows, with_constraint_rows, with_types, with_virtual_rows}
use Rattle.td_catalog.proofs.Steps.{Leads}
use Rattle.td_types.specs.model.NamedTypes.{without_declared}
use Rattle.td_types.specs.model.TypeLists.{DeclaredType, is_declared}
use Rattle.td_types.specs.model.Types.{Heading, same_name}
use Rattle.td_types.proofs.HeadingLaws.{same_name-flips, same_name-itself}
use Rattle.td_value.specs.model.Values.{Relation}

-- ---- the last of a list

pub without_last_push : {A : Type 0} (xs : List A) (x : A) → without_last (xs ++ (x ∷ [])) ≡ xs
without_last_push xs x =
    let counted = length-append xs (x ∷ []) in
    let all : length (xs ++ (x ∷ [])) - 1 ≡ length xs = omega (arith, counted) in
    ap (λ n. take n (xs ++ (x ∷ []))) all ∙ take-append-le (length xs) xs (x ∷ []) (omega arith) ∙ take_all (length xs) xs (omega arith)

pub latest_push : {A : Type 0} (x : A) (xs : List A) (y : A) → latest x (xs ++ (y ∷ [])) ≡ y
latest_push x [] y = refl
latest_push x (z ∷ xs) y = latest_push z xs y

pub view_added : {E X : Type 0} (view : E → X) (rows : List E) (row : E) → without_last (map view (rows ++ (row ∷ []))) ≡ map view rows
view_added view rows row = ap without_last (map-append view rows (row ∷ [])) ∙ without_last_push (map view rows) (view row)

-- what a body is after it went back, by its answer
pub record IsBack (before after : Relation) (kept left : List Relation) : Type 0 where
  pub relation_is : after ≡ latest before kept
  pub kept_is : left ≡ without_last kept

pub gone_back : (answer : Bool) (before after : Relation) (kept left : List Relation) → (answer ≡ true → kept ≡ left ++ (after ∷ []))
    → (answer ≡ false → (kept ≡ []) × (left ≡ [])) → (answer ≡ false → after ≡ before) → IsBack before after kept left
gone_back true before after kept left back none same =
    let is = back refl in
    record {
      relation_is = sym (ap (latest before) is ∙ latest_push before left after);
      kept_is = sym (ap without_last is ∙ without_last_push left after);
    }
gone_back false before after kept left back none same =
    let empty = none refl in
    record {
      relation_is = same refl ∙ ap (latest before) (sym empty.0);
      kept_is = empty.1 ∙ ap without_last (sym empty.0);
    }

-- ---- rows by name

abbrev pub other : List ℕ → List ℕ → Bool
other name n = not (same_name name n)

-- the place that is found is the first of the name
pub first_place : (name : List ℕ) (names : List (List ℕ)) (i : ℕ) → position (same_name name) names ≡ Some i → prefix_len (other name) names ≡ i
first_place name names i e = by_test (nat_lt (position_or_len (same_name name) names) (length names)) e
  where
    by_test : (b : Bool) → cond b (Some (position_or_len (same_name name) names)) None ≡ Some i → position_or_len (same_name name) names ≡ i
    by_test true h = cc
    by_test false h = absurd (cc)

module _ {E X : Type 0} (view : List ℕ × E → X) (name : List ℕ) where
  -- the row of the name that was taken out, put in again at its place
  pub put_again : (rows : List (List ℕ × E)) (i : ℕ) (key : List ℕ) (entry : E) → prefix_len (other name) (keys_of rows) ≡ i
      → Some key ≡ lookup_key (same_name name) rows → Some entry ≡ lookup (same_name name) rows
      → insert (map view (remove_entry (same_name name) rows)) i (view (key, entry)) ≡ map view rows
  put_again [] i key entry p k v = absurd (cc)
  put_again (r ∷ rows) zero key entry p k v = by_test (same_name name r.0) refl
    where
      same : Some key ≡ Some r.0 → Some entry ≡ Some r.1 → view (key, entry) ≡ view r
      same k' v' =
          let keys : key ≡ r.0 = cc in
          let entries : entry ≡ r.1 = cc in
          λ j. view (keys j, entries j)

      by_test : (b : Bool) → same_name name r.0 ≡ b → insert (map view (remove_entry (same_name name) (r ∷ rows))) zero (view (key, entry)) ≡ map view (r ∷ rows)
      by_test true is = rw is (ap (λ x. x ∷ map view rows) (same (rw is at k) (rw is at v)))
      by_test false is =
          let more : 1 + prefix_len (other name) (keys_of rows) ≡ zero = rw is at p in
          absurd (omega (arith, more))
  put_again (r ∷ rows) (suc i) key entry p k v = by_test (same_name name r.0) refl (put_again rows i key entry)
    where
      by_test : (b : Bool) → same_name name r.0 ≡ b
          → (prefix_len (other name) (keys_of rows) ≡ i → Some key ≡ lookup_key (same_name name) rows → Some entry ≡ lookup (same_name name) rows
          → insert (map view (remove_entry (same_name name) rows)) i (view (key, entry)) ≡ map view rows)
          → insert (map view (remove_entry (same_name name) (r ∷ rows))) (suc i) (view (key, entry)) ≡ map view (r ∷ rows)
      by_test true is rest =
          let none : zero ≡ suc i = rw is at p in
          absurd (cc)
      by_test false is rest =
          let more : 1 + prefix_len (other name) (keys_of rows) ≡ suc i = rw is at p in
          rw is (ap (λ xs. view r ∷ xs) (rest (omega (arith, more)) (rw is at k) (rw is at v)))

-- ---- a body that changed, and one that went back

module _ {B : Type 0} (relation : B → Relation) (keys : B → List (List (List ℕ))) (kept : B → List Relation) where
  abbrev view : List ℕ × BaseEntry B → HeldBase
  view = held_base relation keys kept

  module _ (name : List ℕ) where
    some_row : (r row : List ℕ × BaseEntry B) → Some r ≡ Some row → r ≡ row
    some_row r row e = cc

    -- two walks in one: the first to the row before, the second from it
    record Walked (rows : List (List ℕ × BaseEntry B)) (i : ℕ) (row : List ℕ × BaseEntry B) (after : BaseEntry B) : Type 0 where
      changed : went_back (view (row.0, after)) ≡ view row → with_body_back name (map view (set_value_at rows i after)) ≡ map view rows
      reverted : view (row.0, after) ≡ went_back (view row) → map view (set_value_at rows i after) ≡ with_body_back name (map view rows)

    walk : (rows : List (List ℕ × BaseEntry B)) (i : ℕ) (row : List ℕ × BaseEntry B) (after : BaseEntry B) → prefix_len (other name) (keys_of rows) ≡ i
        → slice_get rows i ≡ Some row → Walked rows i row after
    walk [] zero row after p e = absurd (cc)
    walk [] (suc i) row after p e = absurd (cc)
    walk (r ∷ rows) zero row after p e = by_test (same_name name r.0) refl
      where
        here : same_name name r.0 ≡ true → Walked (r ∷ rows) zero r after
        here is =
            let same : same_name r.0 name ≡ true = same_name-flips r.0 name ∙ is in
            record {
              changed = λ led. rw same (ap (λ b. b ∷ map view rows) led);
              reverted = λ led. rw same (ap (λ b. b ∷ map view rows) led);
            }

        by_test : (b : Bool) → same_name name r.0 ≡ b → Walked (r ∷ rows) zero row after
        by_test true is = subst (λ q. Walked (r ∷ rows) zero q after) (some_row r row e) (here is)
        by_test false is =
            let more : 1 + prefix_len (other name) (keys_of rows) ≡ zero = rw is at p in
            absurd (omega (arith, more))
    walk (r ∷ rows) (suc i) row after p e = by_test (same_name name r.0) refl (λ q. walk rows i row after q e)
      where
        there : same_name name r.0 ≡ false → Walked rows i row after → Walked (r ∷ rows) (suc i) row after
        there is rest =
            let same : same_name r.0 name ≡ false = same_name-flips r.0 name ∙ is in
            record {
              changed = λ led. rw same (ap (λ bs. view r ∷ bs) (rest.changed led));
              reverted = λ led. rw same (ap (λ bs. view r ∷ bs) (rest.reverted led));
            }

        by_test : (b : Bool) → same_name name r.0 ≡ b → (prefix_len (other name) (keys_of rows) ≡ i → Walked rows i row after) → Walked (r ∷ rows) (suc i) row after
        by_test true is rest =
            let none : zero ≡ suc i = rw is at p in
            absurd (cc)
        by_test false is rest =
            let more : 1 + prefix_len (other name) (keys_of rows) ≡ suc i = rw is at p in
            there is (rest (omega (arith, more)))

    -- what a change of a body makes of its entry
    pub record HasChanged (before after : BaseEntry B) : Type 0 where
      pub heading : after.heading ≡ before.heading
      pub names : after.keys ≡ before.keys
      pub keys_stay : keys after.body ≡ keys before.body
      pub kept_more : kept after.body ≡ kept before.body ++ (relation before.body ∷ [])

    pub body_changed : (rows : List (List ℕ × BaseEntry B)) (i : ℕ) (row : List ℕ × BaseEntry B) (after : BaseEntry B)
        → prefix_len (other name) (keys_of rows) ≡ i → slice_get rows i ≡ Some row → HasChanged row.1 after
        → with_body_back name (map view (set_value_at rows i after)) ≡ map view rows
    body_changed rows i row after p e h =
        let was = ap (latest (relation after.body)) h.kept_more ∙ latest_push (relation after.body) (kept row.1.body) (relation row.1.body) in
        let rest = ap without_last h.kept_more ∙ without_last_push (kept row.1.body) (relation row.1.body) in
        (walk rows i row after p e).changed
        (λ j. record {
          base = record { name = row.0; keys = map (λ key. key.items) (h.names j).items; relation = was j };
          heading = h.heading j;
          body_keys = h.keys_stay j;
          kept = rest j;
        })

    -- an entry whose body went back, where it kept something
    pub record WentBack (before after : BaseEntry B) : Type 0 where
      pub heading : after.heading ≡ before.heading
      pub names : after.keys ≡ before.keys
      pub keys_stay : keys after.body ≡ keys before.body
      pub relation_is : relation after.body ≡ latest (relation before.body) (kept before.body)
      pub kept_is : kept after.body ≡ without_last (kept before.body)

    pub body_reverted : (rows : List (List ℕ × BaseEntry B)) (i : ℕ) (row : List ℕ × BaseEntry B) (after : BaseEntry B)
        → prefix_len (other name) (keys_of rows) ≡ i → slice_get rows i ≡ Some row → WentBack row.1 after
        → map view (set_value_at rows i after) ≡ with_body_back name (map view rows)
    body_reverted rows i row after p e h =
        (walk rows i row after p e).reverted
        (λ j. record {
          base = record { name = row.0; keys = map (λ key. key.items) (h.names j).items; relation = h.relation_is j };
          heading = h.heading j;
          body_keys = h.keys_stay j;
          kept = h.kept_is j;
        })

    -- where there is none of the name, none goes back
    pub none_reverted : (rows : List (List ℕ × BaseEntry B)) → is_some (lookup (same_name name) rows) ≡ false → with_body_back name (map view rows) ≡ map view rows
    none_reverted [] e = refl
    none_reverted (r ∷ rows) e = by_test (same_name name r.0) refl (none_reverted rows)
      where
        by_test : (b : Bool) → same_name name r.0 ≡ b → (is_some (lookup (same_name name) rows) ≡ false → with_body_back name (map view rows) ≡ map view rows)
            → with_body_back name (map view (r ∷ rows)) ≡ map view (r ∷ rows)
        by_test true is rest = absurd (cc)
        by_test false is rest =
            let same : same_name r.0 name ≡ false = same_name-flips r.0 name ∙ is in
            rw same (ap (λ bs. view r ∷ bs) (rest (rw is at e)))

pub some_map : {A C : Type 0} (f : A → C) (o : Option A) → is_some (option_map f o) ≡ is_some o
some_map f None = refl
some_map f (Some a) = refl

-- ---- which steps lead from rows to others

-- the types without the one of the name that was added
without_added : (name : List ℕ) (ds : List DeclaredType) (d : DeclaredType) → is_declared name ds ≡ false → d.name ≡ name → without_declared name (ds ++ (d ∷ [])) ≡ ds
without_added name [] d none is = ap (λ b. cond b [] (d ∷ [])) (ap (λ n. same_name n name) is ∙ same_name-itself name)
without_added name (e ∷ ds) d none is = by_test (same_name e.name name) refl (without_added name ds d)
  where
    by_test : (b : Bool) → same_name e.name name ≡ b → (is_declared name ds ≡ false → d.name ≡ name → without_declared name (ds ++ (d ∷ [])) ≡ ds)
        → cond b (ds ++ (d ∷ [])) (e ∷ without_declared name (ds ++ (d ∷ []))) ≡ e ∷ ds
    by_test true same rest = absurd (true≢false (rw same at none))
    by_test false same rest = ap (λ es. e ∷ es) (rest (rw same at none) is)

module _ {B : Type 0} (relation : B → Relation) (keys : B → List (List (List ℕ))) (kept : B → List Relation) (rows : Rows B) where
  abbrev held : HeldTables
  held = held_view relation keys kept rows

  pub type_added : (name : List ℕ) (types : List DeclaredType) (d : DeclaredType) → types ≡ rows.types ++ (d ∷ []) → d.name ≡ name → is_declared name rows.types ≡ false
      → Leads relation keys kept rows (TypeAdded name) (with_types types rows)
  type_added name types d is named new = ap (λ ts. with_held_types ts held) (ap (without_declared name) is ∙ without_added name rows.types d new named)

  pub base_added : (entries : List (List ℕ × BaseEntry B)) (row : List ℕ × BaseEntry B) → entries ≡ rows.bases ++ (row ∷ [])
      → Leads relation keys kept rows BaseAdded (with_base_rows entries rows)
  base_added entries row is =
      ap (λ bs. with_held_bases bs held) (ap (λ es. without_last (map (held_base relation keys kept) es)) is ∙ view_added (held_base relation keys kept) rows.bases row)

  pub virtual_added : (entries : List (List ℕ × VirtualEntry)) (row : List ℕ × VirtualEntry) → entries ≡ rows.virtuals ++ (row ∷ [])
      → Leads relation keys kept rows VirtualAdded (with_virtual_rows entries rows)
  virtual_added entries row is =
      ap (λ vs. with_held_virtuals vs held) (ap (λ es. without_last (map virtual_view es)) is ∙ view_added virtual_view rows.virtuals row)

  pub constraint_added : (entries : List (List ℕ × ConstraintEntry)) (row : List ℕ × ConstraintEntry) → entries ≡ rows.constraints ++ (row ∷ [])
      → Leads relation keys kept rows ConstraintAdded (with_constraint_rows entries rows)
  constraint_added entries row is =
      ap (λ cs. with_held_constraints cs held) (ap (λ es. without_last (map constraint_view es)) is ∙ view_added constraint_view rows.constraints row)

  pub base_dropped : (out : List ℕ × Heading) (name : List ℕ) (place : ℕ) (key : List ℕ) (entry : BaseEntry B) (entries : List (List ℕ × BaseEntry B))
      → entries ≡ remove_entry (same_name name) rows.bases → Some place ≡ position (same_name name) (keys_of rows.bases)
      → Some key ≡ lookup_key (same_name name) rows.bases → Some entry ≡ lookup (same_name name) rows.bases
      → Leads relation keys kept rows (BaseDropped place key entry out) (with_base_rows entries rows)
  base_dropped out name place key entry entries is p k v =
      ap (λ bs. with_held_bases bs held)
      (ap (λ es. insert (map (held_base relation keys kept) es) place (held_base relation keys kept (key, entry))) is
      ∙ put_again (held_base relation keys kept) name rows.bases place key entry (first_place name (keys_of rows.bases) place (sym p)) k v)

  pub virtual_dropped : (out : List ℕ × Heading) (name : List ℕ) (place : ℕ) (key : List ℕ) (entry : VirtualEntry) (entries : List (List ℕ × VirtualEntry))
      → entries ≡ remove_entry (same_name name) rows.virtuals → Some place ≡ position (same_name name) (keys_of rows.virtuals)
      → Some key ≡ lookup_key (same_name name) rows.virtuals → Some entry ≡ lookup (same_name name) rows.virtuals
      → Leads relation keys kept rows (VirtualDropped place key entry out) (with_virtual_rows entries rows)
  virtual_dropped out name place key entry entries is p k v =
      ap (λ vs. with_held_virtuals vs held)
      (ap (λ es. insert (map virtual_view es) place (virtual_view (key, entry))) is
      ∙ put_again virtual_view name rows.virtuals place key entry (first_place name (keys_of rows.virtuals) place (sym p)) k v)

  pub constraint_dropped : (out : List ℕ) (name : List ℕ) (place : ℕ) (key : List ℕ) (entry : ConstraintEntry) (entries : List (List ℕ × ConstraintEntry))
      → entries ≡ remove_entry (same_name name) rows.constraints → Some place ≡ position (same_name name) (keys_of rows.constraints)
      → Some key ≡ lookup_key (same_name name) rows.constraints → Some entry ≡ lookup (same_name name) rows.constraints
      → Leads relation keys kept rows (ConstraintDropped place key entry out) (with_constraint_rows entries rows)
  constraint_dropped out name place key entry entries is p k v =
      ap (λ cs. with_held_constraints cs held)
      (ap (λ es. insert (map constraint_view es) place (constraint_view (key, entry))) is
      ∙ put_again constraint_view name rows.constraints place key entry (first_place name (keys_of rows.constraints) place (sym p)) k v)

  pub changed_body : (name : List ℕ) (i : ℕ) (row : List ℕ × BaseEntry B) (after : BaseEntry B) → prefix_len (other name) (keys_of rows.bases) ≡ i
      → slice_get rows.bases i ≡ Some row → HasChanged relation keys kept name row.1 after
      → Leads relation keys kept rows (BodyChanged name) (with_base_rows (set_value_at rows.bases i after) rows)
  changed_body name i row after p e h = ap (λ bs. with_held_bases bs held) (body_changed relation keys kept name rows.bases i row after p e h)

-- ---- an entry that is seen as it was

pub set_same : {E X : Type 0} (view : List ℕ × E → X) (rows : List (List ℕ × E)) (i : ℕ) (row : List ℕ × E) (after : E) → slice_get rows i ≡ Some row
    → view (row.0, after) ≡ view row → map view (set_value_at rows i after) ≡ map view rows
set_same view [] zero row after e is = absurd (cc)
set_same view [] (suc i) row after e is = absurd (cc)
set_same view (r ∷ rows) zero row after e is =
    let same : r ≡ row = cc in
    ap (λ x. x ∷ map view rows) (ap (λ q. view (q.0, after)) same ∙ is ∙ ap view (sym same))
set_same view (r ∷ rows) (suc i) row after e is = ap (λ xs. view r ∷ xs) (set_same view rows i row after e is)
