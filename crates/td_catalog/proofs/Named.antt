-- What tables hold as known keeps in step with their rows.
use Rattle.std.proofs.Common.{◌≡◌, ◌+◌, ◌<◌, ◌∷◌, ◌++◌, ◌∙◌, ℕ, zero, suc, Bool, true, false, List, [], Option, Some, None, ap, arith, cond, length, map, refl, subst, sym, take, true≢false}
use Rattle.std.specs.Prelude.{◌↔◌, ◌||◌, IsSome, if◌then◌else◌, insert, is_some, not, slice_get}
use Rattle.std.specs.List.{AllByRecursion, find, list_any}
use Rattle.std.specs.Map.{lookup, lookup_key, remove_entry}
use Rattle.std.specs.Option.{option_to_list}
use Rattle.std.specs.Set.{remove_key}
use Rattle.std.proofs.lemmas.List.{map-append}
use Rattle.td_catalog.specs.code.CatalogViews.{AreEntries, Known, Rows, base_heading, base_view, constraint_view, database_view, known_rows, virtual_heading, virtual_view}
use Rattle.td_catalog.specs.model.Database.{BaseRelvar, Database, NamedConstraint, VirtualRelvar, database_scope, known_base, known_virtual, with_virtuals}
use Rattle.td_check.specs.code.LentScopes.{known_as}
use Rattle.td_check.specs.model.Scopes.{KnownRelvar, Scope}
use Rattle.td_check.specs.declared.scope.Kind.TheVariants as kinds
use Rattle.td_value.specs.model.Values.{Relation}
use Rattle.td_catalog.specs.code.Histories.{IsOwnStep}
use Rattle.td_catalog.specs.declared.entry.BaseEntry.{BaseEntry}
use Rattle.td_catalog.specs.declared.entry.ConstraintEntry.{ConstraintEntry}
use Rattle.td_catalog.specs.declared.entry.VirtualEntry.{VirtualEntry}
use Rattle.td_catalog.specs.declared.history.Step.{Step}
use Rattle.td_catalog.proofs.LedSteps.{view_added, without_last_push}
use Rattle.td_catalog.proofs.Lists.{all_push, both, neither, not_true}
use Rattle.td_catalog.proofs.PutBack.{view_inserted}
use Rattle.td_catalog.proofs.Steps.{all_but_last, all_last}
use Rattle.td_types.specs.model.Headings.{are_distinct, has_name}
use Rattle.td_types.specs.model.TypeLists.{DeclaredType}
use Rattle.td_types.specs.model.Types.{Heading, same_name}

abbrev pub with_known_bases : List (List ℕ × Heading) → Known → Known
with_known_bases bases known = record { bases = bases; virtuals = known.virtuals; constraints = known.constraints }

-- ---- rows by name, and what is known of them

module _ {E X : Type 0} (f : List ℕ × E → List ℕ × X) (named : (row : List ℕ × E) → (f row).0 ≡ row.0) (name : List ℕ) where
  -- a name is found among both or none
  pub found_as : (rows : List (List ℕ × E)) → is_some (lookup (same_name name) (map f rows)) ≡ is_some (lookup (same_name name) rows)
  found_as [] = refl
  found_as (row ∷ rows) = by_test (found_as rows) (same_name name row.0) refl
    where
      by_test : is_some (lookup (same_name name) (map f rows)) ≡ is_some (lookup (same_name name) rows) → (b : Bool) → same_name name row.0 ≡ b
          → is_some (lookup (same_name name) (map f (row ∷ rows))) ≡ is_some (lookup (same_name name) (row ∷ rows))
      by_test rest true is = rw (named row, is) refl
      by_test rest false is = rw (named row, is) rest

  -- and taken out of both
  pub removed_as : (rows : List (List ℕ × E)) → remove_entry (same_name name) (map f rows) ≡ map f (remove_entry (same_name name) rows)
  removed_as [] = refl
  removed_as (row ∷ rows) = by_test (removed_as rows) (same_name name row.0) refl
    where
      by_test : remove_entry (same_name name) (map f rows) ≡ map f (remove_entry (same_name name) rows) → (b : Bool) → same_name name row.0 ≡ b
          → remove_entry (same_name name) (map f (row ∷ rows)) ≡ map f (remove_entry (same_name name) (row ∷ rows))
      by_test rest true is =
          let there : same_name name (f row).0 ≡ true = ap (same_name name) (named row) ∙ is in
          rw (there, is) refl
      by_test rest false is =
          let there : same_name name (f row).0 ≡ false = ap (same_name name) (named row) ∙ is in
          rw (there, is) (ap (λ xs. f row ∷ xs) rest)

  -- and what is found among the one is that of what is found among the other
  pub own_as : (rows : List (List ℕ × E)) (key : List ℕ) (entry : E) (k : List ℕ) (x : X) → Some key ≡ lookup_key (same_name name) rows
      → Some entry ≡ lookup (same_name name) rows → Some k ≡ lookup_key (same_name name) (map f rows) → Some x ≡ lookup (same_name name) (map f rows)
      → (k, x) ≡ f (key, entry)
  own_as [] key entry k x a b c d = absurd (cc)
  own_as (row ∷ rows) key entry k x a b c d = by_test (same_name name row.0) refl (own_as rows key entry k x)
    where
      here : Some key ≡ Some row.0 → Some entry ≡ Some row.1 → Some k ≡ Some (f row).0 → Some x ≡ Some (f row).1 → (k, x) ≡ f (key, entry)
      here a' b' c' d' =
          let keys : key ≡ row.0 = cc in
          let entries : entry ≡ row.1 = cc in
          let first : k ≡ (f row).0 = cc in
          let second : x ≡ (f row).1 = cc in
          (λ i. (first i, second i)) ∙ (λ i. f (sym keys i, sym entries i))

      by_test : (b : Bool) → same_name name row.0 ≡ b
          → (Some key ≡ lookup_key (same_name name) rows → Some entry ≡ lookup (same_name name) rows → Some k ≡ lookup_key (same_name name) (map f rows)
          → Some x ≡ lookup (same_name name) (map f rows) → (k, x) ≡ f (key, entry))
          → (k, x) ≡ f (key, entry)
      by_test true is rest =
          let there : same_name name (f row).0 ≡ true = ap (same_name name) (named row) ∙ is in
          here (rw is at a) (rw is at b) (rw there at c) (rw there at d)
      by_test false is rest =
          let there : same_name name (f row).0 ≡ false = ap (same_name name) (named row) ∙ is in
          rest (rw is at a) (rw is at b) (rw there at c) (rw there at d)

-- ---- one more of both, and one less

module _ {E X : Type 0} (f : E → X) where
  pub added_as : (rows entries : List E) (row : E) (ks more : List X) (k : X) → entries ≡ rows ++ (row ∷ []) → more ≡ ks ++ (k ∷ []) → ks ≡ map f rows → k ≡ f row
      → more ≡ map f entries
  added_as rows entries row ks more k is ms named own =
      ms ∙ (λ i. named i ++ (own i ∷ [])) ∙ sym (map-append f rows (row ∷ [])) ∙ ap (map f) (sym is)

  pub again_as : (rows entries : List E) (place : ℕ) (row : E) (ks more : List X) (k : X) → entries ≡ insert rows place row → more ≡ insert ks place k → ks ≡ map f rows
      → k ≡ f row → more ≡ map f entries
  again_as rows entries place row ks more k is ms named own =
      ms ∙ (λ i. insert (named i) place (own i)) ∙ sym (view_inserted f rows place row) ∙ ap (map f) (sym is)

-- ---- names alone

pub any_as : {E : Type 0} (name : List ℕ) (rows : List (List ℕ × E)) → list_any (same_name name) (map (λ row. row.0) rows) ≡ is_some (lookup (same_name name) rows)
any_as name [] = refl
any_as name (row ∷ rows) = by_test (any_as name rows) (same_name name row.0)
  where
    by_test : list_any (same_name name) (map (λ row. row.0) rows) ≡ is_some (lookup (same_name name) rows) → (b : Bool)
        → (b || list_any (same_name name) (map (λ row. row.0) rows)) ≡ is_some (cond b (Some row.1) (lookup (same_name name) rows))
    by_test rest true = refl
    by_test rest false = rest

pub keys_less : {E : Type 0} (name : List ℕ) (rows : List (List ℕ × E)) → remove_key (same_name name) (map (λ row. row.0) rows) ≡ map (λ row. row.0) (remove_entry (same_name name) rows)
keys_less name [] = refl
keys_less name (row ∷ rows) = by_test (keys_less name rows) (same_name name row.0) refl
  where
    by_test : remove_key (same_name name) (map (λ row. row.0) rows) ≡ map (λ row. row.0) (remove_entry (same_name name) rows) → (b : Bool) → same_name name row.0 ≡ b
        → remove_key (same_name name) (map (λ row. row.0) (row ∷ rows)) ≡ map (λ row. row.0) (remove_entry (same_name name) (row ∷ rows))
    by_test rest true is = rw is refl
    by_test rest false is = rw is (ap (λ ns. row.0 ∷ ns) rest)

pub own_name : {E : Type 0} (name : List ℕ) (rows : List (List ℕ × E)) (key k : List ℕ) → Some key ≡ lookup_key (same_name name) rows
    → Some k ≡ find (same_name name) (map (λ row. row.0) rows) → k ≡ key
own_name name [] key k a b = absurd (cc)
own_name name (row ∷ rows) key k a b = by_test (same_name name row.0) refl (own_name name rows key k)
  where
    by_test : (b : Bool) → same_name name row.0 ≡ b
        → (Some key ≡ lookup_key (same_name name) rows → Some k ≡ find (same_name name) (map (λ row. row.0) rows) → k ≡ key) → k ≡ key
    by_test true is rest =
        let first : Some key ≡ Some row.0 = rw is at a in
        let second : Some k ≡ Some row.0 = rw is at b in
        cc
    by_test false is rest = rest (rw is at a) (rw is at b)

-- ---- steps that moved out what their entries made known

pub own_more : {B : Type 0} (steps next : List (Step B)) (step : Step B) → next ≡ steps ++ (step ∷ []) → AllByRecursion IsOwnStep steps → IsOwnStep step → AllByRecursion IsOwnStep next
own_more steps next step is h own = subst (AllByRecursion IsOwnStep) (sym is) (all_push IsOwnStep steps step h own)

pub own_last : {B : Type 0} (steps next : List (Step B)) (step : Step B) → next ≡ steps ++ (step ∷ []) → AllByRecursion IsOwnStep next → IsOwnStep step
own_last steps next step is h = all_last IsOwnStep steps step (subst (AllByRecursion IsOwnStep) is h)

pub own_rest : {B : Type 0} (steps next : List (Step B)) (step : Step B) → next ≡ steps ++ (step ∷ []) → AllByRecursion IsOwnStep next → AllByRecursion IsOwnStep steps
own_rest steps next step is h = all_but_last IsOwnStep steps step (subst (AllByRecursion IsOwnStep) is h)

-- ---- names that are copied in their order

pub same_rows : {A : Type 0} (xs : List A) → map (λ x. x) xs ≡ xs
same_rows [] = refl
same_rows (x ∷ xs) = ap (λ ys. x ∷ ys) (same_rows xs)

split_at : {A : Type 0} (xs : List A) (i : ℕ) (x : A) → slice_get xs i ≡ Some x → take (i + 1) xs ≡ take i xs ++ (x ∷ [])
split_at [] zero x e = absurd (cc)
split_at [] (suc i) x e = absurd (cc)
split_at (y ∷ xs) zero x e =
    let same : y ≡ x = cc in
    ap (λ z. z ∷ []) same
split_at (y ∷ xs) (suc i) x e =
    let next : suc i + 1 ≡ suc (i + 1) = omega arith in
    ap (λ n. take n (y ∷ xs)) next ∙ ap (λ ys. y ∷ ys) (split_at xs i x e)

fresh_at : (ns : List (List ℕ)) (i : ℕ) (n : List ℕ) → are_distinct ns ≡ true → slice_get ns i ≡ Some n → list_any (same_name n) (take i ns) ≡ false
fresh_at [] zero n h e = refl
fresh_at [] (suc i) n h e = refl
fresh_at (m ∷ ns) zero n h e = refl
fresh_at (m ∷ ns) (suc i) n h e =
    let parts = both (not (has_name m ns)) (are_distinct ns) h in
    rw (other ns i (not_true (has_name m ns) parts.0) e) (fresh_at ns i n parts.1 e)
  where
    other : (xs : List (List ℕ)) (k : ℕ) → has_name m xs ≡ false → slice_get xs k ≡ Some n → same_name n m ≡ false
    other [] zero g f = absurd (cc)
    other [] (suc k) g f = absurd (cc)
    other (x ∷ xs) zero g f =
        let same : x ≡ n = cc in
        ap (λ y. same_name y m) (sym same) ∙ (neither (same_name x m) (has_name m xs) g).0
    other (x ∷ xs) (suc k) g f = other xs k (neither (same_name x m) (has_name m xs) g).1 f

pub next_name : (ns : List (List ℕ)) (i : ℕ) (n key : List ℕ) (done : List (List ℕ)) → are_distinct ns ≡ true → done ≡ take i ns → key ≡ n → slice_get ns i ≡ Some n
    → (if list_any (same_name key) done then done else done ++ (key ∷ [])) ≡ take (i + 1) ns
next_name ns i n key done h so_far same e =
    (λ j. if list_any (same_name (same j)) (so_far j) then so_far j else so_far j ++ (same j ∷ []))
    ∙ ap (λ b. if b then take i ns else take i ns ++ (n ∷ [])) (fresh_at ns i n h e) ∙ sym (split_at ns i n e)

-- ---- what is lent of them

abbrev scope_made : List DeclaredType → List KnownRelvar → List (List ℕ) → Scope
scope_made types relvars constraints = record { types = types; relvars = relvars; constraints = constraints; entered = [] }

module _ {B : Type 0} (relation : B → Relation) (keys : B → List (List (List ℕ))) (rows : Rows B) (known : Known) (named : known ≡ known_rows rows)
    (entries : AreEntries relation keys rows.bases) where
  bases_lent : (bs : List (List ℕ × BaseEntry B)) → AreEntries relation keys bs → map (known_as kinds.Base) (map base_heading bs) ≡ map known_base (map (base_view relation) bs)
  bases_lent [] h = refl
  bases_lent (b ∷ bs) h = λ i. record { name = b.0; kind = kinds.Base; heading = sym h.0.heading_is i } ∷ bases_lent bs h.1 i

  virtuals_lent : (n : ℕ) (vs : List (List ℕ × VirtualEntry)) → map (known_as kinds.Virtual) (take n (map virtual_heading vs)) ≡ map known_virtual (take n (map virtual_view vs))
  virtuals_lent zero vs = refl
  virtuals_lent (suc n) [] = refl
  virtuals_lent (suc n) (v ∷ vs) = ap (λ ks. record { name = v.0; kind = kinds.Virtual; heading = v.1.heading } ∷ ks) (virtuals_lent n vs)

  constraints_lent : (cs : List (List ℕ × ConstraintEntry)) → map (λ row. row.0) cs ≡ map (λ (c : NamedConstraint). c.name) (map constraint_view cs)
  constraints_lent [] = refl
  constraints_lent (c ∷ cs) = ap (λ ns. c.0 ∷ ns) (constraints_lent cs)

  pub lent_is : (n : ℕ)
      → scope_made rows.types (map (known_as kinds.Base) known.bases ++ map (known_as kinds.Virtual) (take n known.virtuals)) known.constraints
      ≡ database_scope (with_virtuals (take n (map virtual_view rows.virtuals)) (database_view relation rows))
  lent_is n =
      ap (λ (k : Known). scope_made rows.types (map (known_as kinds.Base) k.bases ++ map (known_as kinds.Virtual) (take n k.virtuals)) k.constraints) named
      ∙ (λ i. scope_made rows.types (bases_lent rows.bases entries i ++ virtuals_lent n rows.virtuals i) (constraints_lent rows.constraints i))

  -- ---- what a database makes known

  pub same_known : (others : Rows B) → AreEntries relation keys others.bases → database_view relation others ≡ database_view relation rows → known_rows others ≡ known_rows rows
  same_known others h same =
      sym (named_by others.bases others h) ∙ ap known_database same ∙ named_by rows.bases rows entries
    where
      known_database : Database → Known
      known_database db =
          record {
            bases = map (λ (r : BaseRelvar). (r.name, r.relation.heading)) db.bases;
            virtuals = map (λ (v : VirtualRelvar). (v.name, v.heading)) db.virtuals;
            constraints = map (λ (c : NamedConstraint). c.name) db.constraints;
          }

      bases_by : (bs : List (List ℕ × BaseEntry B)) → AreEntries relation keys bs → map (λ (r : BaseRelvar). (r.name, r.relation.heading)) (map (base_view relation) bs) ≡ map base_heading bs
      bases_by [] k = refl
      bases_by (b ∷ bs) k = λ i. (b.0, k.0.heading_is i) ∷ bases_by bs k.1 i

      virtuals_by : (vs : List (List ℕ × VirtualEntry)) → map (λ (v : VirtualRelvar). (v.name, v.heading)) (map virtual_view vs) ≡ map virtual_heading vs
      virtuals_by [] = refl
      virtuals_by (v ∷ vs) = ap (λ ks. (v.0, v.1.heading) ∷ ks) (virtuals_by vs)

      named_by : (bs : List (List ℕ × BaseEntry B)) (rs : Rows B) → AreEntries relation keys rs.bases → known_database (database_view relation rs) ≡ known_rows rs
      named_by bs rs k = λ i. record { bases = bases_by rs.bases k i; virtuals = virtuals_by rs.virtuals i; constraints = sym (constraints_lent rs.constraints) i }

  pub bases_apart : are_distinct (map (λ (r : BaseRelvar). r.name) (map (base_view relation) rows.bases)) ≡ true → are_distinct (map (λ row. row.0) known.bases) ≡ true
  bases_apart h = ap (λ (k : Known). are_distinct (map (λ row. row.0) k.bases)) named ∙ ap are_distinct (names_by rows.bases) ∙ h
    where
      names_by : (bs : List (List ℕ × BaseEntry B)) → map (λ row. row.0) (map base_heading bs) ≡ map (λ (r : BaseRelvar). r.name) (map (base_view relation) bs)
      names_by [] = refl
      names_by (b ∷ bs) = ap (λ ns. b.0 ∷ ns) (names_by bs)

  pub virtuals_apart : are_distinct (map (λ (v : VirtualRelvar). v.name) (map virtual_view rows.virtuals)) ≡ true → are_distinct (map (λ row. row.0) known.virtuals) ≡ true
  virtuals_apart h = ap (λ (k : Known). are_distinct (map (λ row. row.0) k.virtuals)) named ∙ ap are_distinct (names_by rows.virtuals) ∙ h
    where
      names_by : (vs : List (List ℕ × VirtualEntry)) → map (λ row. row.0) (map virtual_heading vs) ≡ map (λ (v : VirtualRelvar). v.name) (map virtual_view vs)
      names_by [] = refl
      names_by (v ∷ vs) = ap (λ ns. v.0 ∷ ns) (names_by vs)

  pub constraints_apart : are_distinct (map (λ (c : NamedConstraint). c.name) (map constraint_view rows.constraints)) ≡ true → are_distinct known.constraints ≡ true
  constraints_apart h = ap (λ (k : Known). are_distinct k.constraints) named ∙ ap are_distinct (constraints_lent rows.constraints) ∙ h
