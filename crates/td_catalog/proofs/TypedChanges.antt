-- What keeps a database typed: entries that are added, and another body.
use Rattle.std.proofs.Common.{◌≡◌, ◌∷◌, ◌++◌, ◌∙◌, ℕ, Bool, true, false, List, [], Some, ap, map, refl, subst, sym}
use Rattle.std.specs.Prelude.{if◌then◌else◌}
use Rattle.std.specs.List.{AllByRecursion}
use Rattle.std.proofs.lemmas.List.{append_assoc, append-nil, map-append}
use Rattle.td_catalog.specs.model.Database.{BaseRelvar, Database, NamedConstraint, VirtualRelvar, base_among, base_named, base_relvar, constraint_names, database_scope, empty_database, known_base, known_virtual, knows_constraint, knows_relvar, relvar_names, with_base, with_body, with_constraint, with_declared, with_relation, with_virtual, with_virtuals}
use Rattle.td_catalog.specs.model.TypedDatabases.{AreTyped, IsConstrained, IsTyped, IsTypedBase, IsTypedConstraint, IsTypedVirtual}
use Rattle.td_catalog.specs.laws.TypedDatabaseLaws.{BaseRelvarsKeepTyped, BodiesKeepTyped, ConstraintsKeepTyped, TypesKeepTyped, VirtualRelvarsKeepTyped}
use Rattle.td_catalog.specs.model.WrittenDefinitions.{ConstraintIsWritten}
use Rattle.td_catalog.proofs.KnownRelvars.{found_between, types_stay}
use Rattle.td_catalog.proofs.Lists.{all_between, all_kept, all_push, distinct_between, each_after_none, each_after_push, each_kept, has_front, not_true}
use Rattle.td_check.specs.model.Scopes.{KnownRelvar, Scope, known_relvar, relvar_in}
use Rattle.td_check.specs.model.StaticTypes.{type_of}
use Rattle.td_check.proofs.StaticLaws.{more_changes_nothing}
use Rattle.td_tree.specs.model.Names.{IsName}
use Rattle.td_tree.specs.model.Outcomes.{Valued}
use Rattle.td_tree.specs.model.Trees.{Tree}
use Rattle.td_tree.specs.model.WrittenTrees.{IsWritten}
use Rattle.td_types.specs.model.Headings.{are_distinct, has_name}
use Rattle.td_types.specs.model.TypeLists.{AreDeclared, AreKnown, DeclaredType}
use Rattle.td_types.specs.model.Types.{Heading, Type', pack, same_name}
use Rattle.td_types.specs.model.Types as types
use Rattle.td_types.proofs.DeclaredTypes.{AreDeclared-none, AreDeclared-push}
use Rattle.td_types.proofs.KnownTypes.{all_known_more}
use Rattle.td_value.specs.model.Values.{IsRelation, Relation, pack_rows}
use Rattle.td_value.specs.model.Values as values
use Rattle.td_value.proofs.KnownValues.{kept}

pub typed_empty : IsTyped empty_database
typed_empty =
    record {
      declared = AreDeclared-none;
      constrained = each_after_none IsConstrained;
      named = tt;
      distinct = refl;
      bases = tt;
      virtuals = each_after_none (λ earlier v. IsTypedVirtual (database_scope (with_virtuals earlier empty_database)) v);
      constraints_named = tt;
      constraints_distinct = refl;
      constraints = tt;
      written = record { constraints = tt; virtuals = tt };
    }

-- ---- one more type

base_kept : (ds : List DeclaredType) (d : DeclaredType) (r : BaseRelvar) → IsTypedBase ds r → IsTypedBase (ds ++ (d ∷ [])) r
base_kept ds d r h =
    record {
      known = all_known_more ds (d ∷ []) (pack r.relation.heading) h.known;
      relation = h.relation;
      typed = (kept ds (d ∷ []) (values.relation (pack r.relation.heading) (pack_rows r.relation.body)) (types.relation (pack r.relation.heading)) (refl, h.known, h.typed)).2;
    }

-- a virtual relvar stays one where the types stay and the relvars that are known stay known
virtual_stays : (first second : Scope) (v : VirtualRelvar) → second.types ≡ first.types → second.entered ≡ first.entered
    → ((n : List ℕ) (q : KnownRelvar) → known_relvar first n ≡ Some q → known_relvar second n ≡ Some q) → IsTypedVirtual first v → IsTypedVirtual second v
virtual_stays first second v same entered relvars h =
    record {
      known = subst (λ ds. AreKnown ds (pack v.heading)) (sym same) h.known;
      typed = types_stay first second v.tree (types.relation (pack v.heading)) same entered relvars h.typed;
    }

more_types : (ds : List DeclaredType) (d : DeclaredType) (first second : Scope) (e : Tree) (t : Type') → first.types ≡ ds → second.types ≡ ds ++ (d ∷ [])
    → second.relvars ≡ first.relvars → second.entered ≡ first.entered → type_of first e ≡ Valued t → type_of second e ≡ Valued t
more_types ds d first second e t was is relvars entered typed =
    (more_changes_nothing first second e t
    (record {
      types = (d ∷ [], is ∙ ap (λ xs. xs ++ (d ∷ [])) (sym was));
      relvars = ([], relvars ∙ sym (append-nil first.relvars));
      entered = entered;
    }) typed).0

pub typed_with_type : (db : Database) (d : DeclaredType) → IsTyped db → AreDeclared (db.types ++ (d ∷ [])) → IsConstrained db.types d → ConstraintIsWritten d
    → IsTyped (with_declared d db)
typed_with_type db d h all constrained written =
    record {
      declared = all;
      constrained = each_after_push IsConstrained db.types d h.constrained constrained;
      named = h.named;
      distinct = h.distinct;
      bases = all_kept (IsTypedBase db.types) (IsTypedBase (db.types ++ (d ∷ []))) (base_kept db.types d) db.bases h.bases;
      virtuals =
          each_kept (λ earlier v. IsTypedVirtual (database_scope (with_virtuals earlier db)) v)
          (λ earlier v. IsTypedVirtual (database_scope (with_virtuals earlier (with_declared d db))) v) db.virtuals (λ earlier later v is. virtual_kept earlier v) h.virtuals;
      constraints_named = h.constraints_named;
      constraints_distinct = h.constraints_distinct;
      constraints = all_kept (IsTypedConstraint (database_scope db)) (IsTypedConstraint (database_scope (with_declared d db))) constraint_kept db.constraints h.constraints;
      written = record { constraints = all_push ConstraintIsWritten db.types d h.written.constraints written; virtuals = h.written.virtuals };
    }
  where
    virtual_kept : (earlier : List VirtualRelvar) (v : VirtualRelvar) → IsTypedVirtual (database_scope (with_virtuals earlier db)) v
        → IsTypedVirtual (database_scope (with_virtuals earlier (with_declared d db))) v
    virtual_kept earlier v g =
        record {
          known = all_known_more db.types (d ∷ []) (pack v.heading) g.known;
          typed =
              more_types db.types d (database_scope (with_virtuals earlier db)) (database_scope (with_virtuals earlier (with_declared d db))) v.tree
              (types.relation (pack v.heading)) refl refl refl refl g.typed;
        }

    constraint_kept : (c : NamedConstraint) → IsTypedConstraint (database_scope db) c → IsTypedConstraint (database_scope (with_declared d db)) c
    constraint_kept c g = more_types db.types d (database_scope db) (database_scope (with_declared d db)) c.tree types.boolean refl refl refl refl g

-- ---- one more base relvar

names_with : (db : Database) (r : BaseRelvar) → relvar_names (with_base r db) ≡ (map (λ (b : BaseRelvar). b.name) db.bases ++ (r.name ∷ [])) ++ map (λ (v : VirtualRelvar). v.name) db.virtuals
names_with db r = ap (λ ns. ns ++ map (λ (v : VirtualRelvar). v.name) db.virtuals) (map-append (λ (b : BaseRelvar). b.name) db.bases (r ∷ []))

-- the names of the relvars that a scope knows
pub names_known : (bs : List BaseRelvar) (vs : List VirtualRelvar)
    → map (λ (k : KnownRelvar). k.name) (map known_base bs ++ map known_virtual vs) ≡ map (λ (b : BaseRelvar). b.name) bs ++ map (λ (v : VirtualRelvar). v.name) vs
names_known [] [] = refl
names_known [] (v ∷ vs) = ap (λ ns. v.name ∷ ns) (names_known [] vs)
names_known (b ∷ bs) vs = ap (λ ns. b.name ∷ ns) (names_known bs vs)

-- the relvars that are known with the earlier virtual relvars alone stay so with one more base relvar
known_with : (db : Database) (r : BaseRelvar) (earlier more : List VirtualRelvar) → knows_relvar r.name db ≡ false → db.virtuals ≡ earlier ++ more
    → (n : List ℕ) (q : KnownRelvar) → known_relvar (database_scope (with_virtuals earlier db)) n ≡ Some q → known_relvar (database_scope (with_virtuals earlier (with_base r db))) n ≡ Some q
known_with db r earlier more new is n q e =
    let names = map (λ (b : BaseRelvar). b.name) db.bases in
    let vnames : List VirtualRelvar → List (List ℕ) = map (λ (v : VirtualRelvar). v.name) in
    let front : has_name r.name (names ++ vnames earlier) ≡ false =
    has_front r.name names (vnames earlier) (vnames more)
    (ap (λ ns. has_name r.name (names ++ ns)) (sym (map-append (λ (v : VirtualRelvar). v.name) earlier more)) ∙ ap (λ vs. has_name r.name (names ++ vnames vs)) (sym is) ∙ new) in
    let free = ap (has_name r.name) (names_known db.bases earlier) ∙ front in
    let between = found_between n (known_base r) (map known_base db.bases) (map known_virtual earlier) q free e in
    ap (λ rs. relvar_in n (rs ++ map known_virtual earlier)) (map-append known_base db.bases (r ∷ [])) ∙ between

pub typed_with_base : (db : Database) (r : BaseRelvar) → IsTyped db → IsName r.name → knows_relvar r.name db ≡ false → IsTypedBase db.types r
    → IsTyped (with_base r db)
typed_with_base db r h named new base =
    let ns = map (λ (b : BaseRelvar). b.name) db.bases in
    let vs = map (λ (v : VirtualRelvar). v.name) db.virtuals in
    record {
      declared = h.declared;
      constrained = h.constrained;
      named = subst (AllByRecursion IsName) (sym (names_with db r)) (all_between IsName ns vs r.name h.named named);
      distinct = ap are_distinct (names_with db r) ∙ distinct_between r.name ns vs h.distinct new;
      bases = all_push (IsTypedBase db.types) db.bases r h.bases base;
      virtuals =
          each_kept (λ earlier v. IsTypedVirtual (database_scope (with_virtuals earlier db)) v)
          (λ earlier v. IsTypedVirtual (database_scope (with_virtuals earlier (with_base r db))) v) db.virtuals
          (λ earlier later v is.
          virtual_stays (database_scope (with_virtuals earlier db)) (database_scope (with_virtuals earlier (with_base r db))) v refl refl
          (known_with db r earlier (v ∷ later) new is))
          h.virtuals;
      constraints_named = h.constraints_named;
      constraints_distinct = h.constraints_distinct;
      constraints =
          all_kept (IsTypedConstraint (database_scope db)) (IsTypedConstraint (database_scope (with_base r db)))
          (λ c. types_stay (database_scope db) (database_scope (with_base r db)) c.tree types.boolean refl refl
          (known_with db r db.virtuals [] new (sym (append-nil db.virtuals))))
          db.constraints h.constraints;
      written = record { constraints = h.written.constraints; virtuals = h.written.virtuals };
    }

-- ---- one more virtual relvar

pub typed_with_virtual : (db : Database) (v : VirtualRelvar) → IsTyped db → IsName v.name → knows_relvar v.name db ≡ false → IsTypedVirtual (database_scope db) v
    → IsWritten v.tree → IsTyped (with_virtual v db)
typed_with_virtual db v h named new virtual written =
    record {
      declared = h.declared;
      constrained = h.constrained;
      named = subst (AllByRecursion IsName) (sym names) (all_push IsName (relvar_names db) v.name h.named named);
      distinct =
          ap are_distinct (names ∙ sym (append-nil (relvar_names db ++ (v.name ∷ []))))
          ∙ distinct_between v.name (relvar_names db) [] (ap are_distinct (append-nil (relvar_names db)) ∙ h.distinct) (ap (has_name v.name) (append-nil (relvar_names db)) ∙ new);
      bases = h.bases;
      virtuals = each_after_push (λ earlier w. IsTypedVirtual (database_scope (with_virtuals earlier db)) w) db.virtuals v h.virtuals virtual;
      constraints_named = h.constraints_named;
      constraints_distinct = h.constraints_distinct;
      constraints = all_kept (IsTypedConstraint (database_scope db)) (IsTypedConstraint (database_scope (with_virtual v db))) constraint_kept db.constraints h.constraints;
      written = record { constraints = h.written.constraints; virtuals = all_push (λ (w : VirtualRelvar). IsWritten w.tree) db.virtuals v h.written.virtuals written };
    }
  where
    names : relvar_names (with_virtual v db) ≡ relvar_names db ++ (v.name ∷ [])
    names =
        let ns = map (λ (b : BaseRelvar). b.name) db.bases in
        let vs = map (λ (w : VirtualRelvar). w.name) db.virtuals in
        ap (λ ms. ns ++ ms) (map-append (λ (w : VirtualRelvar). w.name) db.virtuals (v ∷ [])) ∙ sym (append_assoc ns vs (v.name ∷ []))

    constraint_kept : (c : NamedConstraint) → IsTypedConstraint (database_scope db) c → IsTypedConstraint (database_scope (with_virtual v db)) c
    constraint_kept c g =
        let bs = map known_base db.bases in
        let more = ap (λ vs. bs ++ vs) (map-append known_virtual db.virtuals (v ∷ [])) ∙ sym (append_assoc bs (map known_virtual db.virtuals) (known_virtual v ∷ [])) in
        (more_changes_nothing (database_scope db) (database_scope (with_virtual v db)) c.tree types.boolean
        (record { types = ([], sym (append-nil db.types)); relvars = (known_virtual v ∷ [], more); entered = refl }) g).0

-- ---- one more constraint

pub typed_with_constraint : (db : Database) (c : NamedConstraint) → IsTyped db → IsName c.name → knows_constraint c.name db ≡ false → IsTypedConstraint (database_scope db) c
    → IsTyped (with_constraint c db)
typed_with_constraint db c h named new constraint =
    let stays : (e : NamedConstraint) → IsTypedConstraint (database_scope db) e → IsTypedConstraint (database_scope (with_constraint c db)) e =
    λ e. types_stay (database_scope db) (database_scope (with_constraint c db)) e.tree types.boolean refl refl (λ n q f. f) in
    record {
      declared = h.declared;
      constrained = h.constrained;
      named = h.named;
      distinct = h.distinct;
      bases = h.bases;
      virtuals =
          each_kept (λ earlier v. IsTypedVirtual (database_scope (with_virtuals earlier db)) v)
          (λ earlier v. IsTypedVirtual (database_scope (with_virtuals earlier (with_constraint c db))) v) db.virtuals
          (λ earlier later v is.
          virtual_stays (database_scope (with_virtuals earlier db)) (database_scope (with_virtuals earlier (with_constraint c db))) v refl refl (λ n q f. f))
          h.virtuals;
      constraints_named = subst (AllByRecursion IsName) (sym names) (all_push IsName (constraint_names db) c.name h.constraints_named named);
      constraints_distinct =
          ap are_distinct (names ∙ sym (append-nil (constraint_names db ++ (c.name ∷ []))))
          ∙ distinct_between c.name (constraint_names db) [] (ap are_distinct (append-nil (constraint_names db)) ∙ h.constraints_distinct)
          (ap (has_name c.name) (append-nil (constraint_names db)) ∙ new);
      constraints =
          all_push (IsTypedConstraint (database_scope (with_constraint c db))) db.constraints c
          (all_kept (IsTypedConstraint (database_scope db)) (IsTypedConstraint (database_scope (with_constraint c db))) stays db.constraints h.constraints)
          (stays c constraint);
      written = record { constraints = h.written.constraints; virtuals = h.written.virtuals };
    }
  where
    names : constraint_names (with_constraint c db) ≡ constraint_names db ++ (c.name ∷ [])
    names = map-append (λ (e : NamedConstraint). e.name) db.constraints (c ∷ [])

-- ---- another body

pub names_stay : (name : List ℕ) (relation : Relation) (rs : List BaseRelvar)
    → map (λ (b : BaseRelvar). b.name) (with_relation name relation rs) ≡ map (λ (b : BaseRelvar). b.name) rs
names_stay name relation [] = refl
names_stay name relation (r ∷ rs) = by_test (same_name r.name name) (names_stay name relation rs)
  where
    by_test : (b : Bool) → map (λ (s : BaseRelvar). s.name) (with_relation name relation rs) ≡ map (λ (s : BaseRelvar). s.name) rs
        → map (λ (s : BaseRelvar). s.name) (if b then base_relvar r.name r.keys relation ∷ rs else r ∷ with_relation name relation rs) ≡ r.name ∷ map (λ (s : BaseRelvar). s.name) rs
    by_test true rest = refl
    by_test false rest = ap (λ ns. r.name ∷ ns) rest

bases_held : (ds : List DeclaredType) (name : List ℕ) (value : Relation) (rs : List BaseRelvar) → AllByRecursion (IsTypedBase ds) rs
    → ((r : BaseRelvar) → base_among name rs ≡ Some r → IsTypedBase ds (base_relvar name r.keys value)) → AllByRecursion (IsTypedBase ds) (with_relation name value rs)
bases_held ds name value [] h g = tt
bases_held ds name value (r ∷ rs) h g = by_test (same_name r.name name) refl (bases_held ds name value rs h.1)
  where
    renamed : IsTypedBase ds (base_relvar name r.keys value) → IsTypedBase ds (base_relvar r.name r.keys value)
    renamed b = record { known = b.known; relation = b.relation; typed = b.typed }

    by_test : (b : Bool) → same_name r.name name ≡ b
        → (((s : BaseRelvar) → base_among name rs ≡ Some s → IsTypedBase ds (base_relvar name s.keys value)) → AllByRecursion (IsTypedBase ds) (with_relation name value rs))
        → AllByRecursion (IsTypedBase ds) (if b then base_relvar r.name r.keys value ∷ rs else r ∷ with_relation name value rs)
    by_test true is rest = (renamed (g r (rw is refl)), h.1)
    by_test false is rest = (h.0, rest (λ s e. g s (rw is e)))

-- the headings stay
known_stay : (name : List ℕ) (value : Relation) (rs : List BaseRelvar) → ((r : BaseRelvar) → base_among name rs ≡ Some r → value.heading ≡ r.relation.heading)
    → map known_base (with_relation name value rs) ≡ map known_base rs
known_stay name value [] g = refl
known_stay name value (r ∷ rs) g = by_test (same_name r.name name) refl (known_stay name value rs)
  where
    with_heading : Heading → KnownRelvar
    with_heading h = record { name = r.name; kind = (known_base r).kind; heading = h }

    by_test : (b : Bool) → same_name r.name name ≡ b
        → (((s : BaseRelvar) → base_among name rs ≡ Some s → value.heading ≡ s.relation.heading) → map known_base (with_relation name value rs) ≡ map known_base rs)
        → map known_base (if b then base_relvar r.name r.keys value ∷ rs else r ∷ with_relation name value rs) ≡ known_base r ∷ map known_base rs
    by_test true is rest = ap (λ h. with_heading h ∷ map known_base rs) (g r (rw is refl))
    by_test false is rest = ap (λ ks. known_base r ∷ ks) (rest (λ s e. g s (rw is e)))

pub typed_with_body : BodiesKeepTyped
typed_with_body db name relation h g =
    let stay = ap (λ ns. ns ++ map (λ (v : VirtualRelvar). v.name) db.virtuals) (names_stay name relation db.bases) in
    let known = known_stay name relation db.bases (λ r e. (g r e).0) in
    let scope_of_relvars : List KnownRelvar → Scope = λ rs. record { types = db.types; relvars = rs; constraints = constraint_names db; entered = [] } in
    let scope : (vs : List VirtualRelvar) → database_scope (with_virtuals vs (with_body name relation db)) ≡ database_scope (with_virtuals vs db) =
    λ vs. ap (λ rs. scope_of_relvars (rs ++ map known_virtual vs)) known in
    record {
      declared = h.declared;
      constrained = h.constrained;
      named = subst (AllByRecursion IsName) (sym stay) h.named;
      distinct = ap are_distinct stay ∙ h.distinct;
      bases = bases_held db.types name relation db.bases h.bases (λ r e. (g r e).1);
      virtuals =
          each_kept (λ earlier v. IsTypedVirtual (database_scope (with_virtuals earlier db)) v)
          (λ earlier v. IsTypedVirtual (database_scope (with_virtuals earlier (with_body name relation db))) v) db.virtuals
          (λ earlier later v is. subst (λ s. IsTypedVirtual s v) (sym (scope earlier))) h.virtuals;
      constraints_named = h.constraints_named;
      constraints_distinct = h.constraints_distinct;
      constraints =
          all_kept (IsTypedConstraint (database_scope db)) (IsTypedConstraint (database_scope (with_body name relation db)))
          (λ c. subst (λ s. IsTypedConstraint s c) (sym (scope db.virtuals))) db.constraints h.constraints;
      written = record { constraints = h.written.constraints; virtuals = h.written.virtuals };
    }

-- ---- what is asked of the relation that a relvar is to hold

-- the relvar that is found is one
pub found_base : (P : BaseRelvar → Type 0) (name : List ℕ) (rs : List BaseRelvar) (r : BaseRelvar) → AllByRecursion P rs → base_among name rs ≡ Some r → P r
found_base P name [] r h e = absurd (cc)
found_base P name (s ∷ rs) r h e = by_test (same_name s.name name) refl (found_base P name rs r h.1)
  where
    same : Some s ≡ Some r → s ≡ r
    same is = cc

    by_test : (b : Bool) → same_name s.name name ≡ b → (base_among name rs ≡ Some r → P r) → P r
    by_test true is rest = subst P (same (rw is at e)) h.0
    by_test false is rest = rest (rw is at e)

-- a typed relation of its heading
pub held : (db : Database) (name : List ℕ) (value : Relation) (r : BaseRelvar) → IsTyped db → base_named name db ≡ Some r → value.heading ≡ r.relation.heading
    → IsRelation value → AreTyped db.types value → IsTypedBase db.types (base_relvar name r.keys value)
held db name value r h e heading proper typed =
    let base = found_base (IsTypedBase db.types) name db.bases r h.bases e in
    record { known = subst (λ g. AreKnown db.types (pack g)) (sym heading) base.known; relation = proper; typed = typed }

-- ---- laws

pub types_keep : TypesKeepTyped
types_keep db d h new = typed_with_type db d h (AreDeclared-push db.types d h.declared new)

pub base_relvars_keep : BaseRelvarsKeepTyped
base_relvars_keep db r h named new = typed_with_base db r h named (not_true (knows_relvar r.name db) new)

pub virtual_relvars_keep : VirtualRelvarsKeepTyped
virtual_relvars_keep db v h named new = typed_with_virtual db v h named (not_true (knows_relvar v.name db) new)

pub constraints_keep : ConstraintsKeepTyped
constraints_keep db c h named new = typed_with_constraint db c h named (not_true (knows_constraint c.name db) new)
