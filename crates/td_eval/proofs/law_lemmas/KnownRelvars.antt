-- Which relvars a database knows, and which of them its world gives values.
use Rattle.std.proofs.Common.{◌≡◌, ◌∙◌, ◌∷◌, ◌++◌, ℕ, Bool, true, false, List, [], Option, Some, None, append-nil, append_assoc, ap, fold, map, option_map, refl, subst, sym, true≢false}
use Rattle.std.specs.List.{find}
use Rattle.std.specs.Option.{option_or}
use Rattle.std.specs.Prelude.{◌||◌, if◌then◌else◌, is_some}
use Rattle.std.proofs.lemmas.List.{map-append}
use Rattle.std.proofs.lemmas.List.Sums.{fold-append}
use Rattle.td_catalog.specs.model.Database.{BaseRelvar, Database, VirtualRelvar, base_among, base_named, database_scope, known_base, known_virtual, relvar_names, virtual_named, with_virtuals}
use Rattle.td_check.specs.declared.scope.Kind.TheVariants as kinds
use Rattle.td_check.specs.model.Scopes.{KnownRelvar, Scope, known_relvar, relvar_in, with_known_relvar}
use Rattle.td_check.specs.laws.StaticLaws.{HasMore}
use Rattle.td_eval.specs.model.DatabaseWorlds.{with_virtual_value, world_of, world_of_bases}
use Rattle.td_eval.specs.model.TreeValues.{value_of}
use Rattle.td_eval.specs.model.Worlds.{World}
use Rattle.td_eval.proofs.code_lemmas.AddedInTurn.{listed_none}
use Rattle.td_eval.proofs.law_lemmas.DistinctNames.{are_apart, has_first, has_name-append, has_rest}
use Rattle.td_eval.proofs.code_lemmas.WorldParts.{base_value, relvar_at, relvar_stays, virtual_name, virtual_value}
use Rattle.td_tree.specs.model.Outcomes.{Outcome, Valued}
use Rattle.td_types.specs.model.Headings.{are_distinct, has_name}
use Rattle.td_types.specs.model.Types.{same_name}
use Rattle.td_value.specs.model.Values.{Val, relation_value}

-- ---- lists

-- what holds of the first of a list, one by one
module _ {A : Type 0} (P : List A → Type 0) (all : List A) (none : P [])
    (next : (front rest : List A) (x : A) → all ≡ front ++ (x ∷ rest) → P front → P (front ++ (x ∷ []))) where
  walk : (front rest more : List A) → all ≡ front ++ (rest ++ more) → P front → P (front ++ rest)
  walk front [] more e p = subst P (sym (append-nil front)) p
  walk front (x ∷ rest) more e p =
      subst P (append_assoc front (x ∷ []) rest)
      (walk (front ++ (x ∷ [])) rest more (e ∙ sym (append_assoc front (x ∷ []) (rest ++ more))) (next front (rest ++ more) x e p))

  pub of_front : (front more : List A) → all ≡ front ++ more → P front
  of_front front more e = walk [] front more e none

  pub of_all : P all
  of_all = of_front all [] (sym (append-nil all))

-- ---- lists of what has names

pub some_one : {X : Type 0} (x y : X) → Some x ≡ Some y → x ≡ y
some_one x y e = cc

pub some_of : {X : Type 0} (o : Option X) → is_some o ≡ true → (x : X) × (o ≡ Some x)
some_of None k = absurd (cc)
some_of (Some x) k = (x, refl)

pub never_none : {X A : Type 0} (x : X) (o : Option X) → o ≡ Some x → o ≡ None → A
never_none x o e f = let clash : Some x ≡ None = sym e ∙ f in absurd (cc)

module _ {X : Type 0} (name_of : X → List ℕ) where
  -- the first of a name
  abbrev pub named : List ℕ → List X → Option X
  named n = find (λ x. same_name (name_of x) n)

  pub has_named : (n : List ℕ) (xs : List X) → has_name n (map name_of xs) ≡ is_some (named n xs)
  has_named n [] = refl
  has_named n (x ∷ xs) = by_test (same_name (name_of x) n) (has_named n xs)
    where
      by_test : (b : Bool) → has_name n (map name_of xs) ≡ is_some (named n xs)
          → (b || has_name n (map name_of xs)) ≡ is_some (if b then Some x else named n xs)
      by_test true rest = refl
      by_test false rest = rest

  -- it stays the first where more stand behind
  pub named_more : (n : List ℕ) (xs more : List X) (x : X) → named n xs ≡ Some x → named n (xs ++ more) ≡ Some x
  named_more n [] more x e = absurd (cc)
  named_more n (y ∷ xs) more x e = by_test (same_name (name_of y) n) refl (named_more n xs more x)
    where
      by_test : (b : Bool) → same_name (name_of y) n ≡ b → (named n xs ≡ Some x → named n (xs ++ more) ≡ Some x)
          → named n (y ∷ (xs ++ more)) ≡ Some x
      by_test true is rest = rw is (rw is at e)
      by_test false is rest = rw is (rest (rw is at e))

  -- it is the first behind what has other names
  pub named_behind : (n : List ℕ) (xs ys : List X) → named n xs ≡ None → named n (xs ++ ys) ≡ named n ys
  named_behind n [] ys e = refl
  named_behind n (x ∷ xs) ys e = by_test (same_name (name_of x) n) refl (named_behind n xs ys)
    where
      by_test : (b : Bool) → same_name (name_of x) n ≡ b → (named n xs ≡ None → named n (xs ++ ys) ≡ named n ys)
          → named n (x ∷ (xs ++ ys)) ≡ named n ys
      by_test true is rest = let clash : Some x ≡ None = sym (rw is refl) ∙ e in absurd (cc)
      by_test false is rest = rw is (rest (rw is at e))

  -- where it stands
  abbrev pub NamedAt : List ℕ → List X → X → Type 0
  NamedAt n xs x =
      (front : List X) × (rest : List X) × (xs ≡ front ++ (x ∷ rest)) × (named n front ≡ None) × (same_name (name_of x) n ≡ true)

  pub named_at : (n : List ℕ) (xs : List X) (x : X) → named n xs ≡ Some x → NamedAt n xs x
  named_at n [] x e = absurd (cc)
  named_at n (y ∷ xs) x e = by_test (same_name (name_of y) n) refl (named_at n xs x)
    where
      by_test : (b : Bool) → same_name (name_of y) n ≡ b → (named n xs ≡ Some x → NamedAt n xs x) → NamedAt n (y ∷ xs) x
      by_test true is rest =
          let same : y ≡ x = some_one y x (rw is at e) in
          ([], xs, ap (λ z. z ∷ xs) same, refl, subst (λ z. same_name (name_of z) n ≡ true) same is)
      by_test false is rest =
          let at = rest (rw is at e) in
          (y ∷ at.0, at.1, ap (λ zs. y ∷ zs) at.2, rw is at.3, at.4)

-- ---- names

-- where neither a base relvar nor a virtual one has it, it is no name of a relvar
pub unnamed : (db : Database) (n : List ℕ) → base_named n db ≡ None → virtual_named n db ≡ None → has_name n (relvar_names db) ≡ false
unnamed db n no_base no_virtual =
    let bases : has_name n (map (λ (r : BaseRelvar). r.name) db.bases) ≡ false = has_named (λ (r : BaseRelvar). r.name) n db.bases ∙ ap is_some no_base in
    let virtuals : has_name n (map virtual_name db.virtuals) ≡ false = has_named virtual_name n db.virtuals ∙ ap is_some no_virtual in
    has_name-append n (map (λ (r : BaseRelvar). r.name) db.bases) (map virtual_name db.virtuals) ∙ rw (bases, virtuals) refl

-- ---- known relvars

pub relvar_more : (n : List ℕ) (rs more : List KnownRelvar) (r : KnownRelvar) → relvar_in n rs ≡ Some r → relvar_in n (rs ++ more) ≡ Some r
relvar_more n [] more r e = absurd (cc)
relvar_more n (q ∷ rs) more r e = by_name (same_name q.name n) refl (relvar_more n rs more r)
  where
    by_name : (b : Bool) → same_name q.name n ≡ b → (relvar_in n rs ≡ Some r → relvar_in n (rs ++ more) ≡ Some r)
        → relvar_in n (q ∷ (rs ++ more)) ≡ Some r
    by_name true is rest = rw is (rw is at e)
    by_name false is rest = rw is (rest (rw is at e))

pub relvar_behind : (n : List ℕ) (rs more : List KnownRelvar) → relvar_in n rs ≡ None → relvar_in n (rs ++ more) ≡ relvar_in n more
relvar_behind n [] more e = refl
relvar_behind n (q ∷ rs) more e = by_name (same_name q.name n) refl (relvar_behind n rs more)
  where
    by_name : (b : Bool) → same_name q.name n ≡ b → (relvar_in n rs ≡ None → relvar_in n (rs ++ more) ≡ relvar_in n more)
        → relvar_in n (q ∷ (rs ++ more)) ≡ relvar_in n more
    by_name true is rest = let clash : Some q ≡ None = sym (rw is refl) ∙ e in absurd (cc)
    by_name false is rest = rw is (rest (rw is at e))

known_virtuals : (n : List ℕ) (vs : List VirtualRelvar) → relvar_in n (map known_virtual vs) ≡ option_map known_virtual (named virtual_name n vs)
known_virtuals n [] = refl
known_virtuals n (v ∷ vs) = by_test (same_name v.name n) (known_virtuals n vs)
  where
    by_test : (b : Bool) → relvar_in n (map known_virtual vs) ≡ option_map known_virtual (named virtual_name n vs)
        → (if b then Some (known_virtual v) else relvar_in n (map known_virtual vs)) ≡ option_map known_virtual (if b then Some v else named virtual_name n vs)
    by_test true rest = refl
    by_test false rest = rest

known_bases : (n : List ℕ) (bs : List BaseRelvar) (ks : List KnownRelvar)
    → relvar_in n (map known_base bs ++ ks) ≡ option_or (option_map known_base (base_among n bs)) (relvar_in n ks)
known_bases n [] ks = refl
known_bases n (b ∷ bs) ks = by_test (same_name b.name n) (known_bases n bs ks)
  where
    by_test : (t : Bool) → relvar_in n (map known_base bs ++ ks) ≡ option_or (option_map known_base (base_among n bs)) (relvar_in n ks)
        → (if t then Some (known_base b) else relvar_in n (map known_base bs ++ ks))
        ≡ option_or (option_map known_base (if t then Some b else base_among n bs)) (relvar_in n ks)
    by_test true rest = refl
    by_test false rest = rest

-- what a name finds in a database
pub known_in : (db : Database) (n : List ℕ)
    → known_relvar (database_scope db) n ≡ option_or (option_map known_base (base_named n db)) (option_map known_virtual (virtual_named n db))
known_in db n =
    known_bases n db.bases (map known_virtual db.virtuals)
    ∙ ap (option_or (option_map known_base (base_named n db))) (known_virtuals n db.virtuals)

pub known_as_base : (db : Database) (n : List ℕ) (b : BaseRelvar) → base_named n db ≡ Some b → known_relvar (database_scope db) n ≡ Some (known_base b)
known_as_base db n b is = known_in db n ∙ rw is refl

pub known_as_virtual : (db : Database) (n : List ℕ) → base_named n db ≡ None
    → known_relvar (database_scope db) n ≡ option_map known_virtual (virtual_named n db)
known_as_virtual db n none = known_in db n ∙ rw none refl

-- the name of a relvar that is known is one of the names
pub known_name : (db : Database) (n : List ℕ) → is_some (known_relvar (database_scope db) n) ≡ true → has_name n (relvar_names db) ≡ true
known_name db n k = by_base (base_named n db) refl
  where
    of_bases : is_some (base_named n db) ≡ true → has_name n (relvar_names db) ≡ true
    of_bases some = has_first n (map (λ (r : BaseRelvar). r.name) db.bases) (map virtual_name db.virtuals) (has_named (λ (r : BaseRelvar). r.name) n db.bases ∙ some)

    of_virtuals : (o : Option VirtualRelvar) → virtual_named n db ≡ o → is_some (option_map known_virtual o) ≡ true → has_name n (relvar_names db) ≡ true
    of_virtuals None is f = absurd (cc)
    of_virtuals (Some v) is f =
        has_rest n (map (λ (r : BaseRelvar). r.name) db.bases) (map virtual_name db.virtuals) (has_named virtual_name n db.virtuals ∙ ap is_some is)

    by_base : (o : Option BaseRelvar) → base_named n db ≡ o → has_name n (relvar_names db) ≡ true
    by_base (Some b) is = of_bases (ap is_some is)
    by_base None is =
        of_virtuals (virtual_named n db) refl (sym (ap is_some (known_as_virtual db n is)) ∙ k)

-- where names are distinct, a virtual relvar has the name of no base relvar
pub no_base : (db : Database) (n : List ℕ) → are_distinct (relvar_names db) ≡ true → is_some (virtual_named n db) ≡ true → base_named n db ≡ None
no_base db n d some = by_option (base_named n db) refl
  where
    none : is_some (base_named n db) ≡ false
    none =
        sym (has_named (λ (r : BaseRelvar). r.name) n db.bases)
        ∙ are_apart n (map (λ (r : BaseRelvar). r.name) db.bases) (map virtual_name db.virtuals) d (has_named virtual_name n db.virtuals ∙ some)

    by_option : (o : Option BaseRelvar) → base_named n db ≡ o → base_named n db ≡ None
    by_option None is = is
    by_option (Some b) is = absurd (true≢false (sym (ap is_some is) ∙ none))

-- ---- the first virtual relvars of a database

-- the database with these virtual relvars alone
abbrev pub fronted : Database → List VirtualRelvar → Database
fronted db front = with_virtuals front db

pub one_more_world : (db : Database) (front : List VirtualRelvar) (v : VirtualRelvar)
    → world_of (fronted db (front ++ (v ∷ []))) ≡ with_virtual_value (world_of (fronted db front)) v
one_more_world db front v = fold-append with_virtual_value (world_of_bases db) front (v ∷ [])

-- the scope with these relvars
abbrev knowing : Scope → List KnownRelvar → Scope
knowing scope relvars = record { types = scope.types; relvars = relvars; constraints = scope.constraints; entered = scope.entered }

pub one_more_scope : (db : Database) (front : List VirtualRelvar) (v : VirtualRelvar)
    → database_scope (fronted db (front ++ (v ∷ []))) ≡ with_known_relvar v.name kinds.Virtual v.heading (database_scope (fronted db front))
one_more_scope db front v =
    ap (knowing (database_scope db))
    (ap (λ ks. map known_base db.bases ++ ks) (map-append known_virtual front (v ∷ []))
    ∙ sym (append_assoc (map known_base db.bases) (map known_virtual front) (known_virtual v ∷ [])))

pub known_in_more : (db : Database) (front rest : List VirtualRelvar) (n : List ℕ) (r : KnownRelvar)
    → known_relvar (database_scope (fronted db front)) n ≡ Some r → known_relvar (database_scope (fronted db (front ++ rest))) n ≡ Some r
known_in_more db front rest n r e =
    ap (relvar_in n)
    (ap (λ ks. map known_base db.bases ++ ks) (map-append known_virtual front rest)
    ∙ sym (append_assoc (map known_base db.bases) (map known_virtual front) (map known_virtual rest)))
    ∙ relvar_more n (map known_base db.bases ++ map known_virtual front) (map known_virtual rest) r e

-- where all are known, more is
pub front_has_more : (db : Database) (front rest : List VirtualRelvar) → db.virtuals ≡ front ++ rest
    → HasMore (database_scope (fronted db front)) (database_scope db)
front_has_more db front rest e =
    record {
      types = ([], sym (append-nil db.types));
      relvars = (
        map known_virtual rest,
        ap (λ vs. map known_base db.bases ++ map known_virtual vs) e
            ∙ ap (λ ks. map known_base db.bases ++ ks) (map-append known_virtual front rest)
            ∙ sym (append_assoc (map known_base db.bases) (map known_virtual front) (map known_virtual rest)),
      );
      entered = refl;
    }

-- a name that finds nothing is that of neither a base relvar nor a virtual one
pub unknown_parts : (db : Database) (n : List ℕ) → known_relvar (database_scope db) n ≡ None → (base_named n db ≡ None) × (virtual_named n db ≡ None)
unknown_parts db n unknown = by_base (base_named n db) refl
  where
    by_virtual : base_named n db ≡ None → (o : Option VirtualRelvar) → virtual_named n db ≡ o → (base_named n db ≡ None) × (virtual_named n db ≡ None)
    by_virtual none None is = (none, is)
    by_virtual none (Some v) is =
        never_none (known_virtual v) (known_relvar (database_scope db) n) (known_as_virtual db n none ∙ ap (option_map known_virtual) is) unknown

    by_base : (o : Option BaseRelvar) → base_named n db ≡ o → (base_named n db ≡ None) × (virtual_named n db ≡ None)
    by_base None is = by_virtual is (virtual_named n db) refl
    by_base (Some b) is = never_none (known_base b) (known_relvar (database_scope db) n) (known_as_base db n b is) unknown

-- ---- values

-- what is not known has no value
pub lacking : (db : Database) (n : List ℕ) → base_named n db ≡ None → virtual_named n db ≡ None → (world_of db).relvar n ≡ None
lacking db n no_base no_virtual =
    listed_none relvar_at with_virtual_value virtual_name virtual_value (λ w v m. refl) db.virtuals (world_of_bases db) n
    (ap (option_map (λ (b : BaseRelvar). Valued (relation_value b.relation))) no_base) no_virtual

pub unknown_lacks : (db : Database) (n : List ℕ) → known_relvar (database_scope db) n ≡ None → (world_of db).relvar n ≡ None
unknown_lacks db n unknown = let parts = unknown_parts db n unknown in lacking db n parts.0 parts.1

-- a virtual relvar has the value of its expression where the earlier ones alone are known
pub virtual_at : (db : Database) (n : List ℕ) (v : VirtualRelvar) → base_named n db ≡ None → (at : NamedAt virtual_name n db.virtuals v)
    → (world_of db).relvar n ≡ Some (value_of (world_of (fronted db at.0)) [] v.tree)
virtual_at db n v none (front, rest, e, new, same) =
    ap (λ vs. (fold with_virtual_value (world_of_bases db) vs).relvar n) e
    ∙ ap (λ (w : World). w.relvar n) (fold-append with_virtual_value (world_of_bases db) front (v ∷ rest))
    ∙ relvar_stays rest (with_virtual_value (world_of (fronted db front)) v) n (value_of (world_of (fronted db front)) [] v.tree)
    (rw (lacking (fronted db front) n none new, same) refl)

-- what is known has a value
pub known_has : (db : Database) (n : List ℕ) → is_some (known_relvar (database_scope db) n) ≡ true → (o : Outcome Val) × ((world_of db).relvar n ≡ Some o)
known_has db n k = by_base (base_named n db) refl
  where
    by_virtual : base_named n db ≡ None → (o : Option VirtualRelvar) → virtual_named n db ≡ o → (o : Outcome Val) × ((world_of db).relvar n ≡ Some o)
    by_virtual none None is = absurd (true≢false (sym k ∙ ap is_some (known_as_virtual db n none) ∙ rw is refl))
    by_virtual none (Some v) is =
        let at = named_at virtual_name n db.virtuals v is in
        (value_of (world_of (fronted db at.0)) [] v.tree, virtual_at db n v none at)

    by_base : (o : Option BaseRelvar) → base_named n db ≡ o → (o : Outcome Val) × ((world_of db).relvar n ≡ Some o)
    by_base None is = by_virtual is (virtual_named n db) refl
    by_base (Some b) is = (Valued (relation_value b.relation), base_value db n b is)

-- and keeps it where more virtual relvars stand behind
pub stays_behind : (db : Database) (front rest : List VirtualRelvar) (n : List ℕ) → is_some (known_relvar (database_scope (fronted db front)) n) ≡ true
    → (world_of (fronted db (front ++ rest))).relvar n ≡ (world_of (fronted db front)).relvar n
stays_behind db front rest n k =
    let there = known_has (fronted db front) n k in
    ap (λ (w : World). w.relvar n) (fold-append with_virtual_value (world_of_bases db) front rest)
    ∙ relvar_stays rest (world_of (fronted db front)) n there.0 there.1 ∙ sym there.1
