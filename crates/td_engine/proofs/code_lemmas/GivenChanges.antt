-- What targets were given by changes of what they held, as a map by name.
use Rattle.std.proofs.Common.{◌≡◌, ◌∙◌, ◌∷◌, ℕ, Bor, Bool, true, false, List, [], Option, Some, None, ap, arith, inr, length, refl, subst, sym}
use Rattle.std.specs.Cmp.Lexicographic.{same_text}
use Rattle.std.specs.List.{AllByRecursion}
use Rattle.std.specs.Map.{lookup}
use Rattle.std.specs.Map.Iter.{deref_pair}
use Rattle.std.specs.Prelude.{IfSome, if◌then◌else◌, option_map, slice_get}
use Rattle.indexmap.specs.IndexMap.{insert_entry}
use Rattle.td_algebra.specs.model.Operators.{difference, union}
use Rattle.td_catalog.specs.model.Database.{BaseRelvar, Database, base_named}
use Rattle.td_catalog.specs.model.TypedDatabases.{AreTyped}
use Rattle.td_engine.proofs.law_lemmas.AssignedBases.{some_is}
use Rattle.td_engine.specs.model.Assignments.{given_to, with_given}
use Rattle.td_engine.specs.code.Changes.{AreChanges, AreTypedChanges, IsChangeOf, IsTypedChange, changed_by, given_as, given_in}
use Rattle.td_engine.specs.code.AssignedRelations.{AreAssigned, IsAssigned}
use Rattle.td_engine.specs.declared.change.Change.{Change}
use Rattle.td_eval.proofs.code_lemmas.KeepsGathered.{has_type_members}
use Rattle.td_types.specs.model.TypeLists.{DeclaredType}
use Rattle.td_types.specs.model.Types.{Heading, pack, same_name}
use Rattle.td_value.proofs.Members.{joined_members}
use Rattle.td_value.specs.model.KnownValues.{HasHeading}
use Rattle.td_value.specs.model.Values.{Relation, pack_fields}

-- ---- entries by name

module _ {A : Type 0} (P : List ℕ × A → Type 0) where
  -- one is put in
  pub all_with : (es : List (List ℕ × A)) (n : List ℕ) (c : A) → AllByRecursion P es → P (n, c) → AllByRecursion P (insert_entry same_name es n c)
  all_with [] n c all p = (p, tt)
  all_with (e ∷ es) n c all p = by_test (same_name n e.0) refl (all_with es n c all.1 p)
    where
      by_test : (b : Bool) → same_name n e.0 ≡ b → AllByRecursion P (insert_entry same_name es n c)
          → AllByRecursion P (if b then (e.0, c) ∷ es else e ∷ insert_entry same_name es n c)
      by_test true is rest = (subst (λ m. P (m, c)) (same_text n e.0 (sym is)) p, all.1)
      by_test false is rest = (all.0, rest)

  -- one is found
  pub found_in : (es : List (List ℕ × A)) (n : List ℕ) (c : A) → AllByRecursion P es → lookup (same_name n) es ≡ Some c → P (n, c)
  found_in [] n c all e = absurd (cc)
  found_in (x ∷ es) n c all e = by_test (same_name n x.0) refl (found_in es n c all.1)
    where
      by_test : (b : Bool) → same_name n x.0 ≡ b → (lookup (same_name n) es ≡ Some c → P (n, c)) → P (n, c)
      by_test true is rest =
          let name : x.0 ≡ n = sym (same_text n x.0 (sym is)) in
          let value : x.1 ≡ c = some_is x.1 c (rw is at e) in
          let same : x ≡ (n, c) = λ i. (name i, value i) in
          subst P same all.0
      by_test false is rest = rest (rw is at e)

-- the only entry
pub one_entry : {K V : Type 0} (es : List (K × V)) (o : Option (Bor K × Bor V)) → option_map deref_pair o ≡ slice_get es 0 → length es ≡ 1
    → IfSome o (λ e. es ≡ (e.0.now, e.1.now) ∷ [])
one_entry es None at count = tt
one_entry [] (Some e) at count = absurd (cc)
one_entry (x ∷ []) (Some e) at count = let same : (e.0.now, e.1.now) ≡ x = some_is (e.0.now, e.1.now) x at in ap (λ y. y ∷ []) (sym same)
one_entry (x ∷ y ∷ es) (Some e) at count = absurd (omega (arith, count))

-- ---- what they stand for

module _ (db : Database) where
  pub given_with : (es : List (List ℕ × Change)) (n : List ℕ) (c : Change) → given_in db (insert_entry same_name es n c) ≡ with_given n (given_as db n c) (given_in db es)
  given_with [] n c = refl
  given_with (e ∷ es) n c = by_test (same_name n e.0) refl (given_with es n c)
    where
      by_test : (b : Bool) → same_name n e.0 ≡ b → given_in db (insert_entry same_name es n c) ≡ with_given n (given_as db n c) (given_in db es)
          → given_in db (if b then (e.0, c) ∷ es else e ∷ insert_entry same_name es n c)
          ≡ (if b then (e.0, given_as db n c) ∷ given_in db es else (e.0, given_as db e.0 e.1) ∷ with_given n (given_as db n c) (given_in db es))
      by_test true is rest = ap (λ m. (e.0, given_as db m c) ∷ given_in db es) (sym (same_text n e.0 (sym is)))
      by_test false is rest = ap (λ gs. (e.0, given_as db e.0 e.1) ∷ gs) rest

  pub given_found : (es : List (List ℕ × Change)) (n : List ℕ) → given_to n (given_in db es) ≡ option_map (given_as db n) (lookup (same_name n) es)
  given_found [] n = refl
  given_found (e ∷ es) n = by_test (same_name n e.0) refl (given_found es n)
    where
      by_test : (b : Bool) → same_name n e.0 ≡ b → given_to n (given_in db es) ≡ option_map (given_as db n) (lookup (same_name n) es)
          → (if b then Some (given_as db e.0 e.1) else given_to n (given_in db es))
          ≡ option_map (given_as db n) (if b then Some e.1 else lookup (same_name n) es)
      by_test true is rest = ap (λ m. Some (given_as db m e.1)) (sym (same_text n e.0 (sym is)))
      by_test false is rest = rest

  -- of a base relvar
  pub given_of : (n : List ℕ) (c : Change) (r : BaseRelvar) → base_named n db ≡ Some r → given_as db n c ≡ changed_by c r.relation
  given_of n c r e = rw (given_as, e) refl

  -- ---- types

  -- what came in is typed where the relation with it is
  added_typed : (ds : List DeclaredType) (q add : Relation) → add.heading ≡ q.heading → AreTyped ds (union q add) → AreTyped ds add
  added_typed ds q add e typed =
      let all = (has_type_members ds (union q add).body (pack q.heading)).0 typed in
      (has_type_members ds add.body (pack add.heading)).1
      (λ t c. subst (λ (h : Heading). HasHeading ds (pack_fields t) (pack h)) (sym e) (all t ((joined_members q.body add.body t).1 (inr c))))

  one_typed : (e : List ℕ × Change) → IsChangeOf db e → IsAssigned db (e.0, given_as db e.0 e.1) → IsTypedChange db e
  one_typed e is assigned =
      let r = is.target.relation in
      let typed : AreTyped db.types (changed_by e.1 r) = subst (AreTyped db.types) (given_of e.0 e.1 is.target is.named) assigned.typed in
      record { is = is; typed = added_typed db.types (difference r e.1.out) e.1.add is.headings.1 typed }

  pub all_typed : (es : List (List ℕ × Change)) → AreChanges db es → AreAssigned db (given_in db es) → AreTypedChanges db es
  all_typed [] all all_assigned = tt
  all_typed (e ∷ es) all all_assigned = (one_typed e all.0 all_assigned.0, all_typed es all.1 all_assigned.1)

-- it is one of another database of the same types that is the same there
pub still_change : (db other : Database) (n : List ℕ) (c : Change) (r : BaseRelvar) → other.types ≡ db.types → base_named n db ≡ Some r → base_named n other ≡ Some r
    → IsTypedChange db (n, c) → IsTypedChange other (n, c)
still_change db other n c r types here there change =
    record {
      is = record { target = change.is.target; named = there ∙ sym here ∙ change.is.named; headings = change.is.headings };
      typed = subst (λ ds. AreTyped ds c.add) (sym types) change.typed;
    }
