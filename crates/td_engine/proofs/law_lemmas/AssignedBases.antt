-- Base relvars that hold what they were given, one after another in order of definition.
use Rattle.std.proofs.Common.{◌≡◌, ◌∙◌, ◌∷◌, ◌+◌, ℕ, zero, suc, Bool, true, false, List, [], Option, Some, None, ap, arith, map, refl, subst, sym, true≢false}
use Rattle.std.specs.Prelude.{◌&&◌, ◌||◌, if◌then◌else◌}
use Rattle.std.specs.List.{AllByRecursion, slice_get}
use Rattle.std.specs.Cmp.Lexicographic.{same_text}
use Rattle.td_body.specs.model.Bodies.{key_holds}
use Rattle.td_body.proofs.Held.{held_by_membership}
use Rattle.td_catalog.specs.model.Database.{BaseRelvar, Database, base_among, base_named, base_relvar, with_bases, with_relation}
use Rattle.td_catalog.specs.model.TypedDatabases.{IsTyped}
use Rattle.td_engine.specs.model.Legality.{KeysHold}
use Rattle.td_engine.proofs.law_lemmas.PassedChecks.{all_pass}
use Rattle.td_engine.specs.model.Assignments.{Given, given_to, with_assigned}
use Rattle.td_engine.specs.model.Checks.{base_check, first_refusal, keys_hold, refusal_unless_passed}
use Rattle.td_engine.specs.code.AssignedRelations.{AreAssigned, IsAssigned, assigned_bases}
use Rattle.td_engine.specs.model.Refusals.{Refusal, by_key}
use Rattle.td_eval.proofs.law_lemmas.DistinctNames.{distinct_first, first_apart}
use Rattle.td_tree.specs.model.Outcomes.{Valued}
use Rattle.td_types.proofs.HeadingLaws.{same_name-itself}
use Rattle.td_types.specs.model.Headings.{are_distinct, has_name}
use Rattle.td_types.specs.model.Types.{same_name}
use Rattle.td_value.specs.model.Values.{Relation, IsRelation}

-- ---- lists of base relvars

pub some_is : {A : Type 0} (x y : A) → Some x ≡ Some y → x ≡ y
some_is x y e = cc

abbrev pub names_of : List BaseRelvar → List (List ℕ)
names_of = map (λ r. r.name)

abbrev pub AreApart : List BaseRelvar → Type 0
AreApart bs = are_distinct (names_of bs) ≡ true

member_at : {A : Type 0} (P : A → Type 0) (xs : List A) (i : ℕ) (x : A) → slice_get xs i ≡ Some x → AllByRecursion P xs → P x
member_at P [] i x e h = absurd (cc)
member_at P (y ∷ ys) zero x e h = subst P (some_is y x e) h.0
member_at P (y ∷ ys) (suc i) x e h = member_at P ys i x e h.1

named_at : (bs : List BaseRelvar) (i : ℕ) (r : BaseRelvar) → slice_get bs i ≡ Some r → has_name r.name (names_of bs) ≡ true
named_at [] i r e = absurd (cc)
named_at (b ∷ bs) zero r e =
    subst (λ (z : BaseRelvar). has_name z.name (b.name ∷ names_of bs) ≡ true) (some_is b r e) (rw (same_name-itself b.name) refl)
named_at (b ∷ bs) (suc i) r e = by_test (same_name b.name r.name) (named_at bs i r e)
  where
    by_test : (t : Bool) → has_name r.name (names_of bs) ≡ true → (t || has_name r.name (names_of bs)) ≡ true
    by_test true h = refl
    by_test false h = h

-- one that stands later has another name than the first
other_name : (b : BaseRelvar) (bs : List BaseRelvar) (i : ℕ) (r : BaseRelvar) → AreApart (b ∷ bs) → slice_get bs i ≡ Some r → same_name b.name r.name ≡ false
other_name b bs i r d e = by_test (same_name b.name r.name) refl
  where
    by_test : (t : Bool) → same_name b.name r.name ≡ t → same_name b.name r.name ≡ false
    by_test false is = is
    by_test true is =
        let there : has_name b.name (names_of bs) ≡ true = ap (λ n. has_name n (names_of bs)) (same_text b.name r.name (sym is)) ∙ named_at bs i r e in
        absurd (true≢false (sym there ∙ (first_apart b.name (names_of bs) d).0))

pub found_at : (bs : List BaseRelvar) (i : ℕ) (r : BaseRelvar) → AreApart bs → slice_get bs i ≡ Some r → base_among r.name bs ≡ Some r
found_at [] i r d e = absurd (cc)
found_at (b ∷ bs) zero r d e =
    subst (λ (z : BaseRelvar). (if same_name b.name z.name then Some b else base_among z.name bs) ≡ Some z) (some_is b r e)
    (rw (same_name-itself b.name) refl)
found_at (b ∷ bs) (suc i) r d e = rw (other_name b bs i r d e) (found_at bs i r (first_apart b.name (names_of bs) d).1 e)

module _ (given : Given) where
  pub given_none : (r : BaseRelvar) → given_to r.name given ≡ None → with_assigned given r ≡ r
  given_none r e = rw (with_assigned, e) refl

  pub given_some : (r : BaseRelvar) (q : Relation) → given_to r.name given ≡ Some q → with_assigned given r ≡ base_relvar r.name r.keys q
  given_some r q e = rw (with_assigned, e) refl

  pub same_named : (r : BaseRelvar) → (with_assigned given r).name ≡ r.name
  same_named r = by_assigned (given_to r.name given) refl
    where
      by_assigned : (o : Option Relation) → given_to r.name given ≡ o → (with_assigned given r).name ≡ r.name
      by_assigned None e = ap (λ (b : BaseRelvar). b.name) (given_none r e)
      by_assigned (Some q) e = ap (λ (b : BaseRelvar). b.name) (given_some r q e)

  other_assigned : (b : BaseRelvar) (bs : List BaseRelvar) (i : ℕ) (r : BaseRelvar) → AreApart (b ∷ bs) → slice_get bs i ≡ Some r
      → same_name (with_assigned given b).name r.name ≡ false
  other_assigned b bs i r d e = ap (λ n. same_name n r.name) (same_named b) ∙ other_name b bs i r d e

  found_next : (bs : List BaseRelvar) (i : ℕ) (r : BaseRelvar) → AreApart bs → slice_get bs i ≡ Some r → base_among r.name (assigned_bases given i bs) ≡ Some r
  found_next [] i r d e = absurd (cc)
  found_next (b ∷ bs) zero r d e = found_at (b ∷ bs) zero r d e
  found_next (b ∷ bs) (suc i) r d e = rw (other_assigned b bs i r d e) (found_next bs i r (first_apart b.name (names_of bs) d).1 e)

  put_next : (bs : List BaseRelvar) (i : ℕ) (r : BaseRelvar) (q : Relation) → AreApart bs → slice_get bs i ≡ Some r → given_to r.name given ≡ Some q
      → with_relation r.name q (assigned_bases given i bs) ≡ assigned_bases given (suc i) bs
  put_next [] i r q d e k = absurd (cc)
  put_next (b ∷ bs) zero r q d e k =
      let same = some_is b r e in
      subst (λ (z : BaseRelvar). with_relation z.name q (b ∷ bs) ≡ with_assigned given b ∷ bs) same
      (rw (same_name-itself b.name) (ap (λ c. c ∷ bs) (sym (given_some b q (ap (λ (z : BaseRelvar). given_to z.name given) same ∙ k)))))
  put_next (b ∷ bs) (suc i) r q d e k =
      rw (other_assigned b bs i r d e) (ap (λ cs. with_assigned given b ∷ cs) (put_next bs i r q (first_apart b.name (names_of bs) d).1 e k))

  skip_next : (bs : List BaseRelvar) (i : ℕ) (r : BaseRelvar) → slice_get bs i ≡ Some r → given_to r.name given ≡ None
      → assigned_bases given i bs ≡ assigned_bases given (suc i) bs
  skip_next [] i r e k = absurd (cc)
  skip_next (b ∷ bs) zero r e k =
      let same = some_is b r e in
      ap (λ c. c ∷ bs) (sym (given_none b (ap (λ (z : BaseRelvar). given_to z.name given) same ∙ k)))
  skip_next (b ∷ bs) (suc i) r e k = ap (λ cs. with_assigned given b ∷ cs) (skip_next bs i r e k)

  one_more : (bs : List BaseRelvar) (i : ℕ) → assigned_bases given (suc i) bs ≡ assigned_bases given (i + 1) bs
  one_more bs i = ap (λ n. assigned_bases given n bs) next
    where
      next : suc i ≡ i + 1
      next = omega arith

-- ---- keys

pub keys_that_hold : (keys : List (List (List ℕ))) (r : Relation) → IsRelation r → keys_hold keys r.body ≡ true → KeysHold keys r.body
keys_that_hold [] r is h = tt
keys_that_hold (key ∷ keys) r is h =
    ((held_by_membership key r is).0 (both_true (key_holds key r.body) (keys_hold keys r.body) h).0, keys_that_hold keys r is (both_true (key_holds key r.body) (keys_hold keys r.body) h).1)
  where
    both_true : (a b : Bool) → (a && b) ≡ true → (a ≡ true) × (b ≡ true)
    both_true true true e = (refl, refl)
    both_true true false e = absurd (cc)
    both_true false b e = absurd (cc)

passed : (refusal : Refusal) (b : Bool) → refusal_unless_passed refusal (Valued b) ≡ None → b ≡ true
passed refusal true e = refl
passed refusal false e = absurd (cc)

pub checked_keys : (r : BaseRelvar) → IsRelation r.relation → base_check r ≡ None → KeysHold r.keys r.relation.body
checked_keys r is e = keys_that_hold r.keys r.relation is (passed (by_key r.name) (keys_hold r.keys r.relation.body) e)

-- ---- one base relvar of a typed database

module _ (db : Database) (given : Given) (is_typed : IsTyped db) (i : ℕ) (r : BaseRelvar) (at : slice_get db.bases i ≡ Some r) where
  apart : AreApart db.bases
  apart = distinct_first (names_of db.bases) (map (λ v. v.name) db.virtuals) is_typed.distinct

  pub found : base_named r.name db ≡ Some r
  found = found_at db.bases i r apart at

  pub still_found : base_named r.name (with_bases (assigned_bases given i db.bases) db) ≡ Some r
  still_found = found_next given db.bases i r apart at

  pub skipped : given_to r.name given ≡ None → with_bases (assigned_bases given i db.bases) db ≡ with_bases (assigned_bases given (i + 1) db.bases) db
  skipped k = ap (λ bs. with_bases bs db) (skip_next given db.bases i r at k ∙ one_more given db.bases i)

  pub put : (q : Relation) → given_to r.name given ≡ Some q
      → with_bases (with_relation r.name q (assigned_bases given i db.bases)) db ≡ with_bases (assigned_bases given (i + 1) db.bases) db
  put q k = ap (λ bs. with_bases bs db) (put_next given db.bases i r q apart at k ∙ one_more given db.bases i)

  pub skipped_passes : first_refusal base_check db.bases ≡ None → given_to r.name given ≡ None → base_check (with_assigned given r) ≡ None
  skipped_passes held k = ap base_check (given_none given r k) ∙ member_at (λ b. base_check b ≡ None) db.bases i r at (all_pass base_check (λ b. base_check b ≡ None) (λ b e. e) db.bases held)

  pub put_check : (q : Relation) → given_to r.name given ≡ Some q → base_check (with_assigned given r) ≡ base_check (base_relvar r.name r.keys q)
  put_check q k = ap base_check (given_some given r q k)

-- ---- what a target was given

pub assigned_to : (db : Database) (given : Given) (n : List ℕ) (q : Relation) → AreAssigned db given → given_to n given ≡ Some q → IsAssigned db (n, q)
assigned_to db [] n q h e = absurd (cc)
assigned_to db (g ∷ gs) n q h e = by_test (same_name n g.0) refl (assigned_to db gs n q h.1)
  where
    by_test : (t : Bool) → same_name n g.0 ≡ t → (given_to n gs ≡ Some q → IsAssigned db (n, q)) → IsAssigned db (n, q)
    by_test true is rest =
        let name : g.0 ≡ n = sym (same_text n g.0 (sym is)) in
        let relation : g.1 ≡ q = some_is g.1 q (rw is at e) in
        let same : g ≡ (n, q) = λ i. (name i, relation i) in
        subst (IsAssigned db) same h.0
    by_test false is rest = rest (rw is at e)

pub assigned_heading : (db : Database) (given : Given) (n : List ℕ) (q : Relation) (r : BaseRelvar) → AreAssigned db given → given_to n given ≡ Some q
    → base_named n db ≡ Some r → q.heading ≡ r.relation.heading
assigned_heading db given n q r h e is =
    let assigned = assigned_to db given n q h e in
    assigned.heading ∙ ap (λ (b : BaseRelvar). b.relation.heading) (some_is assigned.target r (sym assigned.named ∙ is))
