-- Assignments of which one base relvar alone is the target.
use Rattle.std.proofs.Common.{◌≡◌, ◌∙◌, ◌∷◌, ℕ, Bool, true, false, List, [], Option, Some, None, ap, map, refl, sym}
use Rattle.std.specs.Option.{option_or}
use Rattle.std.specs.Prelude.{◌||◌, if◌then◌else◌}
use Rattle.td_catalog.specs.model.Database.{BaseRelvar, Database, base_among, base_named, base_relvar, with_bases, with_body, with_relation}
use Rattle.td_catalog.specs.model.TypedDatabases.{IsTyped}
use Rattle.td_engine.proofs.law_lemmas.AssignedBases.{AreApart, names_of, some_is}
use Rattle.td_engine.proofs.law_lemmas.PassedChecks.{neither_there}
use Rattle.td_engine.specs.model.Assignments.{Given, with_assigned, with_all_assigned}
use Rattle.td_engine.specs.model.Checks.{BasesHold, base_check, first_refusal}
use Rattle.td_engine.specs.model.Refusals.{Refusal}
use Rattle.td_eval.proofs.law_lemmas.DistinctNames.{distinct_first, first_apart}
use Rattle.std.specs.Cmp.Lexicographic.{same_text}
use Rattle.td_types.specs.model.Headings.{has_name}
use Rattle.td_types.specs.model.Types.{same_name}
use Rattle.td_value.specs.model.Values.{Relation}

module _ (n : List ℕ) (q : Relation) where
  abbrev alone : Given
  alone = (n, q) ∷ []

  other_stays : (r : BaseRelvar) → same_name r.name n ≡ false → with_assigned alone r ≡ r
  other_stays r e = rw (with_assigned, e) refl

  -- where none has the name nothing changes
  none_named : (bs : List BaseRelvar) → has_name n (names_of bs) ≡ false → map (with_assigned alone) bs ≡ bs
  none_named [] e = refl
  none_named (b ∷ bs) e = by_tests (same_name b.name n) (has_name n (names_of bs)) refl refl e (none_named bs)
    where
      by_tests : (s t : Bool) → same_name b.name n ≡ s → has_name n (names_of bs) ≡ t → (s || t) ≡ false
          → (has_name n (names_of bs) ≡ false → map (with_assigned alone) bs ≡ bs) → map (with_assigned alone) (b ∷ bs) ≡ b ∷ bs
      by_tests false false is there f rest = λ i. other_stays b is i ∷ rest there i
      by_tests false true is there f rest = absurd (cc)
      by_tests true t is there f rest = absurd (cc)

  -- the first of the name takes the relation, and it is the only one
  one_given : (bs : List BaseRelvar) → AreApart bs → map (with_assigned alone) bs ≡ with_relation n q bs
  one_given [] apart = refl
  one_given (b ∷ bs) apart = by_test (same_name b.name n) refl (one_given bs (first_apart b.name (names_of bs) apart).1)
    where
      by_test : (t : Bool) → same_name b.name n ≡ t → map (with_assigned alone) bs ≡ with_relation n q bs
          → map (with_assigned alone) (b ∷ bs) ≡ (if t then base_relvar b.name b.keys q ∷ bs else b ∷ with_relation n q bs)
      by_test true is rest =
          let none : has_name n (names_of bs) ≡ false = ap (λ m. has_name m (names_of bs)) (sym (same_text b.name n (sym is))) ∙ (first_apart b.name (names_of bs) apart).0 in
          let given : with_assigned alone b ≡ base_relvar b.name b.keys q = rw (with_assigned, is) refl in
          λ i. given i ∷ none_named bs none i
      by_test false is rest = λ i. other_stays b is i ∷ rest i

  or_none : (o : Option Refusal) → option_or o None ≡ o
  or_none None = refl
  or_none (Some r) = refl

  -- it alone is checked anew
  one_checked : (bs : List BaseRelvar) (r : BaseRelvar) → base_among n bs ≡ Some r → first_refusal base_check bs ≡ None
      → first_refusal base_check (with_relation n q bs) ≡ base_check (base_relvar r.name r.keys q)
  one_checked [] r e held = absurd (cc)
  one_checked (b ∷ bs) r e held = by_test (same_name b.name n) refl (one_checked bs r)
    where
      by_test : (t : Bool) → same_name b.name n ≡ t
          → (base_among n bs ≡ Some r → first_refusal base_check bs ≡ None → first_refusal base_check (with_relation n q bs) ≡ base_check (base_relvar r.name r.keys q))
          → first_refusal base_check (if t then base_relvar b.name b.keys q ∷ bs else b ∷ with_relation n q bs) ≡ base_check (base_relvar r.name r.keys q)
      by_test true is rest =
          ap (option_or (base_check (base_relvar b.name b.keys q))) (neither_there (base_check b) (first_refusal base_check bs) held).1 ∙ or_none (base_check (base_relvar b.name b.keys q))
          ∙ ap (λ (c : BaseRelvar). base_check (base_relvar c.name c.keys q)) (some_is b r (rw is at e))
      by_test false is rest = ap (λ o. option_or o (first_refusal base_check (with_relation n q bs))) (neither_there (base_check b) (first_refusal base_check bs) held).0
          ∙ rest (rw is at e) (neither_there (base_check b) (first_refusal base_check bs) held).1

  -- the database with it
  pub alone_given : (db : Database) → IsTyped db → with_all_assigned alone db ≡ with_body n q db
  alone_given db typed =
      ap (λ bs. with_bases bs db) (one_given db.bases (distinct_first (names_of db.bases) (map (λ v. v.name) db.virtuals) typed.distinct))

  pub alone_checked : (db : Database) (r : BaseRelvar) → IsTyped db → BasesHold db → base_named n db ≡ Some r
      → first_refusal base_check (with_all_assigned alone db).bases ≡ base_check (base_relvar r.name r.keys q)
  alone_checked db r typed held is = ap (λ (d : Database). first_refusal base_check d.bases) (alone_given db typed) ∙ one_checked db.bases r is held
