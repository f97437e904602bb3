-- What is checked after a definition in a legal database: what is new, and nothing else.
use Rattle.std.proofs.Common.{◌≡◌, ◌∙◌, ◌∷◌, ◌++◌, ◌-◌, ◌+◌, ℕ, List, [], None, Option, Some, Result, arith, ap, length, map, not, refl, subst, sym, true}
use Rattle.std.proofs.lemmas.List.{length-append}
use Rattle.std.specs.List.{slice_get}
use Rattle.std.specs.Prelude.{is_some, ⊤}
use Rattle.td_catalog.specs.model.Database.{BaseRelvar, Database, NamedConstraint, VirtualRelvar, database_scope, knows_relvar, virtual_relvar, with_base, with_constraint, with_declared, with_virtual}
use Rattle.td_catalog.specs.model.Dumps.{ordered_names}
use Rattle.td_check.specs.model.OperatorTypes.{over_relation}
use Rattle.td_check.specs.model.Scopes.{known_relvar}
use Rattle.td_check.specs.model.StatementTypes.{components_meant, holds_or}
use Rattle.td_check.specs.model.StaticTypes.{type_of}
use Rattle.td_engine.proofs.law_lemmas.Admitted.{both_asked, free_in, is_held}
use Rattle.td_engine.proofs.code_lemmas.LaterChecks.{base_passes, constraint_decides, type_passes, virtual_decides}
use Rattle.td_engine.proofs.law_lemmas.Settled.{bases_hold, held_with_base, settled, settled_or}
use Rattle.td_engine.specs.code.Carried.{Changes, IsAdmitted, Passes}
use Rattle.td_engine.specs.model.Checks.{BasesHold, constraint_check, derived_check, keys_hold, virtual_check}
use Rattle.td_engine.specs.model.Legality.{IsLegal}
use Rattle.td_engine.specs.model.Machine.{Accepted, by_outcome, checked_effect, ok_text, type_defined, virtual_defined}
use Rattle.td_engine.specs.declared.refusal.Failure.{Failure}
use Rattle.td_eval.specs.model.DatabaseWorlds.{world_of}
use Rattle.td_tree.specs.model.Outcomes.{Valued}
use Rattle.td_tree.specs.model.Trees.{AttributeTrees, Text, Tree, define_virtual}
use Rattle.td_tree.specs.declared.cause.Cause.TheVariants as causes
use Rattle.td_types.proofs.OutcomeLaws.{valued_is, value_of_with}
use Rattle.td_types.specs.model.TypeLists.{declared_type}
use Rattle.td_types.specs.model.Types.{Type', boolean, char, integer, relation, tuple, unpack, user}

-- the one behind a list
behind_all : {A : Type 0} (xs : List A) (x : A) → slice_get (xs ++ (x ∷ [])) (length xs) ≡ Some x
behind_all [] x = refl
behind_all (y ∷ ys) x = behind_all ys x

-- the last of a list
pub last_of : {A : Type 0} (xs : List A) (x : A) → slice_get (xs ++ (x ∷ [])) (length (xs ++ (x ∷ [])) - 1) ≡ Some x
last_of xs x = ap (λ n. slice_get (xs ++ (x ∷ [])) (n - 1)) (length-append xs (x ∷ [])) ∙ ap (slice_get (xs ++ (x ∷ []))) (one_less (length xs)) ∙ behind_all xs x
  where
    one_less : (n : ℕ) → n + 1 - 1 ≡ n
    one_less n = omega arith

module _ (db : Database) (legal : IsLegal db) where
  new_relvar : (n : Text) → holds_or causes.NameTaken (not (is_some (known_relvar (database_scope db) n))) ≡ Valued tt → not (knows_relvar n db) ≡ true
  new_relvar n e = is_held causes.NameTaken (not (knows_relvar n db)) (free_in db n e)

  -- after a type nothing
  pub type_changed : (next : Database) (n : Text) (cs : AttributeTrees) (k : Option Tree) → type_defined db n cs k ≡ Valued next → BasesHold next
      → by_outcome (type_defined db n cs k) checked_effect ≡ Accepted next ok_text
  type_changed next n cs k e held =
      let at = value_of_with (components_meant db.types cs) _ next e in
      let d = declared_type n at.0 k in
      let same : with_declared d db ≡ next = valued_is (with_declared d db) next at.2 in
      ap (λ o. by_outcome o checked_effect) e ∙ settled next held (subst (λ (m : Database). derived_check m ≡ None) same (type_passes db legal d))

  -- after a base relvar its keys
  pub base_changed : (b : BaseRelvar) → not (knows_relvar b.name db) ≡ true → keys_hold b.keys b.relation.body ≡ true → checked_effect (with_base b db) ≡ Accepted (with_base b db) ok_text
  base_changed b new hold = settled (with_base b db) (held_with_base db b (bases_hold db legal) hold) (base_passes db legal b new)

  -- after a virtual relvar its own keys
  module _ (next : Database) (n : Text) (x : Tree) (keys : List (List Text)) (is : IsAdmitted db (define_virtual n x keys)) (r : Result ⊤ Failure) (held : BasesHold next)
      (tests : (earlier : Database) (v : VirtualRelvar) → next ≡ with_virtual v earlier → Passes r (virtual_check (world_of next) v)) where
    by_type : (t : Type') → over_relation t (λ h. Valued (with_virtual (virtual_relvar n h x (map (ordered_names h) keys)) db)) ≡ Valued next → Changes next r (checked_effect next)
    by_type (relation g) f =
        let v = virtual_relvar n (unpack g) x (map (ordered_names (unpack g)) keys) in
        let same : with_virtual v db ≡ next = valued_is (with_virtual v db) next f in
        let new : not (knows_relvar n db) ≡ true = new_relvar n (both_asked _ _ is.checked).0 in
        let decides : derived_check next ≡ virtual_check (world_of next) v =
        subst (λ (m : Database). derived_check m ≡ virtual_check (world_of m) v) same (virtual_decides db legal v new) in
        settled_or next r held (subst (Passes r) (sym decides) (tests db v (sym same)))
    by_type boolean f = absurd (cc)
    by_type integer f = absurd (cc)
    by_type char f = absurd (cc)
    by_type (user m) f = absurd (cc)
    by_type (tuple g) f = absurd (cc)

    pub virtual_changed : virtual_defined db n x keys ≡ Valued next → Changes next r (by_outcome (virtual_defined db n x keys) checked_effect)
    virtual_changed e =
        let t = value_of_with (type_of (database_scope db) x) _ next e in
        subst (λ o. Changes next r (by_outcome o checked_effect)) (sym e) (by_type t.0 t.2)

  -- after a constraint itself
  pub constraint_changed : (next : Database) (c : NamedConstraint) → with_constraint c db ≡ next → (r : Result ⊤ Failure) → BasesHold next
      → ((earlier : Database) (k : NamedConstraint) → next ≡ with_constraint k earlier → Passes r (constraint_check (world_of next) k))
      → Changes next r (checked_effect (with_constraint c db))
  constraint_changed next c same r held tests =
      let decides : derived_check next ≡ constraint_check (world_of next) c =
      subst (λ (m : Database). derived_check m ≡ constraint_check (world_of m) c) same (constraint_decides db legal c) in
      subst (λ (m : Database). Changes next r (checked_effect m)) (sym same) (settled_or next r held (subst (Passes r) (sym decides) (tests db c (sym same))))
