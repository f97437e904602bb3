-- An accepted statement keeps a database legal.
use Rattle.std.proofs.Common.{◌≡◌, ◌∙◌, ◌∷◌, ◌++◌, ℕ, Bool, true, false, List, [], Option, None, ap, map, not, subst}
use Rattle.std.specs.List.{AllByRecursion}
use Rattle.td_catalog.proofs.EntriesLess.{drops_keep}
use Rattle.td_catalog.proofs.Lists.{not_true}
use Rattle.td_catalog.specs.model.Database.{BaseRelvar, Database, base_relvar, database_scope, knows_relvar, named_constraint, virtual_relvar, with_base, with_constraint, with_declared, with_virtual, without_constraint, without_relvar, without_type}
use Rattle.td_catalog.specs.model.Dumps.{dump_text, ordered_names}
use Rattle.td_catalog.specs.model.Mentioned.{constraint_droppable, is_relvar_in_use, is_type_in_use, relvar_droppable, type_droppable, drop_outcome}
use Rattle.td_check.specs.model.OperatorTypes.{over_relation}
use Rattle.td_check.specs.model.StatementTypes.{components_meant, holds_or, statement_checked}
use Rattle.td_check.specs.model.StaticTypes.{type_of}
use Rattle.td_engine.proofs.law_lemmas.Effects.{accepted_is, changed_to, dropped_to, followed}
use Rattle.td_engine.proofs.law_lemmas.GivenRelations.{init_meets}
use Rattle.td_engine.proofs.law_lemmas.OrderedKeys.{keys_stay}
use Rattle.td_engine.proofs.law_lemmas.PassedChecks.{all_pass, neither_there, passed, passed_test}
use Rattle.td_engine.proofs.law_lemmas.LegalChanges.{legal_with_base, legal_with_constraint, legal_with_all_assigned, legal_with_type, legal_with_virtual, legal_without_constraint, legal_without_relvar, legal_without_type, world_gives}
use Rattle.td_engine.proofs.law_lemmas.SpelledParts.{constraint_spelled, type_spelled, virtual_spelled}
use Rattle.td_engine.proofs.law_lemmas.TypedAfter.{base_after, constraint_after, all_assigned_ruled, all_assigned_typed, type_after, virtual_after}
use Rattle.td_engine.proofs.law_lemmas.TypedAssigned.{given_typed}
use Rattle.td_engine.proofs.law_lemmas.WrittenStatements.{statement_written}
use Rattle.td_engine.specs.model.Assignments.{assigned_database, given_by, with_all_assigned}
use Rattle.td_engine.specs.code.Carried.{IsAdmitted}
use Rattle.td_engine.specs.model.Checks.{base_check, database_check, derived_check, first_refusal, keys_hold}
use Rattle.td_engine.specs.model.Legality.{IsLegal}
use Rattle.td_engine.specs.laws.LegalityLaws.{AcceptedStatementsKeepLegality}
use Rattle.td_engine.specs.model.Machine.{Accepted, base_defined, by_outcome, carried_out, checked_effect, constraint_dropped, init_relation, ok_text, relvar_dropped, type_defined, type_dropped, unchecked_effect, virtual_defined}
use Rattle.td_engine.specs.model.Refusals.{by_key, line}
use Rattle.td_eval.specs.model.DatabaseWorlds.{world_of}
use Rattle.td_eval.specs.model.TreeValues.{value_of}
use Rattle.td_tree.specs.model.Outcomes.{Valued, with_value}
use Rattle.td_tree.specs.model.Trees.{AttributeTrees, Text, Tree, Assignment, Statement, empty, define_type, drop_type, define_base, define_virtual, drop_var, define_constraint, drop_constraint, assign_all, begin_transaction, commit, rollback, write, dump}
use Rattle.td_tree.specs.declared.cause.Cause.TheVariants as causes
use Rattle.td_types.proofs.OutcomeLaws.{value_of_test, value_of_with, valued_is}
use Rattle.td_types.specs.model.Headings.{are_distinct}
use Rattle.td_types.specs.model.TypeLists.{attributes_meant, declared_type, heading_meant, is_declared}
use Rattle.td_types.specs.model.Types.{Type', attribute_names, boolean, char, integer, relation, tuple, unpack, user}
use Rattle.td_value.specs.model.Literal.{literal}

-- ---- checks that were passed

-- those of base relvars
bases_passed : (made : Database) → database_check made ≡ None → AllByRecursion (λ b. base_check b ≡ None) made.bases
bases_passed made e =
    all_pass base_check (λ b. base_check b ≡ None) (λ b is. is) made.bases (neither_there (first_refusal base_check made.bases) (derived_check made) e).0

last_of : {A : Type 0} (P : A → Type 0) (xs : List A) (x : A) → AllByRecursion P (xs ++ (x ∷ [])) → P x
last_of P [] x h = h.0
last_of P (y ∷ ys) x h = last_of P ys x h.1

-- the keys of a base relvar that is new
new_keys_hold : (db : Database) (b : BaseRelvar) → database_check (with_base b db) ≡ None → keys_hold b.keys b.relation.body ≡ true
new_keys_hold db b e =
    let last = last_of (λ r. base_check r ≡ None) db.bases b (bases_passed (with_base b db) e) in
    valued_is (keys_hold b.keys b.relation.body) true (passed_test (by_key b.name) (Valued (keys_hold b.keys b.relation.body)) last)

-- what may be dropped is not in use
not_used : (there used : Bool) → drop_outcome there used ≡ Valued tt → used ≡ false
not_used there used e =
    let rest = value_of_with (holds_or causes.NameUnknown there) (λ _. holds_or causes.InUse (not used)) tt e in
    not_true used (value_of_test (not used) tt tt causes.InUse rest.2).0

-- ---- statements

module _ (db new : Database) (text : List ℕ) (legal : IsLegal db) where
  -- a change that was checked
  settled_legal : (made : Database) → checked_effect made ≡ Accepted new text → (database_check made ≡ None → IsLegal made) → IsLegal new
  settled_legal made e f = let is = changed_to made new text e in subst IsLegal is.0 (f is.1)

  -- a change that no check follows
  dropped_legal : (made : Database) → unchecked_effect made ≡ Accepted new text → IsLegal made → IsLegal new
  dropped_legal made e is = subst IsLegal (dropped_to made new text e) is

  -- what is printed changes nothing
  printed_legal : (printed : List ℕ) → Accepted db printed ≡ Accepted new text → IsLegal new
  printed_legal printed e = subst IsLegal (accepted_is db new printed text e) legal

  -- a type
  type_legal : (n : Text) (cs : AttributeTrees) (k : Option Tree) → IsAdmitted db (define_type n cs k) → by_outcome (type_defined db n cs k) checked_effect ≡ Accepted new text → IsLegal new
  type_legal n cs k is e =
      let made = followed (type_defined db n cs k) checked_effect new text e in
      let xs = value_of_with (components_meant db.types cs) _ made.0 made.1 in
      let inner = value_of_with (attributes_meant db.types cs) _ xs.0 xs.1 in
      let test = value_of_test (are_distinct (attribute_names inner.0)) inner.0 xs.0 causes.Heading inner.2 in
      let d = declared_type n xs.0 k in
      let same : with_declared d db ≡ made.0 = valued_is (with_declared d db) made.0 xs.2 in
      let after = type_after db legal n cs k xs.0 is (inner.1 ∙ ap Valued test.1) in
      settled_legal (with_declared d db) (ap checked_effect same ∙ made.2)
      (λ none. legal_with_type db legal d (type_spelled n cs k is.spelled) after.0 after.1 (passed (with_declared d db) none))

  -- a base relvar
  base_legal : (n : Text) (h : AttributeTrees) (init : Option Tree) (keys : List (List Text)) → IsAdmitted db (define_base n h init keys)
      → by_outcome (base_defined db n h init keys) checked_effect ≡ Accepted new text → IsLegal new
  base_legal n h init keys is e =
      let made = followed (base_defined db n h init keys) checked_effect new text e in
      let r = value_of_with (with_value (heading_meant db.types h) (init_relation db init)) _ made.0 made.1 in
      let g = value_of_with (heading_meant db.types h) (init_relation db init) r.0 r.1 in
      let b = base_relvar n (map (ordered_names r.0.heading) keys) r.0 in
      let same : with_base b db ≡ made.0 = valued_is (with_base b db) made.0 r.2 in
      let met = init_meets db init g.0 r.0 (world_gives db legal) g.2 in
      settled_legal (with_base b db) (ap checked_effect same ∙ made.2)
      (λ none. (let after = base_after db legal n h init keys r.0 is r.1 (new_keys_hold db b none) in
      legal_with_base db legal b met (keys_stay r.0.heading keys) after.0 after.1 (passed (with_base b db) none)))

  -- a virtual relvar, whose expression is a relation
  relvar_legal : (n : Text) (x : Tree) (keys : List (List Text)) → IsAdmitted db (define_virtual n x keys) → (t : Type') → type_of (database_scope db) x ≡ Valued t → (made : Database)
      → over_relation t (λ h. Valued (with_virtual (virtual_relvar n h x (map (ordered_names h) keys)) db)) ≡ Valued made → checked_effect made ≡ Accepted new text → IsLegal new
  relvar_legal n x keys is (relation g) typed made e f =
      let v = virtual_relvar n (unpack g) x (map (ordered_names (unpack g)) keys) in
      let same : with_virtual v db ≡ made = valued_is (with_virtual v db) made e in
      let after = virtual_after db legal n x keys g is typed in
      settled_legal (with_virtual v db) (ap checked_effect same ∙ f)
      (λ none. legal_with_virtual db legal v (virtual_spelled n x keys is.spelled) (keys_stay (unpack g) keys) after.0 after.1 (passed (with_virtual v db) none))
  relvar_legal n x keys is boolean typed made e f = absurd (cc)
  relvar_legal n x keys is integer typed made e f = absurd (cc)
  relvar_legal n x keys is char typed made e f = absurd (cc)
  relvar_legal n x keys is (user m) typed made e f = absurd (cc)
  relvar_legal n x keys is (tuple g) typed made e f = absurd (cc)

  virtual_legal : (n : Text) (x : Tree) (keys : List (List Text)) → IsAdmitted db (define_virtual n x keys) → by_outcome (virtual_defined db n x keys) checked_effect ≡ Accepted new text
      → IsLegal new
  virtual_legal n x keys is e =
      let made = followed (virtual_defined db n x keys) checked_effect new text e in
      let t = value_of_with (type_of (database_scope db) x) _ made.0 made.1 in
      relvar_legal n x keys is t.0 t.1 made.0 t.2 made.2

  constraint_legal : (n : Text) (x : Tree) → IsAdmitted db (define_constraint n x) → checked_effect (with_constraint (named_constraint n x) db) ≡ Accepted new text → IsLegal new
  constraint_legal n x is e =
      let made = with_constraint (named_constraint n x) db in
      settled_legal made e
      (λ none. legal_with_constraint db legal (named_constraint n x) (constraint_spelled n x is.spelled) (constraint_after db legal n x is) (passed made none))

  -- assignments
  assigned_legal : (assignments : List Assignment) → IsAdmitted db (assign_all assignments) → by_outcome (assigned_database db assignments) checked_effect ≡ Accepted new text → IsLegal new
  assigned_legal assignments is e =
      let made = followed (assigned_database db assignments) checked_effect new text e in
      let given = value_of_with (given_by db [] assignments) _ made.0 made.1 in
      let same : with_all_assigned given.0 db ≡ made.0 = valued_is (with_all_assigned given.0 db) made.0 given.2 in
      let all_assigned =
      given_typed db legal.typed assignments given.0 (statement_written (assign_all assignments) is.spelled) is.checked given.1 in
      settled_legal (with_all_assigned given.0 db) (ap checked_effect same ∙ made.2)
      (λ none. legal_with_all_assigned db legal given.0 assignments given.1 all_assigned (all_assigned_typed db given.0 legal all_assigned)
      (all_assigned_ruled db given.0 legal all_assigned (bases_passed (with_all_assigned given.0 db) none)) (passed (with_all_assigned given.0 db) none))

  -- a type that is dropped
  type_drop_legal : (n : Text) → by_outcome (type_dropped db n) unchecked_effect ≡ Accepted new text → IsLegal new
  type_drop_legal n e =
      let made = followed (type_dropped db n) unchecked_effect new text e in
      let asked = value_of_with (type_droppable n db) (λ _. Valued (without_type n db)) made.0 made.1 in
      let same : without_type n db ≡ made.0 = valued_is (without_type n db) made.0 asked.2 in
      let free : is_type_in_use n db ≡ false = not_used (is_declared n db.types) (is_type_in_use n db) asked.1 in
      dropped_legal (without_type n db) (ap unchecked_effect same ∙ made.2) (legal_without_type db legal n free (drops_keep.type db n legal.typed (ap not free)))

  -- a relvar that is dropped
  relvar_drop_legal : (n : Text) → by_outcome (relvar_dropped db n) unchecked_effect ≡ Accepted new text → IsLegal new
  relvar_drop_legal n e =
      let made = followed (relvar_dropped db n) unchecked_effect new text e in
      let asked = value_of_with (relvar_droppable n db) (λ _. Valued (without_relvar n db)) made.0 made.1 in
      let same : without_relvar n db ≡ made.0 = valued_is (without_relvar n db) made.0 asked.2 in
      let free : is_relvar_in_use n db ≡ false = not_used (knows_relvar n db) (is_relvar_in_use n db) asked.1 in
      dropped_legal (without_relvar n db) (ap unchecked_effect same ∙ made.2) (legal_without_relvar db legal n free (drops_keep.relvar db n legal.typed (ap not free)))

  -- a constraint that is dropped
  constraint_drop_legal : (n : Text) → by_outcome (constraint_dropped db n) unchecked_effect ≡ Accepted new text → IsLegal new
  constraint_drop_legal n e =
      let made = followed (constraint_dropped db n) unchecked_effect new text e in
      let asked = value_of_with (constraint_droppable n db) (λ _. Valued (without_constraint n db)) made.0 made.1 in
      let same : without_constraint n db ≡ made.0 = valued_is (without_constraint n db) made.0 asked.2 in
      dropped_legal (without_constraint n db) (ap unchecked_effect same ∙ made.2) (legal_without_constraint db legal n (drops_keep.constraint db n legal.typed))

  -- each statement
  pub carried_legal : (s : Statement) → IsAdmitted db s → carried_out db s ≡ Accepted new text → IsLegal new
  carried_legal empty is e = printed_legal ok_text e
  carried_legal (define_type n cs k) is e = type_legal n cs k is e
  carried_legal (drop_type n) is e = type_drop_legal n e
  carried_legal (define_base n h init keys) is e = base_legal n h init keys is e
  carried_legal (define_virtual n x keys) is e = virtual_legal n x keys is e
  carried_legal (drop_var n) is e = relvar_drop_legal n e
  carried_legal (define_constraint n x) is e = constraint_legal n x is e
  carried_legal (drop_constraint n) is e = constraint_drop_legal n e
  carried_legal (assign_all assignments) is e = assigned_legal assignments is e
  carried_legal begin_transaction is e = printed_legal ok_text e
  carried_legal commit is e = printed_legal ok_text e
  carried_legal rollback is e = printed_legal ok_text e
  carried_legal (write x) is e =
      let value = followed (value_of (world_of db) [] x) (λ v. Accepted db (line (literal v))) new text e in
      printed_legal (line (literal value.0)) value.2
  carried_legal dump is e = printed_legal (dump_text db) e

-- what is accepted meets the static rules, and was carried out
pub accepted_keep_legal : AcceptedStatementsKeepLegality
accepted_keep_legal db new s text legal spelled e =
    let on = followed (statement_checked (database_scope db) s) (λ _. carried_out db s) new text e in
    carried_legal db new text legal s (record { spelled = spelled; checked = on.1 }) on.2
