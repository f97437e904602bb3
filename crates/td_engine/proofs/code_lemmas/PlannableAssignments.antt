-- Assignments whose expressions may be valued by plans, since their targets hold typed relations so far.
use Rattle.std.proofs.Common.{◌≡◌, ◌∙◌, ◌∷◌, ℕ, true, List, [], Option, Some, None, ap, map, refl, subst, sym}
use Rattle.std.specs.List.{AllByRecursion}
use Rattle.td_catalog.specs.model.Database.{BaseRelvar, Database, base_named, database_scope}
use Rattle.td_check.specs.model.OperatorTypes.{known_or, over_relation, restriction_type, same_type}
use Rattle.td_check.specs.model.Scopes.{entered_with, known_relvar}
use Rattle.td_check.specs.model.StatementTypes.{both_hold, condition_fits, is_target, source_fits, type_if_given}
use Rattle.td_check.specs.model.StaticTypes.{named_types, type_of}
use Rattle.td_engine.proofs.law_lemmas.GivenValues.{source_gives}
use Rattle.td_engine.proofs.law_lemmas.TypedAssigned.{AreChecked, checked_condition, checked_setting_condition, checked_settings, checked_source, chosen_like, is_base, statement_each_checked}
use Rattle.td_engine.proofs.law_lemmas.WrittenStatements.{AreWritten, statement_written}
use Rattle.td_engine.specs.model.Assignments.{chosen_for, source_world, target_of}
use Rattle.td_engine.specs.code.Carried.{IsAdmitted}
use Rattle.td_engine.specs.code.AssignedRelations.{IsAssigned}
use Rattle.td_engine.specs.model.Legality.{IsLegal}
use Rattle.td_engine.specs.code.Plannable.{ArePlannableSettings, IsAdmittedAssignment, IsPlannableAssignment, IsPlannableConditionIf, IsPlannableSource}
use Rattle.td_eval.proofs.code_lemmas.KeepsGathered.{all_from_members}
use Rattle.td_eval.proofs.code_lemmas.KeepsRelations.{IsTypedRelation, value_from_typed}
use Rattle.td_eval.proofs.law_lemmas.KnownRelvars.{known_as_base}
use Rattle.td_eval.proofs.code_lemmas.TypedRows.{rows_typed}
use Rattle.td_eval.specs.laws.ValueTypes.{IsTypedTuple}
use Rattle.td_tree.specs.declared.cause.Cause.TheVariants as causes
use Rattle.td_tree.specs.declared.operator.Style.{Style}
use Rattle.td_tree.specs.declared.statement.Assignment as code
use Rattle.td_tree.specs.model.Outcomes.{Valued, value_if, with_value}
use Rattle.td_tree.specs.code.TreeViews.{assignment_view}
use Rattle.td_tree.specs.model.Trees.{Assignment, NamedTrees, Tree, assign, assign_all, delete, disjoint_insert, included_delete, insert, name, restriction, update}
use Rattle.td_types.proofs.OutcomeLaws.{value_of_test, value_of_with}
use Rattle.td_types.specs.code.TypeCode.{unpack_pack}
use Rattle.td_types.specs.model.Types.{Heading, Type', boolean, pack, relation}
use Rattle.td_value.specs.model.Values.{IsRelation, Relation}

module _ (db : Database) (legal : IsLegal db) where
  -- a base relvar may be given what it holds
  pub base_assigned : (n : List ℕ) (r : BaseRelvar) → base_named n db ≡ Some r → IsAssigned db (n, r.relation)
  base_assigned n r at =
      let is = is_base db legal.typed n r at in
      record { target = r; named = at; heading = refl; relation = is.relation; typed = is.typed }

  -- a relation with values of their types
  tuples_typed : (r : Relation) → IsTypedRelation db.types r → IsRelation r × AllByRecursion (IsTypedTuple db.types) r.body
  tuples_typed r is =
      let typed = value_from_typed db.types r is in
      (is.is_relation, all_from_members (IsTypedTuple db.types) r.body (λ u c. (rows_typed db.types r typed u c).0))

  -- what is chosen of a base relvar has its type
  chosen_typed : (n : List ℕ) (b : BaseRelvar) → base_named n db ≡ Some b → (p : Tree) (k : Option Type')
      → type_if_given (entered_with b.relation.heading (database_scope db)) (Some p) ≡ Valued k → condition_fits k ≡ Valued tt
      → type_of (database_scope db) (restriction (name n) p) ≡ Valued (relation (pack b.relation.heading))
  chosen_typed n b at p k typed fits =
      let t = value_of_with (type_of (entered_with b.relation.heading (database_scope db)) p) (λ t. Valued (Some t)) k typed in
      let asked : condition_fits (Some t.0) ≡ Valued tt = ap (λ o. with_value o condition_fits) t.2 ∙ fits in
      let truth : same_type t.0 boolean ≡ true = (value_of_test (same_type t.0 boolean) tt tt causes.TypeMismatch asked).0 in
      let kind = relation (pack b.relation.heading) in
      let operand : type_of (database_scope db) (name n) ≡ Valued kind =
      ap (λ o. with_value (known_or causes.NameUnknown o) (λ r. Valued (relation (pack r.heading)))) (known_as_base db n b at) in
      ap (λ o. with_value o (λ s. over_relation s (λ h. with_value (type_of (entered_with h (database_scope db)) p) (restriction_type s)))) operand
      ∙ ap (λ (h : Heading). with_value (type_of (entered_with h (database_scope db)) p) (restriction_type kind)) (unpack_pack b.relation.heading)
      ∙ ap (λ o. with_value o (restriction_type kind)) t.1 ∙ ap (λ c. value_if c kind causes.TypeMismatch) truth

  -- ---- one assignment

  module _ (n : List ℕ) (so_far : Relation) (assigned : IsAssigned db (n, so_far)) where
    source_plannable : (e : Tree)
        → both_hold (is_target (known_relvar (database_scope db) n))
        (with_value (type_of (database_scope db) e) (source_fits (known_relvar (database_scope db) n))) ≡ Valued tt
        → IsPlannableSource db n so_far e
    source_plannable e checked =
        record {
          gives = source_gives db legal.typed n so_far assigned;
          typed = checked_source db legal.typed n so_far assigned e checked;
        }

    condition_plannable : (condition : Option Tree) (k : Option Type')
        → type_if_given (entered_with assigned.target.relation.heading (database_scope db)) condition ≡ Valued k → condition_fits k ≡ Valued tt
        → IsPlannableConditionIf db n so_far condition
    condition_plannable None k typed fits = tt
    condition_plannable (Some e) k typed fits =
        record {
          gives = source_gives db legal.typed n so_far assigned;
          typed = (relation (pack assigned.target.relation.heading), chosen_typed n assigned.target assigned.named e k typed fits);
        }

    settings_plannable : (style : Style) (condition : Option Tree) (settings : NamedTrees) → IsAdmittedAssignment db (update style n condition settings)
        → ArePlannableSettings db (source_world db n so_far) (chosen_for so_far (source_world db n so_far) n condition) settings
    settings_plannable style condition settings is =
        let kinds = checked_settings db legal.typed n so_far assigned style condition settings is.checked in
        let like = chosen_like db legal.typed n so_far assigned condition in
        record {
          gives = source_gives db legal.typed n so_far assigned;
          tuples = λ r e. tuples_typed r (like r e).0;
          typed = λ r e. (
            kinds.0,
            subst (λ (h : Heading). named_types (entered_with h (database_scope db)) settings ≡ Valued kinds.0) (sym ((like r e).1 ∙ assigned.heading)) kinds.1,
          );
        }

  pub assignment_plannable : (so_far : Relation) (a : Assignment) → IsAssigned db (target_of a, so_far) → IsAdmittedAssignment db a
      → IsPlannableAssignment db so_far a
  assignment_plannable so_far (assign n e) assigned is = source_plannable n so_far assigned e is.checked
  assignment_plannable so_far (insert n e) assigned is = source_plannable n so_far assigned e is.checked
  assignment_plannable so_far (disjoint_insert n e) assigned is = source_plannable n so_far assigned e is.checked
  assignment_plannable so_far (included_delete n e) assigned is = source_plannable n so_far assigned e is.checked
  assignment_plannable so_far (delete n condition) assigned is =
      let k = checked_condition db legal.typed n so_far assigned condition is.checked in
      condition_plannable n so_far assigned condition k.0 k.1 k.2
  assignment_plannable so_far (update style n condition settings) assigned is =
      let k = checked_setting_condition db legal.typed n so_far assigned style condition settings is.checked in
      (condition_plannable n so_far assigned condition k.0 k.1 k.2, settings_plannable n so_far assigned style condition settings is)

  -- ---- those of a statement

  each_admitted : (xs : List code.Assignment) → AreWritten (map assignment_view xs) → AreChecked db legal.typed (map assignment_view xs)
      → AllByRecursion (λ (x : code.Assignment). IsAdmittedAssignment db (assignment_view x)) xs
  each_admitted [] is_written checked = tt
  each_admitted (x ∷ xs) is_written checked = (record { written = is_written.0; checked = checked.0 }, each_admitted xs is_written.1 checked.1)

  pub all_admitted : (xs : List code.Assignment) → IsAdmitted db (assign_all (map assignment_view xs))
      → AllByRecursion (λ (x : code.Assignment). IsAdmittedAssignment db (assignment_view x)) xs
  all_admitted xs is =
      each_admitted xs (statement_written (assign_all (map assignment_view xs)) is.spelled)
      (statement_each_checked db legal.typed (map assignment_view xs) is.checked)
