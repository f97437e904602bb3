-- Each change of a legal database keeps it legal, where it is typed after it: one that adds or assigns where its checks are
-- passed, and a drop of what no entry mentions.
use Rattle.std.proofs.Common.{◌≡◌, ℕ, false, List, [], map, refl}
use Rattle.std.specs.Prelude.{◌||◌}
use Rattle.std.specs.List.{AllByRecursion, list_any}
use Rattle.td_catalog.specs.model.Database.{BaseRelvar, Database, NamedConstraint, VirtualRelvar, database_scope, empty_database, with_base, with_constraint, with_declared, with_virtual, without_constraint, without_relvar, without_type}
use Rattle.td_catalog.proofs.Lists.{each_after_none, each_after_push}
use Rattle.td_catalog.proofs.TypedChanges.{typed_empty}
use Rattle.td_catalog.specs.model.TypedDatabases.{IsTyped, IsTypedBase}
use Rattle.td_catalog.specs.model.Mentioned.{base_mentions_type, is_relvar_in_use, is_type_in_use, tree_mentions_relvar, tree_mentions_type, type_mentions_type}
use Rattle.td_engine.proofs.law_lemmas.EachOf.{all_given, all_push, all_removed, neither, none_passes}
use Rattle.td_engine.proofs.law_lemmas.GivenRelations.{Meets, all_given_meet, all_assigned_meet}
use Rattle.td_engine.proofs.law_lemmas.OrderedAssigned.{all_assigned_ordered}
use Rattle.td_engine.proofs.law_lemmas.PassedChecks.{Passed}
use Rattle.td_engine.proofs.law_lemmas.TestsAfterDrops.{constraints_without_constraint, constraints_without_relvar, constraints_without_type, virtuals_without_constraint, virtuals_without_relvar, virtuals_without_type}
use Rattle.td_engine.specs.model.Assignments.{Given, given_by, with_assigned, with_all_assigned}
use Rattle.td_engine.specs.code.AssignedRelations.{AreAssigned}
use Rattle.td_engine.proofs.law_lemmas.RankChanges.{bases_later, bases_left, types_left, virtuals_later, virtuals_left}
use Rattle.td_engine.specs.model.Legality.{AreOrdered, IsRuledBase, IsRuledVirtual, IsRanked, IsLegal, IsSpelledExpression, IsSpelledIf}
use Rattle.td_eval.proofs.law_lemmas.DroppedTypes.{drops_keep_what_meets}
use Rattle.td_eval.proofs.law_lemmas.LaterEntries.{later_entries_change_nothing}
use Rattle.td_eval.proofs.law_lemmas.MetConstraints.{later_types_keep_what_meets}
use Rattle.td_eval.proofs.law_lemmas.MetWorlds.{values_meet_constraints}
use Rattle.td_eval.specs.model.DatabaseWorlds.{world_of}
use Rattle.td_eval.specs.model.MetConstraints.{MeetConstraint}
use Rattle.td_eval.specs.laws.MetConstraintLaws.{GivesOnly}
use Rattle.td_tree.specs.model.Outcomes.{Valued}
use Rattle.td_tree.specs.model.Trees.{Assignment}
use Rattle.td_types.specs.model.TypeLists.{DeclaredType}
use Rattle.td_types.specs.model.Types.{pack, relation, same_name}
use Rattle.td_value.specs.model.Values.{relation_value}

-- a database in which nothing is defined
pub legal_empty : IsLegal empty_database
legal_empty =
    record {
      typed = typed_empty;
      ranked = each_after_none IsRanked;
      bases = tt;
      derived = tt;
      spelled = record { types = tt; virtuals = tt; constraints = tt };
      ordered = record { bases = tt; virtuals = tt };
      types = tt;
      virtuals = tt;
      constraints = tt;
    }

module _ (db : Database) (legal : IsLegal db) where
  -- all values have only user values that meet the constraints of their types
  pub world_gives : GivesOnly (MeetConstraint db.types) (world_of db)
  world_gives = values_meet_constraints.world db legal.typed legal.types

  -- ---- what is added

  -- a type stands behind the others, and what met their constraints meets them still
  pub legal_with_type : (d : DeclaredType) → IsSpelledIf d.constraint → IsTyped (with_declared d db) → IsRanked db.types d → Passed (with_declared d db)
      → IsLegal (with_declared d db)
  legal_with_type d spelled typed ranked checked =
      record {
        typed = typed;
        ranked = each_after_push IsRanked db.types d legal.ranked ranked;
        bases = bases_later db d legal typed.declared;
        derived = virtuals_later db d legal typed.declared;
        spelled = record {
          types = all_push (λ (c : DeclaredType). IsSpelledIf c.constraint) db.types d legal.spelled.types spelled;
          virtuals = legal.spelled.virtuals;
          constraints = legal.spelled.constraints;
        };
        ordered = record { bases = legal.ordered.bases; virtuals = legal.ordered.virtuals };
        types =
            all_given (IsTypedBase db.types) (λ (r : BaseRelvar). Meets db.types r.relation) (λ (r : BaseRelvar). Meets (with_declared d db).types r.relation)
            (λ r is. later_types_keep_what_meets db (with_declared d db) (relation_value r.relation) (relation (pack r.relation.heading)) legal.typed typed
            (later_entries_change_nothing.one_type db d legal.typed) is.relation (refl, is.known, is.typed))
            db.bases legal.typed.bases legal.types;
        virtuals = checked.virtuals;
        constraints = checked.constraints;
      }

  -- a base relvar whose relation meets them
  pub legal_with_base : (r : BaseRelvar) → Meets db.types r.relation → AreOrdered r.relation.heading r.keys → IsTyped (with_base r db) → IsRuledBase db.types r → Passed (with_base r db)
      → IsLegal (with_base r db)
  legal_with_base r met ordered typed ruled checked =
      record {
        typed = typed;
        ranked = legal.ranked;
        bases = all_push (IsRuledBase db.types) db.bases r legal.bases ruled;
        derived = legal.derived;
        spelled = record { types = legal.spelled.types; virtuals = legal.spelled.virtuals; constraints = legal.spelled.constraints };
        ordered = record {
          bases = all_push (λ (b : BaseRelvar). AreOrdered b.relation.heading b.keys) db.bases r legal.ordered.bases ordered;
          virtuals = legal.ordered.virtuals;
        };
        types = all_push (λ (b : BaseRelvar). Meets db.types b.relation) db.bases r legal.types met;
        virtuals = checked.virtuals;
        constraints = checked.constraints;
      }

  -- a virtual relvar whose expression is spelled
  pub legal_with_virtual : (v : VirtualRelvar) → IsSpelledExpression v.tree → AreOrdered v.heading v.keys → IsTyped (with_virtual v db) → IsRuledVirtual db.types v → Passed (with_virtual v db) → IsLegal (with_virtual v db)
  legal_with_virtual v spelled ordered typed ruled checked =
      record {
        typed = typed;
        ranked = legal.ranked;
        bases = legal.bases;
        derived = all_push (IsRuledVirtual db.types) db.virtuals v legal.derived ruled;
        spelled = record {
          types = legal.spelled.types;
          virtuals = all_push (λ (u : VirtualRelvar). IsSpelledExpression u.tree) db.virtuals v legal.spelled.virtuals spelled;
          constraints = legal.spelled.constraints;
        };
        ordered = record {
          bases = legal.ordered.bases;
          virtuals = all_push (λ (u : VirtualRelvar). AreOrdered u.heading u.keys) db.virtuals v legal.ordered.virtuals ordered;
        };
        types = legal.types;
        virtuals = checked.virtuals;
        constraints = checked.constraints;
      }

  -- a constraint whose expression is spelled
  pub legal_with_constraint : (c : NamedConstraint) → IsSpelledExpression c.tree → IsTyped (with_constraint c db) → Passed (with_constraint c db)
      → IsLegal (with_constraint c db)
  legal_with_constraint c spelled typed checked =
      record {
        typed = typed;
        ranked = legal.ranked;
        bases = legal.bases;
        derived = legal.derived;
        spelled = record {
          types = legal.spelled.types;
          virtuals = legal.spelled.virtuals;
          constraints = all_push (λ (d : NamedConstraint). IsSpelledExpression d.tree) db.constraints c legal.spelled.constraints spelled;
        };
        ordered = record { bases = legal.ordered.bases; virtuals = legal.ordered.virtuals };
        types = legal.types;
        virtuals = checked.virtuals;
        constraints = checked.constraints;
      }

  -- ---- what is assigned

  -- what the assignments gave meets the constraints of its types
  pub legal_with_all_assigned : (given : Given) (assignments : List Assignment) → given_by db [] assignments ≡ Valued given → AreAssigned db given → IsTyped (with_all_assigned given db)
      → AllByRecursion (IsRuledBase db.types) (map (with_assigned given) db.bases)
      → Passed (with_all_assigned given db) → IsLegal (with_all_assigned given db)
  legal_with_all_assigned given assignments is all_assigned typed bases checked =
      record {
        typed = typed;
        ranked = legal.ranked;
        bases = bases;
        derived = legal.derived;
        spelled = record { types = legal.spelled.types; virtuals = legal.spelled.virtuals; constraints = legal.spelled.constraints };
        ordered = record { bases = all_assigned_ordered db given legal.typed all_assigned legal.ordered.bases; virtuals = legal.ordered.virtuals };
        types =
            all_assigned_meet db.types given (all_given_meet db.types db world_gives legal.types [] given assignments tt is) db.bases legal.types;
        virtuals = checked.virtuals;
        constraints = checked.constraints;
      }

  -- ---- what is dropped

  -- a type that no entry mentions
  pub legal_without_type : (dropped : List ℕ) → is_type_in_use dropped db ≡ false → IsTyped (without_type dropped db) → IsLegal (without_type dropped db)
  legal_without_type dropped unused typed =
      let few = without_type dropped db in
      let derived =
      (neither (list_any (type_mentions_type dropped) db.types || list_any (base_mentions_type dropped) db.bases)
      (list_any (λ (v : VirtualRelvar). tree_mentions_type dropped v.tree) db.virtuals
      || list_any (λ (c : NamedConstraint). tree_mentions_type dropped c.tree) db.constraints) unused).1 in
      let conditions =
      (neither (list_any (λ (v : VirtualRelvar). tree_mentions_type dropped v.tree) db.virtuals)
      (list_any (λ (c : NamedConstraint). tree_mentions_type dropped c.tree) db.constraints) derived).1 in
      record {
        typed = typed;
        ranked = types_left dropped db legal unused;
        bases = bases_left dropped db legal unused;
        derived = virtuals_left dropped db legal unused;
        spelled = record {
          types = all_removed (λ (d : DeclaredType). IsSpelledIf d.constraint) (λ (d : DeclaredType). same_name d.name dropped) db.types legal.spelled.types;
          virtuals = legal.spelled.virtuals;
          constraints = legal.spelled.constraints;
        };
        ordered = record { bases = legal.ordered.bases; virtuals = legal.ordered.virtuals };
        types =
            all_given (IsTypedBase few.types) (λ (r : BaseRelvar). Meets db.types r.relation) (λ (r : BaseRelvar). Meets few.types r.relation)
            (λ r is. drops_keep_what_meets db dropped (relation_value r.relation) (relation (pack r.relation.heading)) legal.typed typed
            is.relation (refl, is.known, is.typed))
            db.bases typed.bases legal.types;
        virtuals = virtuals_without_type db legal dropped typed;
        constraints =
            constraints_without_type db legal dropped typed
            (none_passes (λ (c : NamedConstraint). tree_mentions_type dropped c.tree) db.constraints conditions);
      }

  -- a relvar that no expression mentions
  pub legal_without_relvar : (dropped : List ℕ) → is_relvar_in_use dropped db ≡ false → IsTyped (without_relvar dropped db)
      → IsLegal (without_relvar dropped db)
  legal_without_relvar dropped unused typed =
      let scope = database_scope db in
      let conditions =
      (neither (list_any (λ (v : VirtualRelvar). tree_mentions_relvar scope dropped v.tree) db.virtuals)
      (list_any (λ (c : NamedConstraint). tree_mentions_relvar scope dropped c.tree) db.constraints) unused).1 in
      record {
        typed = typed;
        ranked = legal.ranked;
        bases = all_removed (IsRuledBase db.types) (λ (r : BaseRelvar). same_name r.name dropped) db.bases legal.bases;
        derived = all_removed (IsRuledVirtual db.types) (λ (v : VirtualRelvar). same_name v.name dropped) db.virtuals legal.derived;
        spelled = record {
          types = legal.spelled.types;
          virtuals =
              all_removed (λ (v : VirtualRelvar). IsSpelledExpression v.tree) (λ (v : VirtualRelvar). same_name v.name dropped) db.virtuals
              legal.spelled.virtuals;
          constraints = legal.spelled.constraints;
        };
        ordered = record {
          bases =
              all_removed (λ (r : BaseRelvar). AreOrdered r.relation.heading r.keys) (λ (r : BaseRelvar). same_name r.name dropped) db.bases
              legal.ordered.bases;
          virtuals =
              all_removed (λ (v : VirtualRelvar). AreOrdered v.heading v.keys) (λ (v : VirtualRelvar). same_name v.name dropped) db.virtuals
              legal.ordered.virtuals;
        };
        types = all_removed (λ (r : BaseRelvar). Meets db.types r.relation) (λ (r : BaseRelvar). same_name r.name dropped) db.bases legal.types;
        virtuals = virtuals_without_relvar db legal dropped typed;
        constraints =
            constraints_without_relvar db legal dropped typed
            (none_passes (λ (c : NamedConstraint). tree_mentions_relvar scope dropped c.tree) db.constraints conditions);
      }

  -- a constraint
  pub legal_without_constraint : (dropped : List ℕ) → IsTyped (without_constraint dropped db) → IsLegal (without_constraint dropped db)
  legal_without_constraint dropped typed =
      record {
        typed = typed;
        ranked = legal.ranked;
        bases = legal.bases;
        derived = legal.derived;
        spelled = record {
          types = legal.spelled.types;
          virtuals = legal.spelled.virtuals;
          constraints =
              all_removed (λ (c : NamedConstraint). IsSpelledExpression c.tree) (λ (c : NamedConstraint). same_name c.name dropped) db.constraints
              legal.spelled.constraints;
        };
        ordered = record { bases = legal.ordered.bases; virtuals = legal.ordered.virtuals };
        types = legal.types;
        virtuals = virtuals_without_constraint db legal dropped typed;
        constraints = constraints_without_constraint db legal dropped typed;
      }
