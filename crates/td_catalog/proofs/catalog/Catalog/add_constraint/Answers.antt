use Rattle.std.proofs.Common.{◌≡◌, ◌∙◌, ap, arith, false, refl, subst, sym}
use Rattle.std.specs.List.{AllByRecursion, list_any}
use Rattle.td_catalog.specs.code.CatalogViews.{IsCatalog, Known, known_of, known_rows, Rows, constraint_view, database_view, rows_of}
use Rattle.td_catalog.specs.code.Histories.{IsHistory, IsOwnStep, history_view}
use Rattle.td_catalog.specs.code.KeptDatabases.{CatalogView}
use Rattle.td_catalog.specs.declared.history.Step.TheVariants.{ConstraintAdded}
use Rattle.td_catalog.proofs.LedSteps.{constraint_added}
use Rattle.td_catalog.proofs.Named.{added_as, any_as, own_more}
use Rattle.td_catalog.proofs.Steps.{history_next, room_next, view_next}
use Rattle.std.specs.Prelude.{is_some}
use Rattle.std.specs.Map.{lookup}
use Rattle.td_catalog.specs.model.Database.{Database, NamedConstraint, database_scope, knows_constraint, named_constraint, with_constraint}
use Rattle.td_catalog.specs.model.TypedDatabases.{IsTypedConstraint}
use Rattle.td_catalog.specs.declared.entry.ConstraintEntry.{ConstraintEntry}
use Rattle.td_catalog.proofs.Changes.{catalog_with_constraint, knows_constraint_by, view_with_constraint, with_constraint_rows}
use Rattle.td_tree.specs.code.TreeViews.{tree_view}
use Rattle.td_types.specs.model.Types.{same_name}
use Rattle.td_catalog.proofs.Rows.{accepted, refused, rows_with}
use Rattle.td_tree.specs.declared.cause.Cause.TheVariants as causes
use Rattle.td_catalog.proofs.catalog.Catalog.add_constraint.Goals as goal

pub invariant_of-self-2 : goal.invariant_of-self-2
invariant_of-self-2 g c =
    let relation = g.B.Body.relation in
    let keys = g.B.Body.keys in
    let kept = g.B.Body.kept in
    let rows = rows_of c.prepare.new.tables in
    let steps = c.prepare.new.log.steps.items in
    let same : rows ≡ rows_of c.self.inside.tables = c.prepare.ensures.rows in
    let seen : database_view relation rows ≡ c.args.self.now.database = ap (database_view relation) same ∙ ap (λ (v : CatalogView). v.database) c.self.view_is in
    let history : IsHistory relation keys kept rows steps =
    subst (λ r. IsHistory relation keys kept r steps) (sym same) (subst (IsHistory relation keys kept (rows_of c.self.inside.tables)) (sym c.prepare.ensures.steps) c.self.invariant.history) in
    let free : knows_constraint c.args.name (database_view relation rows) ≡ false = sym (knows_constraint_by relation keys c.args.name rows) ∙ ap (λ (r : Rows _). is_some (lookup (same_name c.args.name) r.constraints)) same ∙ sym c.contains_key.ensures ∙ c.if-contains_key.false in
    let entry : ConstraintEntry = record { tree = c.in_ok-tree.tree } in
    let catalog : IsCatalog relation keys (with_constraint_rows c.insert.new.self.entries rows) =
    subst (λ es. IsCatalog relation keys (with_constraint_rows es rows)) (sym c.in_ok-insert.ensures.entries)
    (catalog_with_constraint relation keys rows c.prepare.new.tables.constraints c.args.name entry refl free history.catalog c.reveal.ensures
    (subst (λ e. IsTypedConstraint (database_scope (database_view relation rows)) (named_constraint c.args.name e)) (sym c.in_ok-tree.ensures)
    (subst (λ (db : Database). IsTypedConstraint (database_scope db) (named_constraint c.args.name (tree_view c.args.tree))) (sym seen) c.requires))) in
    let led = constraint_added relation keys kept rows c.insert.new.self.entries (c.args.name, entry)
    (c.in_ok-insert.ensures.entries ∙ rows_with constraint_view (λ (k : NamedConstraint). k.name) (λ row. refl) c.prepare.new.tables.constraints c.args.name entry (knows_constraint_by relation keys c.args.name rows ∙ free)) in
    let named : known_of c.prepare.new.tables ≡ known_rows rows = c.prepare.ensures.known ∙ c.self.invariant.named ∙ ap known_rows (sym same) in
    let own : AllByRecursion IsOwnStep steps = subst (AllByRecursion IsOwnStep) (sym c.prepare.ensures.steps) c.self.invariant.own in
    let more = added_as (λ row. row.0) rows.constraints c.insert.new.self.entries (c.args.name, entry) c.prepare.new.tables.declared.constraints.keys c.put_name_last.new.names.keys c.in_ok-known.known (c.in_ok-insert.ensures.entries ∙ rows_with constraint_view (λ (k : NamedConstraint). k.name) (λ row. refl) c.prepare.new.tables.constraints c.args.name entry (knows_constraint_by relation keys c.args.name rows ∙ free)) c.put_name_last.ensures.keys (ap (λ (k : Known). k.constraints) named) c.in_ok-known.ensures in
    record {
      history = history_next relation keys kept rows (with_constraint_rows c.insert.new.self.entries rows) steps c.note.new.self.steps.items ConstraintAdded c.note.ensures led history catalog;
      room = room_next c.prepare.new.tables _ steps c.note.new.self.steps.items ConstraintAdded 1 c.note.ensures refl c.in_ok-prepare.ensures.room
          (record { bases = omega arith; virtuals = omega arith; constraints = c.insert.ensures.spare; known_bases = omega arith; known_virtuals = omega arith; known_constraints = c.put_name_last.ensures.room });
      named = λ i. record { bases = (named i).bases; virtuals = (named i).virtuals; constraints = more i };
      own = own_more steps c.note.new.self.steps.items ConstraintAdded c.note.ensures own tt;
    }

pub returns-clause-added : goal.returns-clause-added
returns-clause-added g c =
    let relation = g.B.Body.relation in
    let keys = g.B.Body.keys in
    let kept = g.B.Body.kept in
    let rows = rows_of c.prepare.new.tables in
    let steps = c.prepare.new.log.steps.items in
    let same : rows ≡ rows_of c.self.inside.tables = c.prepare.ensures.rows in
    let seen : database_view relation rows ≡ c.args.self.now.database = ap (database_view relation) same ∙ ap (λ (v : CatalogView). v.database) c.self.view_is in
    let history : IsHistory relation keys kept rows steps =
    subst (λ r. IsHistory relation keys kept r steps) (sym same) (subst (IsHistory relation keys kept (rows_of c.self.inside.tables)) (sym c.prepare.ensures.steps) c.self.invariant.history) in
    let free : knows_constraint c.args.name (database_view relation rows) ≡ false = sym (knows_constraint_by relation keys c.args.name rows) ∙ ap (λ (r : Rows _). is_some (lookup (same_name c.args.name) r.constraints)) same ∙ sym c.contains_key.ensures ∙ c.if-contains_key.false in
    let entry : ConstraintEntry = record { tree = c.in_ok-tree.tree } in
    let led = constraint_added relation keys kept rows c.insert.new.self.entries (c.args.name, entry)
    (c.in_ok-insert.ensures.entries ∙ rows_with constraint_view (λ (k : NamedConstraint). k.name) (λ row. refl) c.prepare.new.tables.constraints c.args.name entry (knows_constraint_by relation keys c.args.name rows ∙ free)) in
    view_next relation keys kept rows (with_constraint_rows c.insert.new.self.entries rows) steps c.note.new.self.steps.items ConstraintAdded c.note.ensures led c.args.self.now _
    ((λ i. history_view relation keys kept (same i) (c.prepare.ensures.steps i)) ∙ c.self.view_is)
    (ap (λ es. database_view relation (with_constraint_rows es rows)) c.in_ok-insert.ensures.entries
    ∙ view_with_constraint relation keys rows c.prepare.new.tables.constraints c.args.name entry refl free
    ∙ ap (λ e. with_constraint (named_constraint c.args.name e) (database_view relation rows)) c.in_ok-tree.ensures
    ∙ ap (with_constraint (named_constraint c.args.name (tree_view c.args.tree))) seen)

pub returns-then-contains_key-clause-answer : goal.returns-then-contains_key-clause-answer
returns-then-contains_key-clause-answer g c =
    refused causes.NameTaken (knows_constraint c.args.name c.args.self.now.database)
    (ap (knows_constraint c.args.name) (sym (ap (λ (v : CatalogView). v.database) c.self.view_is))
    ∙ sym (knows_constraint_by g.B.Body.relation g.B.Body.keys c.args.name
    (rows_of c.self.inside.tables))
    ∙ sym c.contains_key.ensures ∙ c.if-contains_key.true)

pub returns-clause-answer : goal.returns-clause-answer
returns-clause-answer g c =
    accepted causes.NameTaken (knows_constraint c.args.name c.args.self.now.database)
    (ap (knows_constraint c.args.name) (sym (ap (λ (v : CatalogView). v.database) c.self.view_is))
    ∙ sym (knows_constraint_by g.B.Body.relation g.B.Body.keys c.args.name
    (rows_of c.self.inside.tables))
    ∙ sym c.contains_key.ensures ∙ c.if-contains_key.false)

pub put_name_last-requires-clause-new : goal.put_name_last-requires-clause-new
put_name_last-requires-clause-new g c =
    let relation = g.B.Body.relation in
    let keys = g.B.Body.keys in
    let kept = g.B.Body.kept in
    let rows = rows_of c.prepare.new.tables in
    let steps = c.prepare.new.log.steps.items in
    let same : rows ≡ rows_of c.self.inside.tables = c.prepare.ensures.rows in
    let seen : database_view relation rows ≡ c.args.self.now.database = ap (database_view relation) same ∙ ap (λ (v : CatalogView). v.database) c.self.view_is in
    let history : IsHistory relation keys kept rows steps =
    subst (λ r. IsHistory relation keys kept r steps) (sym same) (subst (IsHistory relation keys kept (rows_of c.self.inside.tables)) (sym c.prepare.ensures.steps) c.self.invariant.history) in
    let free : knows_constraint c.args.name (database_view relation rows) ≡ false = sym (knows_constraint_by relation keys c.args.name rows) ∙ ap (λ (r : Rows _). is_some (lookup (same_name c.args.name) r.constraints)) same ∙ sym c.contains_key.ensures ∙ c.if-contains_key.false in
    let named : known_of c.prepare.new.tables ≡ known_rows rows = c.prepare.ensures.known ∙ c.self.invariant.named ∙ ap known_rows (sym same) in
    ap (λ n. list_any (same_name n) c.prepare.new.tables.declared.constraints.keys) c.in_ok-known.ensures
    ∙ ap (λ (k : Known). list_any (same_name c.args.name) k.constraints) named ∙ any_as c.args.name rows.constraints ∙ knows_constraint_by relation keys c.args.name rows ∙ free
