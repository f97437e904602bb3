use Rattle.std.proofs.Common.{◌≡◌, ◌∙◌, true, ap, arith, map, refl, subst, sym, true≢false}
use Rattle.std.specs.Prelude.{is_some}
use Rattle.std.specs.List.{AllByRecursion, find, list_any}
use Rattle.std.specs.Map.{lookup}
use Rattle.std.specs.Set.{remove_key}
use Rattle.td_catalog.specs.code.CatalogViews.{IsCatalog, Known, Rows, database_view, known_of, known_rows, rows_of}
use Rattle.td_catalog.specs.model.Database.{knows_constraint, without_constraint}
use Rattle.td_catalog.specs.code.Histories.{IsHistory, IsOwnStep, history_view}
use Rattle.td_catalog.specs.code.KeptDatabases.{CatalogView}
use Rattle.td_catalog.specs.declared.history.Step.TheVariants.{ConstraintDropped}
use Rattle.td_catalog.proofs.Changes.{knows_constraint_by, with_constraint_rows}
use Rattle.td_catalog.proofs.EntriesLess.{catalog_without_constraint, view_without_constraint}
use Rattle.td_catalog.proofs.LedSteps.{constraint_dropped}
use Rattle.td_catalog.proofs.Named.{any_as, keys_less, own_more, own_name}
use Rattle.td_catalog.proofs.Rows.{missing, present}
use Rattle.td_catalog.proofs.Steps.{history_next, room_next, view_next}
use Rattle.td_catalog.proofs.catalog.Catalog.drop_constraint.Goals as goal
use Rattle.td_tree.specs.declared.cause.Cause.TheVariants as causes
use Rattle.td_types.specs.model.Types.{same_name}

pub invariant_of-self-2 : goal.invariant_of-self-2
invariant_of-self-2 g c =
    let relation = g.B.Body.relation in
    let keys = g.B.Body.keys in
    let kept = g.B.Body.kept in
    let rows = rows_of c.prepare.new.tables in
    let steps = c.prepare.new.log.steps.items in
    let same : rows ≡ rows_of c.self.inside.tables = c.prepare.ensures.rows in
    let seen : database_view relation rows ≡ c.args.self.now.database = ap (database_view relation) same ∙ ap (λ (v : CatalogView). v.database) c.self.view_is in
    let named : known_of c.prepare.new.tables ≡ known_rows rows = c.prepare.ensures.known ∙ c.self.invariant.named ∙ ap known_rows (sym same) in
    let history : IsHistory relation keys kept rows steps =
    subst (λ r. IsHistory relation keys kept r steps) (sym same) (subst (IsHistory relation keys kept (rows_of c.self.inside.tables)) (sym c.prepare.ensures.steps) c.self.invariant.history) in
    let own : AllByRecursion IsOwnStep steps = subst (AllByRecursion IsOwnStep) (sym c.prepare.ensures.steps) c.self.invariant.own in
    let led = constraint_dropped relation keys kept rows c.in-Some.known c.args.name.now c.in-Some-shift_remove_full.place c.in-Some-shift_remove_full.name c.in-Some-shift_remove_full.entry c.shift_remove_full-2.new.self.entries c.in-Some-shift_remove_full.ensures.entries c.in-Some-shift_remove_full.ensures.index c.in-Some-shift_remove_full.ensures.key c.in-Some-shift_remove_full.ensures.value in
    let catalog : IsCatalog relation keys (with_constraint_rows c.shift_remove_full-2.new.self.entries rows) = subst (λ es. IsCatalog relation keys (with_constraint_rows es rows)) (sym c.in-Some-shift_remove_full.ensures.entries) (catalog_without_constraint relation keys rows c.args.name.now history.catalog) in
    let more = c.in-Some.ensures.keys ∙ ap (λ (k : Known). remove_key (same_name c.args.name.now) k.constraints) named ∙ keys_less c.args.name.now rows.constraints ∙ ap (map (λ row. row.0)) (sym c.in-Some-shift_remove_full.ensures.entries) in
    let mine = own_name c.args.name.now rows.constraints c.in-Some-shift_remove_full.name c.in-Some.known c.in-Some-shift_remove_full.ensures.key (c.in-Some.ensures.key ∙ ap (λ (k : Known). find (same_name c.args.name.now) k.constraints) named) in
    record {
      history = history_next relation keys kept rows (with_constraint_rows c.shift_remove_full-2.new.self.entries rows) steps c.note.new.self.steps.items (ConstraintDropped c.in-Some-shift_remove_full.place c.in-Some-shift_remove_full.name c.in-Some-shift_remove_full.entry c.in-Some.known) c.note.ensures led history catalog;
      room = room_next c.prepare.new.tables _ steps c.note.new.self.steps.items (ConstraintDropped c.in-Some-shift_remove_full.place c.in-Some-shift_remove_full.name c.in-Some-shift_remove_full.entry c.in-Some.known) 0 c.note.ensures refl c.in_ok-prepare.ensures.room (record { bases = omega arith; virtuals = omega arith; constraints = omega (arith, c.in-Some-shift_remove_full.ensures.room.0); known_bases = omega arith; known_virtuals = omega arith; known_constraints = omega (arith, c.in-Some.ensures.room.0) });
      named = λ i. record { bases = (named i).bases; virtuals = (named i).virtuals; constraints = more i };
      own = own_more steps c.note.new.self.steps.items (ConstraintDropped c.in-Some-shift_remove_full.place c.in-Some-shift_remove_full.name c.in-Some-shift_remove_full.entry c.in-Some.known) c.note.ensures own mine;
    }

pub returns-clause-dropped : goal.returns-clause-dropped
returns-clause-dropped g c =
    let relation = g.B.Body.relation in
    let keys = g.B.Body.keys in
    let kept = g.B.Body.kept in
    let rows = rows_of c.prepare.new.tables in
    let steps = c.prepare.new.log.steps.items in
    let same : rows ≡ rows_of c.self.inside.tables = c.prepare.ensures.rows in
    let seen : database_view relation rows ≡ c.args.self.now.database = ap (database_view relation) same ∙ ap (λ (v : CatalogView). v.database) c.self.view_is in
    let named : known_of c.prepare.new.tables ≡ known_rows rows = c.prepare.ensures.known ∙ c.self.invariant.named ∙ ap known_rows (sym same) in
    let history : IsHistory relation keys kept rows steps =
    subst (λ r. IsHistory relation keys kept r steps) (sym same) (subst (IsHistory relation keys kept (rows_of c.self.inside.tables)) (sym c.prepare.ensures.steps) c.self.invariant.history) in
    let led = constraint_dropped relation keys kept rows c.in-Some.known c.args.name.now c.in-Some-shift_remove_full.place c.in-Some-shift_remove_full.name c.in-Some-shift_remove_full.entry c.shift_remove_full-2.new.self.entries c.in-Some-shift_remove_full.ensures.entries c.in-Some-shift_remove_full.ensures.index c.in-Some-shift_remove_full.ensures.key c.in-Some-shift_remove_full.ensures.value in
    view_next relation keys kept rows (with_constraint_rows c.shift_remove_full-2.new.self.entries rows) steps c.note.new.self.steps.items (ConstraintDropped c.in-Some-shift_remove_full.place c.in-Some-shift_remove_full.name c.in-Some-shift_remove_full.entry c.in-Some.known) c.note.ensures led c.args.self.now _
    ((λ i. history_view relation keys kept (same i) (c.prepare.ensures.steps i)) ∙ c.self.view_is)
    (ap (λ es. database_view relation (with_constraint_rows es rows)) c.in-Some-shift_remove_full.ensures.entries ∙ view_without_constraint relation keys rows c.args.name.now ∙ ap (without_constraint c.args.name.now) seen)

pub returns-in_default-clause-dropped : goal.returns-in_default-clause-dropped
returns-in_default-clause-dropped g c =
    let relation = g.B.Body.relation in
    let keys = g.B.Body.keys in
    let kept = g.B.Body.kept in
    let rows = rows_of c.prepare.new.tables in
    let steps = c.prepare.new.log.steps.items in
    let same : rows ≡ rows_of c.self.inside.tables = c.prepare.ensures.rows in
    let seen : database_view relation rows ≡ c.args.self.now.database = ap (database_view relation) same ∙ ap (λ (v : CatalogView). v.database) c.self.view_is in
    let named : known_of c.prepare.new.tables ≡ known_rows rows = c.prepare.ensures.known ∙ c.self.invariant.named ∙ ap known_rows (sym same) in
    let history : IsHistory relation keys kept rows steps =
    subst (λ r. IsHistory relation keys kept r steps) (sym same) (subst (IsHistory relation keys kept (rows_of c.self.inside.tables)) (sym c.prepare.ensures.steps) c.self.invariant.history) in
    let there : is_some (lookup (same_name c.args.name.now) rows.constraints) ≡ true =
    ap (λ (r : Rows _). is_some (lookup (same_name c.args.name.now) r.constraints)) same ∙ sym c.contains_key.ensures ∙ c.if-not-contains_key.false in
    absurd (true≢false (sym there ∙ sym (any_as c.args.name.now rows.constraints) ∙ ap (λ (k : Known). list_any (same_name c.args.name.now) k.constraints) (sym named) ∙ sym c.in_default.ensures.found))

pub invariant_of-self-in_default-shift_remove_full : goal.invariant_of-self-in_default-shift_remove_full
invariant_of-self-in_default-shift_remove_full g c =
    let relation = g.B.Body.relation in
    let keys = g.B.Body.keys in
    let kept = g.B.Body.kept in
    let rows = rows_of c.prepare.new.tables in
    let steps = c.prepare.new.log.steps.items in
    let same : rows ≡ rows_of c.self.inside.tables = c.prepare.ensures.rows in
    let seen : database_view relation rows ≡ c.args.self.now.database = ap (database_view relation) same ∙ ap (λ (v : CatalogView). v.database) c.self.view_is in
    let named : known_of c.prepare.new.tables ≡ known_rows rows = c.prepare.ensures.known ∙ c.self.invariant.named ∙ ap known_rows (sym same) in
    let history : IsHistory relation keys kept rows steps =
    subst (λ r. IsHistory relation keys kept r steps) (sym same) (subst (IsHistory relation keys kept (rows_of c.self.inside.tables)) (sym c.prepare.ensures.steps) c.self.invariant.history) in
    let there : is_some (lookup (same_name c.args.name.now) rows.constraints) ≡ true =
    ap (λ (r : Rows _). is_some (lookup (same_name c.args.name.now) r.constraints)) same ∙ sym c.contains_key.ensures ∙ c.if-not-contains_key.false in
    absurd (true≢false (sym there ∙ ap is_some (sym c.in_default-shift_remove_full.ensures.value)))

pub returns-in_default-shift_remove_full-clause-dropped : goal.returns-in_default-shift_remove_full-clause-dropped
returns-in_default-shift_remove_full-clause-dropped g c =
    let relation = g.B.Body.relation in
    let keys = g.B.Body.keys in
    let kept = g.B.Body.kept in
    let rows = rows_of c.prepare.new.tables in
    let steps = c.prepare.new.log.steps.items in
    let same : rows ≡ rows_of c.self.inside.tables = c.prepare.ensures.rows in
    let seen : database_view relation rows ≡ c.args.self.now.database = ap (database_view relation) same ∙ ap (λ (v : CatalogView). v.database) c.self.view_is in
    let named : known_of c.prepare.new.tables ≡ known_rows rows = c.prepare.ensures.known ∙ c.self.invariant.named ∙ ap known_rows (sym same) in
    let history : IsHistory relation keys kept rows steps =
    subst (λ r. IsHistory relation keys kept r steps) (sym same) (subst (IsHistory relation keys kept (rows_of c.self.inside.tables)) (sym c.prepare.ensures.steps) c.self.invariant.history) in
    let there : is_some (lookup (same_name c.args.name.now) rows.constraints) ≡ true =
    ap (λ (r : Rows _). is_some (lookup (same_name c.args.name.now) r.constraints)) same ∙ sym c.contains_key.ensures ∙ c.if-not-contains_key.false in
    absurd (true≢false (sym there ∙ ap is_some (sym c.in_default-shift_remove_full.ensures.value)))

pub returns-clause-answer : goal.returns-clause-answer
returns-clause-answer g c =
    let relation = g.B.Body.relation in
    let keys = g.B.Body.keys in
    let rows = rows_of c.self.inside.tables in
    let knows =
    ap (knows_constraint c.args.name.now) (ap (λ (v : CatalogView). v.database) (sym c.self.view_is)) ∙ sym (knows_constraint_by relation keys c.args.name.now rows) ∙ sym c.contains_key.ensures in
    present causes.NameUnknown (knows_constraint c.args.name.now c.args.self.now.database) (knows ∙ c.if-not-contains_key.false)

pub returns-in_default-clause-answer : goal.returns-in_default-clause-answer
returns-in_default-clause-answer g c =
    let relation = g.B.Body.relation in
    let keys = g.B.Body.keys in
    let rows = rows_of c.self.inside.tables in
    let knows =
    ap (knows_constraint c.args.name.now) (ap (λ (v : CatalogView). v.database) (sym c.self.view_is)) ∙ sym (knows_constraint_by relation keys c.args.name.now rows) ∙ sym c.contains_key.ensures in
    present causes.NameUnknown (knows_constraint c.args.name.now c.args.self.now.database) (knows ∙ c.if-not-contains_key.false)

pub returns-in_default-shift_remove_full-clause-answer : goal.returns-in_default-shift_remove_full-clause-answer
returns-in_default-shift_remove_full-clause-answer g c =
    let relation = g.B.Body.relation in
    let keys = g.B.Body.keys in
    let rows = rows_of c.self.inside.tables in
    let knows =
    ap (knows_constraint c.args.name.now) (ap (λ (v : CatalogView). v.database) (sym c.self.view_is)) ∙ sym (knows_constraint_by relation keys c.args.name.now rows) ∙ sym c.contains_key.ensures in
    present causes.NameUnknown (knows_constraint c.args.name.now c.args.self.now.database) (knows ∙ c.if-not-contains_key.false)

pub returns-then-not-contains_key-clause-answer : goal.returns-then-not-contains_key-clause-answer
returns-then-not-contains_key-clause-answer g c =
    let relation = g.B.Body.relation in
    let keys = g.B.Body.keys in
    let rows = rows_of c.self.inside.tables in
    let knows =
    ap (knows_constraint c.args.name.now) (ap (λ (v : CatalogView). v.database) (sym c.self.view_is)) ∙ sym (knows_constraint_by relation keys c.args.name.now rows) ∙ sym c.contains_key.ensures in
    missing causes.NameUnknown (knows_constraint c.args.name.now c.args.self.now.database) (knows ∙ c.if-not-contains_key.true)
