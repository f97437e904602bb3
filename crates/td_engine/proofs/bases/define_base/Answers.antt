use Rattle.std.proofs.Common.{Err, ap, map, option_map, subst, sym}
use Rattle.td_catalog.specs.model.Database.{Database, base_relvar, with_base}
use Rattle.td_catalog.specs.model.Dumps.{ordered_names}
use Rattle.td_engine.specs.model.Legality.{AreBaseKeys}
use Rattle.td_engine.proofs.law_lemmas.Admitted.{failed_follows, refused_on}
use Rattle.td_engine.proofs.law_lemmas.BaseAdmitted.{base_admitted}
use Rattle.td_engine.proofs.code_lemmas.Plannables.{init_plannable}
use Rattle.td_engine.specs.code.Carried.{Changes}
use Rattle.td_engine.specs.model.Machine.{by_outcome, checked_effect, init_relation}
use Rattle.td_engine.proofs.law_lemmas.WrittenStatements.{statement_written}
use Rattle.td_tree.specs.model.Outcomes.{Answers, Outcome, Valued, with_value}
use Rattle.td_tree.specs.code.TreeViews.{heading_tree_view, tree_view}
use Rattle.td_tree.specs.model.Trees.{define_base}
use Rattle.td_types.specs.model.TypeLists.{heading_meant}
use Rattle.td_value.specs.model.Values.{Relation}
use Rattle.td_engine.proofs.bases.define_base.Goals as goal

pub new_relation-relation-requires : goal.new_relation-relation-requires
new_relation-relation-requires g c =
    let d = c.args.definition in
    init_plannable c.args.catalog.now.database d.name (heading_tree_view d.heading.items) (option_map tree_view d.init) (map (λ key. key.items) d.keys.items)
    c.requires.legal c.requires.admitted

pub add_ordered-requires-clause-heading : goal.add_ordered-requires-clause-heading
add_ordered-requires-clause-heading g c =
    let d = c.args.definition in
    let made = with_value (heading_meant c.args.catalog.now.database.types (heading_tree_view d.heading.items)) (init_relation c.args.catalog.now.database (option_map tree_view d.init)) in
    let made-is = subst (λ r. Answers (λ r. r) r made) c.in-Ok.ensures.value c.new_relation-relation.ensures in
    let names = statement_written (define_base d.name (heading_tree_view d.heading.items) (option_map tree_view d.init) (map (λ key. key.items) d.keys.items)) c.requires.admitted.spelled in
    (base_admitted c.args.catalog.now.database d.name (heading_tree_view d.heading.items) (option_map tree_view d.init) (map (λ key. key.items) d.keys.items)
    c.in-Ok.parts.0 c.requires.legal c.requires.admitted names.1 names.2 made-is).known

pub add_ordered-requires-clause-keys : goal.add_ordered-requires-clause-keys
add_ordered-requires-clause-keys g c =
    let d = c.args.definition in
    let made = with_value (heading_meant c.args.catalog.now.database.types (heading_tree_view d.heading.items)) (init_relation c.args.catalog.now.database (option_map tree_view d.init)) in
    let made-is = subst (λ r. Answers (λ r. r) r made) c.in-Ok.ensures.value c.new_relation-relation.ensures in
    let names = statement_written (define_base d.name (heading_tree_view d.heading.items) (option_map tree_view d.init) (map (λ key. key.items) d.keys.items)) c.requires.admitted.spelled in
    subst (λ p. AreBaseKeys c.in-Ok.parts.0.heading (map (λ key. key.items) p.1.items)) (sym c.in-Ok.ensures.other)
    (base_admitted c.args.catalog.now.database d.name (heading_tree_view d.heading.items) (option_map tree_view d.init) (map (λ key. key.items) d.keys.items)
    c.in-Ok.parts.0 c.requires.legal c.requires.admitted names.1 names.2 made-is).keys_are

pub add_ordered-requires-clause-typed : goal.add_ordered-requires-clause-typed
add_ordered-requires-clause-typed g c =
    let d = c.args.definition in
    let made = with_value (heading_meant c.args.catalog.now.database.types (heading_tree_view d.heading.items)) (init_relation c.args.catalog.now.database (option_map tree_view d.init)) in
    let made-is = subst (λ r. Answers (λ r. r) r made) c.in-Ok.ensures.value c.new_relation-relation.ensures in
    let names = statement_written (define_base d.name (heading_tree_view d.heading.items) (option_map tree_view d.init) (map (λ key. key.items) d.keys.items)) c.requires.admitted.spelled in
    (base_admitted c.args.catalog.now.database d.name (heading_tree_view d.heading.items) (option_map tree_view d.init) (map (λ key. key.items) d.keys.items)
    c.in-Ok.parts.0 c.requires.legal c.requires.admitted names.1 names.2 made-is).typed

pub returns-in-Ok-clause-change : goal.returns-in-Ok-clause-change
returns-in-Ok-clause-change g c =
    let d = c.args.definition in
    let db = c.args.catalog.now.database in
    let made = with_value (heading_meant c.args.catalog.now.database.types (heading_tree_view d.heading.items)) (init_relation c.args.catalog.now.database (option_map tree_view d.init)) in
    let made-is = subst (λ r. Answers (λ r. r) r made) c.in-Ok.ensures.value c.new_relation-relation.ensures in
    subst (λ o. Changes c.add_ordered.new.catalog.database c.add_ordered.result (by_outcome o checked_effect))
    (sym (ap (λ o. with_value o (λ r. Valued (with_base (base_relvar d.name (map (ordered_names r.heading) (map (λ key. key.items) d.keys.items)) r) db))) made-is))
    (subst (λ p. Changes c.add_ordered.new.catalog.database c.add_ordered.result (checked_effect (with_base (base_relvar p.0 (map (ordered_names c.in-Ok.parts.0.heading) (map (λ key. key.items) p.1.items)) c.in-Ok.parts.0) db))) c.in-Ok.ensures.other c.add_ordered.ensures.change)

pub returns-in-Err-clause-change : goal.returns-in-Err-clause-change
returns-in-Err-clause-change g c =
    let d = c.args.definition in
    let db = c.args.catalog.now.database in
    let made = with_value (heading_meant db.types (heading_tree_view d.heading.items)) (init_relation db (option_map tree_view d.init)) in
    let defined : Relation → Outcome Database = λ r. Valued (with_base (base_relvar d.name (map (ordered_names r.heading) (map (λ key. key.items) d.keys.items)) r) db) in
    subst (λ f. Changes db (Err f) (by_outcome (with_value made defined) checked_effect)) (sym c.failure_of.ensures)
    (failed_follows db (λ x. x) c.in-Err.fault (with_value made defined) checked_effect (refused_on (λ r. r) (λ x. x) c.in-Err.fault made defined (subst (λ r. Answers (λ r. r) r made) c.in-Err.ensures.fault c.new_relation-relation.ensures)))
