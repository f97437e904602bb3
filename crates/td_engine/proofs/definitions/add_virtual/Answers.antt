use Rattle.std.proofs.Common.{◌≡◌, ◌∙◌, ap, map, subst, sym}
use Rattle.std.specs.Prelude.{IfOk, not}
use Rattle.td_catalog.specs.model.Database.{database_scope, knows_relvar, virtual_relvar, with_virtual}
use Rattle.td_catalog.specs.model.Dumps.{ordered_names}
use Rattle.td_catalog.specs.model.TypedDatabases.{IsTypedVirtual}
use Rattle.td_check.specs.model.OperatorTypes.{over_relation}
use Rattle.td_check.specs.model.StatementTypes.{holds_or}
use Rattle.td_check.specs.model.StaticTypes.{type_of}
use Rattle.td_engine.proofs.law_lemmas.Admitted.{over_typed, virtual_admitted}
use Rattle.td_engine.proofs.code_lemmas.Done.{defined, goes, held_there}
use Rattle.td_engine.proofs.law_lemmas.Settled.{bases_hold}
use Rattle.td_tree.specs.model.Outcomes.{Answers, Valued, with_value}
use Rattle.td_tree.specs.code.TreeViews.{tree_view}
use Rattle.td_tree.specs.declared.cause.Cause.TheVariants as causes
use Rattle.td_types.specs.model.Types.{IsHeading, pack}
use Rattle.td_engine.proofs.definitions.add_virtual.Goals as goal

pub add_virtual-requires : goal.add_virtual-requires
add_virtual-requires g c =
    let d = c.args.definition in
    let db = c.args.catalog.now.database in
    let first = c.in_ok-derived.ensures in
    let h = c.in_ok-derived.derived.heading in
    let written = map (λ key. key.items) d.keys.items in
    let typed = subst (λ r. Answers (λ d. d.heading) r (with_value (type_of (database_scope db) (tree_view d.expression)) (λ t. over_relation t Valued))) first.value c.derived_parts-derived.ensures.answer in
    let headed = subst (λ r. IfOk r (λ d. IsHeading (pack d.heading))) first.value c.derived_parts-derived.ensures.headed in
    let keys = subst (λ r. IfOk r (λ d. map (λ key. key.items) d.keys.items ≡ map (ordered_names d.heading) written)) first.value c.derived_parts-derived.ensures.keys in
    let is = virtual_admitted db d.name (tree_view d.expression) written h headed c.requires.legal c.requires.admitted typed in
    subst (λ p. IsTypedVirtual (database_scope db) (virtual_relvar p.0 h (tree_view p.1) (map (λ key. key.items) c.in_ok-derived.derived.keys.items))) (sym first.other)
    (subst (λ ks. IsTypedVirtual (database_scope db) (virtual_relvar d.name h (tree_view d.expression) ks)) (sym keys) is.virtual)

pub returns-clause-answer : goal.returns-clause-answer
returns-clause-answer g c =
    let d = c.args.definition in
    let db = c.args.catalog.now.database in
    let first = c.in_ok-derived.ensures in
    let h = c.in_ok-derived.derived.heading in
    let written = map (λ key. key.items) d.keys.items in
    let typed = subst (λ r. Answers (λ d. d.heading) r (with_value (type_of (database_scope db) (tree_view d.expression)) (λ t. over_relation t Valued))) first.value c.derived_parts-derived.ensures.answer in
    let headed = subst (λ r. IfOk r (λ d. IsHeading (pack d.heading))) first.value c.derived_parts-derived.ensures.headed in
    let keys = subst (λ r. IfOk r (λ d. map (λ key. key.items) d.keys.items ≡ map (ordered_names d.heading) written)) first.value c.derived_parts-derived.ensures.keys in
    let is = virtual_admitted db d.name (tree_view d.expression) written h headed c.requires.legal c.requires.admitted typed in
    let free = subst (λ p. holds_or causes.NameTaken (not (knows_relvar p.0 db)) ≡ Valued tt) (sym first.other) is.free in
    let ks = map (λ key. key.items) c.in_ok-derived.derived.keys.items in
    let new = virtual_relvar c.in_ok-derived.name h (tree_view c.in_ok-derived.expression) ks in
    defined c.add_virtual.result c.args.catalog.now c.add_virtual.new.self (with_virtual new db) _ _ free c.add_virtual.ensures.answer c.add_virtual.ensures.added
    (over_typed _ h (λ g. Valued (with_virtual (virtual_relvar d.name g (tree_view d.expression) (map (ordered_names g) written)) db)) typed
    ∙ ap (λ ks. Valued (with_virtual (virtual_relvar d.name h (tree_view d.expression) ks) db)) (sym keys)
    ∙ ap (λ p. Valued (with_virtual (virtual_relvar p.0 h (tree_view p.1) ks) db)) (sym first.other))

pub returns-clause-held : goal.returns-clause-held
returns-clause-held g c =
    let db = c.args.catalog.now.database in
    let derived = c.in_ok-derived.derived in
    let new = virtual_relvar c.in_ok-derived.name derived.heading (tree_view c.in_ok-derived.expression) (map (λ key. key.items) derived.keys.items) in
    held_there c.add_virtual.result c.args.catalog.now c.add_virtual.new.self (with_virtual new db) c.add_virtual.ensures.added (bases_hold db c.requires.legal)

pub returns-clause-on : goal.returns-clause-on
returns-clause-on g c =
    let db = c.args.catalog.now.database in
    let derived = c.in_ok-derived.derived in
    let new = virtual_relvar c.in_ok-derived.name derived.heading (tree_view c.in_ok-derived.expression) (map (λ key. key.items) derived.keys.items) in
    goes c.add_virtual.result c.args.catalog.now c.add_virtual.new.self (with_virtual new db) c.add_virtual.ensures.added c.add_virtual.ensures.unchanged
