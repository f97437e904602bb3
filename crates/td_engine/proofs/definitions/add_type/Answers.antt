use Rattle.std.proofs.Common.{◌≡◌, ◌∙◌, ap, option_map, subst, sym}
use Rattle.std.specs.Prelude.{not}
use Rattle.td_catalog.specs.model.Database.{with_declared}
use Rattle.td_catalog.specs.model.TypedDatabases.{IsConstrained}
use Rattle.td_check.specs.model.StatementTypes.{holds_or}
use Rattle.td_engine.proofs.law_lemmas.Admitted.{type_admitted}
use Rattle.td_engine.proofs.code_lemmas.Done.{defined, goes, held_there}
use Rattle.td_engine.proofs.law_lemmas.Settled.{bases_hold}
use Rattle.td_engine.proofs.law_lemmas.WrittenStatements.{statement_written}
use Rattle.td_tree.specs.model.Outcomes.{Answers, Valued, with_value}
use Rattle.td_tree.specs.code.TreeViews.{heading_tree_view, tree_view}
use Rattle.td_tree.specs.model.Trees.{define_type}
use Rattle.td_tree.specs.declared.cause.Cause.TheVariants as causes
use Rattle.td_types.specs.model.TypeLists.{attributes_meant, declared_type, is_declared}
use Rattle.td_types.specs.code.Views.{pairs_view}
use Rattle.td_engine.proofs.definitions.add_type.Goals as goal

pub add_type-requires-clause-components : goal.add_type-requires-clause-components
add_type-requires-clause-components g c =
    let d = c.args.definition in
    let db = c.args.catalog.now.database in
    let first = c.in_ok-components.ensures in
    let xs = pairs_view c.in_ok-components.components.items in
    let resolved = subst (λ r. Answers (λ a. pairs_view a.items) r (attributes_meant c.types.result.now (heading_tree_view c.deref.result.now))) first.value c.resolve_attributes-components.ensures in
    let meant : attributes_meant db.types (heading_tree_view d.components.items) ≡ Valued xs = rw (← c.types.ensures, ← c.deref.ensures.value) resolved in
    let names = (statement_written (define_type d.name (heading_tree_view d.components.items) (option_map tree_view d.constraint)) c.requires.admitted.spelled).1 in
    let is = type_admitted db d.name (heading_tree_view d.components.items) (option_map tree_view d.constraint) xs names c.requires.admitted meant in
    is.components

pub add_type-requires-clause-constrained : goal.add_type-requires-clause-constrained
add_type-requires-clause-constrained g c =
    let d = c.args.definition in
    let db = c.args.catalog.now.database in
    let first = c.in_ok-components.ensures in
    let xs = pairs_view c.in_ok-components.components.items in
    let resolved = subst (λ r. Answers (λ a. pairs_view a.items) r (attributes_meant c.types.result.now (heading_tree_view c.deref.result.now))) first.value c.resolve_attributes-components.ensures in
    let meant : attributes_meant db.types (heading_tree_view d.components.items) ≡ Valued xs = rw (← c.types.ensures, ← c.deref.ensures.value) resolved in
    let names = (statement_written (define_type d.name (heading_tree_view d.components.items) (option_map tree_view d.constraint)) c.requires.admitted.spelled).1 in
    let is = type_admitted db d.name (heading_tree_view d.components.items) (option_map tree_view d.constraint) xs names c.requires.admitted meant in
    subst (λ p. IsConstrained db.types (declared_type p.0 xs (option_map tree_view p.1))) (sym first.other) is.constrained

pub returns-clause-answer : goal.returns-clause-answer
returns-clause-answer g c =
    let d = c.args.definition in
    let db = c.args.catalog.now.database in
    let first = c.in_ok-components.ensures in
    let xs = pairs_view c.in_ok-components.components.items in
    let resolved = subst (λ r. Answers (λ a. pairs_view a.items) r (attributes_meant c.types.result.now (heading_tree_view c.deref.result.now))) first.value c.resolve_attributes-components.ensures in
    let meant : attributes_meant db.types (heading_tree_view d.components.items) ≡ Valued xs = rw (← c.types.ensures, ← c.deref.ensures.value) resolved in
    let names = (statement_written (define_type d.name (heading_tree_view d.components.items) (option_map tree_view d.constraint)) c.requires.admitted.spelled).1 in
    let is = type_admitted db d.name (heading_tree_view d.components.items) (option_map tree_view d.constraint) xs names c.requires.admitted meant in
    let free = subst (λ p. holds_or causes.NameTaken (not (is_declared p.0 db.types)) ≡ Valued tt) (sym first.other) is.free in
    let new = declared_type c.in_ok-components.name xs (option_map tree_view c.in_ok-components.constraint) in
    defined c.add_type.result c.args.catalog.now c.add_type.new.self (with_declared new db) _ _ free c.add_type.ensures.answer c.add_type.ensures.added
    (ap (λ o. with_value o (λ ys. Valued (with_declared (declared_type d.name ys (option_map tree_view d.constraint)) db))) is.meant
    ∙ ap (λ p. Valued (with_declared (declared_type p.0 xs (option_map tree_view p.1)) db)) (sym first.other))

pub returns-clause-held : goal.returns-clause-held
returns-clause-held g c =
    let db = c.args.catalog.now.database in
    let new = declared_type c.in_ok-components.name (pairs_view c.in_ok-components.components.items) (option_map tree_view c.in_ok-components.constraint) in
    held_there c.add_type.result c.args.catalog.now c.add_type.new.self (with_declared new db) c.add_type.ensures.added (bases_hold db c.requires.legal)

pub returns-clause-on : goal.returns-clause-on
returns-clause-on g c =
    let new = declared_type c.in_ok-components.name (pairs_view c.in_ok-components.components.items) (option_map tree_view c.in_ok-components.constraint) in
    goes c.add_type.result c.args.catalog.now c.add_type.new.self (with_declared new c.args.catalog.now.database) c.add_type.ensures.added c.add_type.ensures.unchanged
