use Rattle.std.proofs.Common.{◌≡◌, ◌∙◌, ap, map, subst, sym}
use Rattle.std.specs.Prelude.{OnOk}
use Rattle.td_catalog.specs.model.Database.{base_relvar, knows_relvar, with_base}
use Rattle.td_catalog.specs.model.TypedDatabases.{AreTyped}
use Rattle.td_engine.proofs.code_lemmas.Done.{goes, made_there, new_there}
use Rattle.td_types.specs.model.TypeLists.{AreKnown}
use Rattle.td_types.specs.model.Types.{pack}
use Rattle.td_value.specs.model.Values.{Relation}
use Rattle.td_engine.proofs.bases.add_base.Goals as goal

pub add_base-requires-clause-heading : goal.add_base-requires-clause-heading
add_base-requires-clause-heading g c = subst (λ h. AreKnown c.args.catalog.now.database.types (pack h)) (sym c.in_ok-parts.ensures.heading) c.requires.heading

pub add_base-requires-clause-body : goal.add_base-requires-clause-body
add_base-requires-clause-body g c =
    let is = c.in_ok-parts.ensures in
    record {
      heading_is = ap (λ (r : Relation). r.heading) is.relation ∙ sym is.heading;
      keys_are = is.body ∙ sym (ap (λ ks. map (λ key. key.items) ks.items) is.keys);
    }

pub add_base-requires-clause-typed : goal.add_base-requires-clause-typed
add_base-requires-clause-typed g c = subst (AreTyped c.args.catalog.now.database.types) (sym c.in_ok-parts.ensures.relation) c.requires.typed

pub returns-clause-added : goal.returns-clause-added
returns-clause-added g c =
    let is = c.in_ok-parts.ensures in
    let db = c.args.catalog.now.database in
    let parts = c.in_ok-parts.parts in
    let written = map (λ key. key.items) c.args.keys.items in
    subst (λ r. OnOk c.add_base.result (c.add_base.new.self.database ≡ with_base r db))
    (ap (λ n. base_relvar n (g.B.Body.keys parts.body) (g.B.Body.relation parts.body)) is.name
    ∙ ap (λ ks. base_relvar c.args.name ks (g.B.Body.relation parts.body)) is.body
    ∙ ap (base_relvar c.args.name written) is.relation)
    (made_there c.add_base.result c.args.catalog.now c.add_base.new.self (with_base (base_relvar parts.name (g.B.Body.keys parts.body) (g.B.Body.relation parts.body)) db)
    c.add_base.ensures.added)

pub returns-clause-on : goal.returns-clause-on
returns-clause-on g c =
    let parts = c.in_ok-parts.parts in
    goes c.add_base.result c.args.catalog.now c.add_base.new.self
    (with_base (base_relvar parts.name (g.B.Body.keys parts.body) (g.B.Body.relation parts.body)) c.args.catalog.now.database)
    c.add_base.ensures.added c.add_base.ensures.unchanged

pub returns-clause-new : goal.returns-clause-new
returns-clause-new g c = new_there c.add_base.result (knows_relvar c.in_ok-parts.parts.name c.args.catalog.now.database) (knows_relvar c.args.name c.args.catalog.now.database)
    (ap (λ n. knows_relvar n c.args.catalog.now.database) c.in_ok-parts.ensures.name) c.add_base.ensures.answer
