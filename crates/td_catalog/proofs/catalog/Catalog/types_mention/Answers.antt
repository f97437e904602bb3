use Rattle.std.proofs.Common.{◌≡◌, ◌∙◌, ap, arith, length, sym, take}
use Rattle.td_catalog.specs.code.KeptDatabases.{CatalogView}
use Rattle.std.specs.Prelude.{◌||◌}
use Rattle.std.specs.List.{list_any, slice_get}
use Rattle.std.proofs.lemmas.List.{take_all}
use Rattle.td_catalog.specs.code.CatalogViews.{database_view, rows_of}
use Rattle.td_catalog.specs.model.Database.{Database}
use Rattle.td_catalog.specs.model.Mentioned.{condition_mentions_type, type_mentions_type}
use Rattle.td_catalog.proofs.Visits.{components_distinct, condition_typed, none_next, passes_at}
use Rattle.td_catalog.proofs.catalog.Catalog.types_mention.Goals as goal
use Rattle.td_catalog.proofs.catalog.Catalog.types_mention.Goals.{then-components_name_user-via-else-components_name_user+in_ok-constraint_mentions+then-branch, then-components_name_user-via-then-components_name_user}
use Rattle.td_types.specs.model.NamedTypes.{any_names_user}
use Rattle.td_types.specs.model.Types.{pack}

pub constraint_mentions-requires : goal.constraint_mentions-requires
constraint_mentions-requires g c =
    let name = c.args.name.now in
    let db = database_view g.B.Body.relation (rows_of c.self.inside.tables) in
    components_distinct db c.self.invariant.history.catalog.is_typed c.loop-place.place c.in-Some.entry.now (sym c.in-Some.ensures)

pub returns-then-components_name_user : goal.returns-then-components_name_user
returns-then-components_name_user g c =
    let name = c.args.name.now in
    let db =
    database_view g.B.Body.relation
    (rows_of c.self.inside.tables) in
    let at = ap (λ (d : Database). slice_get d.types c.loop-place.place) (sym (ap (λ (v : CatalogView). v.database) c.self.view_is)) ∙ sym c.in-Some.ensures in
    let made = c.components_name_user.ensures ∙ ap (λ xs. any_names_user name (pack xs)) c.components.ensures in
    let d = c.in-Some.entry.now in
    let typed = condition_typed db c.self.invariant.history.catalog.is_typed c.loop-place.place d (sym c.in-Some.ensures) in
    passes_at (type_mentions_type name) c.args.self.now.database.types c.loop-place.place d at
    (elim c.then-components_name_user.branch [
      | then-components_name_user-via-then-components_name_user w ↦ ap (λ b. b || condition_mentions_type name d.constraint) (sym made ∙ w.if-components_name_user.true)
      | then-components_name_user-via-else-components_name_user+in_ok-constraint_mentions+then-branch w ↦ λ i. (sym made ∙ w.if-components_name_user.false) i || (sym (w.in_ok-constraint_mentions.ensures typed) ∙ w.if-branch.true) i
    ])

pub loop-place-preserved : goal.loop-place-preserved
loop-place-preserved g c =
    let name = c.args.name.now in
    let db = database_view g.B.Body.relation (rows_of c.self.inside.tables) in
    let at = ap (λ (d : Database). slice_get d.types c.loop-place.place) (sym (ap (λ (v : CatalogView). v.database) c.self.view_is)) ∙ sym c.in-Some.ensures in
    let made = c.components_name_user.ensures ∙ ap (λ xs. any_names_user name (pack xs)) c.components.ensures in
    let mentioned = c.in_ok-constraint_mentions.ensures (condition_typed db c.self.invariant.history.catalog.is_typed c.loop-place.place c.in-Some.entry.now (sym c.in-Some.ensures)) in
    none_next (type_mentions_type name) c.args.self.now.database.types c.loop-place.place c.in-Some.entry.now at c.loop-place.invariant
    (λ i. (sym made ∙ c.if-components_name_user.false) i || (sym mentioned ∙ c.if-branch.false) i)

pub returns : goal.returns
returns g c =
    let test = type_mentions_type c.args.name.now in
    let types = c.args.self.now.database.types in
    let counted = ap (λ (d : Database). length d.types) (ap (λ (v : CatalogView). v.database) c.self.view_is) in
    let all : take c.loop-place.place types ≡ types = take_all c.loop-place.place types (omega (arith, counted, c.len-place-end.ensures, c.loop-place-test.false)) in
    sym (ap (list_any test) (sym all) ∙ c.loop-place.invariant)
