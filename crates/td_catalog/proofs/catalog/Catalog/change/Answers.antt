use Rattle.std.proofs.Common.{◌≡◌, ◌∙◌, ℕ, ap, refl, subst, sym}
use Rattle.std.specs.List.{AllByRecursion}
use Rattle.td_body.specs.model.Bodies.{after_change}
use Rattle.td_catalog.specs.code.CatalogViews.{database_view, rows_of}
use Rattle.td_catalog.specs.model.Database.{base_named, with_body}
use Rattle.td_catalog.specs.code.Histories.{HasRoom, IsHistory, IsOwnStep, before, dropped_in, held_view, history_view}
use Rattle.td_catalog.specs.code.KeptDatabases.{CatalogView, advanced_view}
use Rattle.td_catalog.specs.declared.history.Step.TheVariants.{BodyChanged}
use Rattle.td_catalog.proofs.ChangedBodies.{if_some, on_any_error}
use Rattle.td_catalog.proofs.Named.{own_more}
use Rattle.td_catalog.proofs.Steps.{history_next, room_stays, view_next, view_same}
use Rattle.td_catalog.proofs.catalog.Catalog.change.Goals as goal

pub returns-in_err-change-clause-unchanged : goal.returns-in_err-change-clause-unchanged
returns-in_err-change-clause-unchanged g c =
    let relation = g.B.Body.relation in
    let keys = g.B.Body.keys in
    let kept = g.B.Body.kept in
    let rows = rows_of c.self.inside.tables in
    let others = rows_of c.change.new.self in
    let steps = c.reserve.new.self.steps.items in
    let now = ap (λ (v : CatalogView). v.database) c.self.view_is in
    on_any_error _ c.from_residual-in_err-change.result
    (view_same relation keys kept rows others steps c.in_err-change.ensures.same ∙ ap (history_view relation keys kept rows) c.reserve.ensures.steps ∙ c.self.view_is)

pub invariant_of-self-2 : goal.invariant_of-self-2
invariant_of-self-2 g c =
    let relation = g.B.Body.relation in
    let keys = g.B.Body.keys in
    let kept = g.B.Body.kept in
    let rows = rows_of c.self.inside.tables in
    let others = rows_of c.change.new.self in
    let steps = c.reserve.new.self.steps.items in
    let now = ap (λ (v : CatalogView). v.database) c.self.view_is in
    let led = ap (λ n. before relation keys kept (BodyChanged n) (held_view relation keys kept others)) c.in_ok-changed.ensures ∙ c.in_ok-change.ensures.led in
    let history : IsHistory relation keys kept rows steps = subst (IsHistory relation keys kept rows) (sym c.reserve.ensures.steps) c.self.invariant.history in
    record {
      history = history_next relation keys kept rows others steps c.note.new.self.steps.items (BodyChanged c.in_ok-changed.changed) c.note.ensures led history c.change.ensures.catalog;
      room = room_stays c.self.inside.tables c.change.new.self steps c.note.new.self.steps.items (BodyChanged c.in_ok-changed.changed) c.note.ensures refl
          (subst (λ (n : ℕ). HasRoom n c.self.inside.tables) (ap dropped_in (sym c.reserve.ensures.steps)) c.self.invariant.room) c.change.ensures.room;
      named = c.change.ensures.known.0 ∙ c.self.invariant.named ∙ sym c.change.ensures.known.1;
      own = own_more steps c.note.new.self.steps.items (BodyChanged c.in_ok-changed.changed) c.note.ensures (subst (AllByRecursion IsOwnStep) (sym c.reserve.ensures.steps) c.self.invariant.own) tt;
    }

pub returns-clause-changed : goal.returns-clause-changed
returns-clause-changed g c =
    let relation = g.B.Body.relation in
    let keys = g.B.Body.keys in
    let kept = g.B.Body.kept in
    let rows = rows_of c.self.inside.tables in
    let others = rows_of c.change.new.self in
    let steps = c.reserve.new.self.steps.items in
    let now = ap (λ (v : CatalogView). v.database) c.self.view_is in
    let led = ap (λ n. before relation keys kept (BodyChanged n) (held_view relation keys kept others)) c.in_ok-changed.ensures ∙ c.in_ok-change.ensures.led in
    if_some (λ r. database_view relation others ≡ with_body c.args.name.now (after_change c.args.out.now c.args.add.now r.relation) (database_view relation rows))
    (λ r. history_view relation keys kept others c.note.new.self.steps.items ≡ advanced_view (with_body c.args.name.now (after_change c.args.out.now c.args.add.now r.relation) c.args.self.now.database) c.args.self.now)
    (base_named c.args.name.now (database_view relation rows)) (base_named c.args.name.now c.args.self.now.database) (ap (base_named c.args.name.now) now)
    (λ r is. view_next relation keys kept rows others steps c.note.new.self.steps.items (BodyChanged c.in_ok-changed.changed) c.note.ensures led c.args.self.now _
    (ap (history_view relation keys kept rows) c.reserve.ensures.steps ∙ c.self.view_is)
    (is ∙ ap (with_body c.args.name.now (after_change c.args.out.now c.args.add.now r.relation)) now))
    c.in_ok-change.ensures.changed
