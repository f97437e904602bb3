use Rattle.td_catalog.specs.code.CatalogViews.{rows_of}
use Rattle.td_catalog.proofs.Named.{own_last, own_rest}
use Rattle.td_catalog.proofs.Steps.{history_back, room_back, stage_back, view_back}
use Rattle.td_catalog.proofs.catalog.Catalog.step_back.Goals as goal

pub undo-requires-clause-stage : goal.undo-requires-clause-stage
undo-requires-clause-stage g c =
    let relation = g.B.Body.relation in
    let keys = g.B.Body.keys in
    let kept = g.B.Body.kept in
    let others = rows_of c.self.inside.tables in
    let steps = c.pop.new.self.steps.items in
    let next = c.self.inside.log.steps.items in
    stage_back relation keys kept others others steps next c.in-Some.step c.in-Some.ensures.some c.self.invariant.history

pub invariant_of-self-2 : goal.invariant_of-self-2
invariant_of-self-2 g c =
    let relation = g.B.Body.relation in
    let keys = g.B.Body.keys in
    let kept = g.B.Body.kept in
    let others = rows_of c.self.inside.tables in
    let steps = c.pop.new.self.steps.items in
    let next = c.self.inside.log.steps.items in
    record {
      history = history_back relation keys kept (rows_of c.undo.new.self) others steps next c.in-Some.step c.in-Some.ensures.some c.self.invariant.history c.undo.ensures.held;
      room = room_back c.self.inside.tables c.undo.new.self steps next c.in-Some.step c.in-Some.ensures.some c.self.invariant.room c.undo.ensures.room;
      named = c.undo.ensures.named;
      own = own_rest steps next c.in-Some.step c.in-Some.ensures.some c.self.invariant.own;
    }

pub returns-clause-back : goal.returns-clause-back
returns-clause-back g c _ =
    let relation = g.B.Body.relation in
    let keys = g.B.Body.keys in
    let kept = g.B.Body.kept in
    let others = rows_of c.self.inside.tables in
    let steps = c.pop.new.self.steps.items in
    let next = c.self.inside.log.steps.items in
    view_back relation keys kept (rows_of c.undo.new.self) others steps next c.in-Some.step c.in-Some.ensures.some c.self.invariant.history c.undo.ensures.held c.args.self.now c.self.view_is

pub undo-requires-clause-own : goal.undo-requires-clause-own
undo-requires-clause-own g c = own_last c.pop.new.self.steps.items c.self.inside.log.steps.items c.in-Some.step c.in-Some.ensures.some c.self.invariant.own
