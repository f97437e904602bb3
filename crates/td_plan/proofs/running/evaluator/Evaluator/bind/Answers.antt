use Rattle.std.proofs.Common.{◌∙◌, ap, refl, subst, sym, Ok}
use Rattle.std.proofs.lemmas.Result.{err_from_is_err_and}
use Rattle.std.specs.Borrow.{Bor}
use Rattle.td_plan.proofs.BoundRuns.{item_entered, item_refused, item_untupled, no_memory}
use Rattle.td_plan.specs.code.Plans.{with_slot}
use Rattle.td_plan.specs.code.Bindings.{IsEntered, where_in_slot}
use Rattle.td_plan.specs.code.Hands.{slots_in, slots_of}
use Rattle.td_plan.specs.code.Memos.{IsMemo}
use Rattle.td_value.specs.model.Values.{Tuple}
use Rattle.td_value.specs.code.Views.{values_of}
use Rattle.td_plan.proofs.running.evaluator.Evaluator.bind.Goals as goal

pub returns-in_err-value : goal.returns-in_err-value
returns-in_err-value g c = λ ps sound m.
    let w = g.A.InWorld.world c.args.self.now.around.now in
    let slot = c.args.slot in
    let item = c.args.item.now in
    let here = c.hand_of.ensures ∙ ap slots_in c.deref.ensures.value in
    let a = c.in_err-value.ensures ps sound (subst (λ t. IsMemo ps w t c.args.memo.now) (sym here) m) in
    let e = err_from_is_err_and c.from_residual.result c.from_residual.ensures.1 in
    subst (λ t. IsEntered ps w slot t (where_in_slot w t slot item) c.from_residual.result c.args.rows.now.items c.run.new.memo) here
    (rw (e.1, e.2) (item_refused ps w slot (slots_of c.hand_of.result) item _ c.args.rows.now.items c.run.new.memo a.0 a.1))

pub returns-in_err-tuple_in : goal.returns-in_err-tuple_in
returns-in_err-tuple_in g c = λ ps sound m.
    let w = g.A.InWorld.world c.args.self.now.around.now in
    let slot = c.args.slot in
    let item = c.args.item.now in
    let here = c.hand_of.ensures ∙ ap slots_in c.deref.ensures.value in
    let a = c.in_ok-value.ensures ps sound (subst (λ t. IsMemo ps w t c.args.memo.now) (sym here) m) in
    let e = err_from_is_err_and c.from_residual-in_err-tuple_in.result c.from_residual-in_err-tuple_in.ensures.1 in
    subst (λ t. IsEntered ps w slot t (where_in_slot w t slot item) c.from_residual-in_err-tuple_in.result c.args.rows.now.items c.run.new.memo) here
    (rw (e.1, e.2) (item_untupled ps w slot (slots_of c.hand_of.result) item (λ (t : Bor Tuple). t.now) _ c.in_ok-value.value c.args.rows.now.items c.run.new.memo a.0
    c.in_err-tuple_in.ensures a.1))

pub returns-in_err-tuple : goal.returns-in_err-tuple
returns-in_err-tuple g c = λ ps sound m.
    let w = g.A.InWorld.world c.args.self.now.around.now in
    let slot = c.args.slot in
    let item = c.args.item.now in
    let here = c.hand_of.ensures ∙ ap slots_in c.deref.ensures.value in
    let a = c.in_ok-value.ensures ps sound (subst (λ t. IsMemo ps w t c.args.memo.now) (sym here) m) in
    let e = err_from_is_err_and c.from_residual-in_err-tuple.result c.from_residual-in_err-tuple.ensures.1 in
    subst (λ t. IsEntered ps w slot t (where_in_slot w t slot item) c.from_residual-in_err-tuple.result c.args.rows.now.items c.run.new.memo) here
    (rw (e.1, e.2) (no_memory ps w slot (slots_of c.hand_of.result) (where_in_slot w (slots_of c.hand_of.result) slot item) c.args.rows.now.items c.run.new.memo a.1))

pub returns-in_err-put : goal.returns-in_err-put
returns-in_err-put g c = λ ps sound m.
    let w = g.A.InWorld.world c.args.self.now.around.now in
    let slot = c.args.slot in
    let item = c.args.item.now in
    let s = slots_of c.hand_of.result in
    let here = c.hand_of.ensures ∙ ap slots_in c.deref.ensures.value in
    let a = c.in_ok-value.ensures ps sound (subst (λ t. IsMemo ps w t c.args.memo.now) (sym here) m) in
    let e = err_from_is_err_and c.from_residual-in_err-put.result c.from_residual-in_err-put.ensures.1 in
    subst (λ t. IsEntered ps w slot t (where_in_slot w t slot item) c.from_residual-in_err-put.result c.put.new.rows.items c.forget.new.memo) here
    (rw (e.1, e.2) (no_memory ps w slot s (where_in_slot w s slot item) c.put.new.rows.items c.forget.new.memo (c.forget.ensures ps w s s (λ j l. refl) a.1 s (λ j l. refl))))

pub returns : goal.returns
returns g c = λ ps sound m.
    let w = g.A.InWorld.world c.args.self.now.around.now in
    let slot = c.args.slot in
    let item = c.args.item.now in
    let s = slots_of c.hand_of.result in
    let here = c.hand_of.ensures ∙ ap slots_in c.deref.ensures.value in
    let a = c.in_ok-value.ensures ps sound (subst (λ t. IsMemo ps w t c.args.memo.now) (sym here) m) in
    subst (λ t. IsEntered ps w slot t (where_in_slot w t slot item) (Ok tt) c.put.new.rows.items c.forget.new.memo) here
    (item_entered ps w slot s item c.in_ok-value.value c.in_ok-tuple_in.field-0.now c.put.new.rows.items c.forget.new.memo a.0 c.in_ok-tuple_in.ensures
    (c.in_ok-put.ensures ∙ (λ i. with_slot slot (values_of (c.in_ok-tuple.ensures i)) (sym here i)))
    (λ u agree. c.forget.ensures ps w s s (λ j l. refl) a.1 u agree))
