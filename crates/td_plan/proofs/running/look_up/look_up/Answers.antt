use Rattle.std.proofs.Common.{◌≡◌, subst}
use Rattle.td_eval.specs.model.Worlds.{known_outcome}
use Rattle.td_plan.proofs.LookUpLaws.{tupled}
use Rattle.td_plan.specs.code.Hands.{world_around}
use Rattle.td_plan.specs.code.Plans.{agreeing_value}
use Rattle.td_tree.specs.model.Outcomes.{Answers, Valued}
use Rattle.td_plan.proofs.running.look_up.look_up.Goals as goal

pub returns : goal.returns
returns g c = λ o a.
    let v = c.in_ok-part.part in
    let given : o ≡ Valued v = subst (λ r. Answers (λ v. v) r o) c.in_ok-part.was a in
    let relvar = known_outcome ((world_around c.args.around.now).relvar c.args.name.now) in
    rw (given, tupled v c.in_ok-tuple_in.field-0.now (agreeing_value c.args.key.now relvar) c.in_ok-tuple_in.ensures)
    c.agreeing_value.ensures
