use Rattle.std.proofs.Common.{◌≡◌, subst, sym}
use Rattle.std.specs.Prelude.{IfSome}
use Rattle.td_body.specs.model.Bodies.{agreeing}
use Rattle.td_eval.proofs.code_lemmas.WalkedExtension.{related}
use Rattle.td_eval.specs.model.OperatorValues.{of_relation}
use Rattle.td_eval.specs.model.Worlds.{known_outcome}
use Rattle.td_plan.proofs.LookUpLaws.{agreeing_found}
use Rattle.td_plan.specs.code.Hands.{world_around}
use Rattle.td_tree.specs.model.Outcomes.{Answers, Valued}
use Rattle.td_plan.proofs.running.look_up.agreeing_value.Goals as goal

pub returns-in-Some-2 : goal.returns-in-Some-2
returns-in-Some-2 g c =
    let key = c.args.key.now in
    let r = g.B.Body.relation c.in-Some.entry.now.body in
    let found = subst (λ o. IfSome o (λ q. q ≡ agreeing key c.args.part.now r)) c.in-Some-2.is c.in_ok-found.ensures in
    subst (Answers (λ v. v) c.as_value.result)
    (sym (agreeing_found key (known_outcome ((world_around c.args.around.now).relvar c.args.name.now)) r c.args.part.now c.in-Some.ensures.value))
    (c.as_value.ensures (agreeing key c.args.part.now r) found)

pub returns : goal.returns
returns g c =
    let v = c.in_ok-operand.operand in
    let o = known_outcome ((world_around c.args.around.now).relvar c.args.name.now) in
    let given : o ≡ Valued v = subst (λ r. Answers (λ v. v) r o) c.in_ok-operand.was c.relvar_value.ensures in
    rw (given, related v c.in_ok-relation_in.field-0.now (λ r. of_relation (agreeing c.args.key.now c.args.part.now r)) c.in_ok-relation_in.ensures)
    c.agreeing_tuples.ensures
