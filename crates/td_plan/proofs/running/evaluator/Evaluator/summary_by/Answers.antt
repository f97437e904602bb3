use Rattle.td_plan.proofs.running.evaluator.Evaluator.summary_by.Goals as goal

pub returns : goal.returns
returns g c = λ ps sound m.
    let a = c.in_ok-operand.ensures ps sound.0 m in
    let b = c.summary.ensures ps sound.1 a.1 in
    (rw (a.0, c.in_ok-per.ensures) b.0, b.1)
