use Rattle.td_plan.proofs.running.evaluator.Evaluator.run.Goals as goal

pub returns : goal.returns
returns g c = c.requires.below.values _ _ _ _ _ c.inner.ensures
