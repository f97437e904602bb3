use Rattle.td_plan.proofs.running.virtuals.mark_reached.Given as goal

abbrev pub decreases-loop-place : goal.decreases-loop-place
decreases-loop-place g l = l.place
