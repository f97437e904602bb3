use Rattle.std.proofs.Common.{subst, sym}
use Rattle.td_engine.proofs.code_lemmas.ConstraintPlanLaws.{none_kept}
use Rattle.td_engine.specs.code.ConstraintPlans.{AreKeptPlans}
use Rattle.td_engine.proofs.constraint_plans.forget.Goals as goal

pub returns : goal.returns
returns c = λ db. subst (AreKeptPlans db) (sym c.clear.ensures.items) (none_kept db)
