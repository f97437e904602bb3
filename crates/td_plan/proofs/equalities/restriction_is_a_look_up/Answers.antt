use Rattle.td_plan.proofs.EqualLookUps.{restricted_after_look_up, values_told}
use Rattle.td_plan.proofs.equalities.restriction_is_a_look_up.Goals as goal

pub returns-clause-told : goal.returns-clause-told
returns-clause-told c = values_told

pub returns-clause-after : goal.returns-clause-after
returns-clause-after c = restricted_after_look_up
