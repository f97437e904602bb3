use Rattle.td_plan.proofs.EqualValues.{and_of_both, equality_of_one, where_after_look_up}
use Rattle.td_plan.proofs.equalities.where_is_a_look_up.Goals as goal

pub returns-clause-equal : goal.returns-clause-equal
returns-clause-equal c = equality_of_one

pub returns-clause-both : goal.returns-clause-both
returns-clause-both c = and_of_both

pub returns-clause-after : goal.returns-clause-after
returns-clause-after c = where_after_look_up
