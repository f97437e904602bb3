use Rattle.td_plan.proofs.EqualValues.{where_of_join_left, where_of_join_right, where_of_times_left, where_of_times_right}
use Rattle.td_plan.proofs.equalities.where_of_a_join.Goals as goal

pub returns-clause-left : goal.returns-clause-left
returns-clause-left c = where_of_join_left

pub returns-clause-right : goal.returns-clause-right
returns-clause-right c = where_of_join_right

pub returns-clause-times_left : goal.returns-clause-times_left
returns-clause-times_left c = where_of_times_left

pub returns-clause-times_right : goal.returns-clause-times_right
returns-clause-times_right c = where_of_times_right
