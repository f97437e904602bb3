use Rattle.td_plan.proofs.EqualRestrictions.{join_restricted_left, join_restricted_right}
use Rattle.td_plan.proofs.equalities.restriction_of_a_join.Goals as goal

pub returns-clause-left : goal.returns-clause-left
returns-clause-left c = join_restricted_left

pub returns-clause-right : goal.returns-clause-right
returns-clause-right c = join_restricted_right
