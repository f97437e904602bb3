use Rattle.td_plan.proofs.EqualValues.{where_of_intersect_left, where_of_minus, where_of_union}
use Rattle.td_plan.proofs.equalities.where_of_one_heading.Goals as goal

pub returns-clause-union : goal.returns-clause-union
returns-clause-union c = where_of_union

pub returns-clause-intersect : goal.returns-clause-intersect
returns-clause-intersect c = where_of_intersect_left

pub returns-clause-minus : goal.returns-clause-minus
returns-clause-minus c = where_of_minus
