use Rattle.td_plan.proofs.EqualRestrictions.{product_restricted_left, product_restricted_right}
use Rattle.td_plan.proofs.equalities.restriction_of_a_product.Goals as goal

pub returns-clause-left : goal.returns-clause-left
returns-clause-left c = product_restricted_left

pub returns-clause-right : goal.returns-clause-right
returns-clause-right c = product_restricted_right
