use Rattle.td_algebra.proofs.JoinMembers.{product_members}
use Rattle.td_algebra.proofs.laws.joins.product_by_membership.Goals as goal

pub returns : goal.returns
returns c = product_members
