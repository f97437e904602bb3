use Rattle.td_algebra.proofs.Projections.{projection_members}
use Rattle.td_algebra.proofs.laws.attributes.projection_by_membership.Goals as goal

pub returns : goal.returns
returns c = projection_members
