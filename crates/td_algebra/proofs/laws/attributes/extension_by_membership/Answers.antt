use Rattle.td_algebra.proofs.Extensions.{extension_members}
use Rattle.td_algebra.proofs.laws.attributes.extension_by_membership.Goals as goal

pub returns : goal.returns
returns c = extension_members
