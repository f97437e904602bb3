use Rattle.td_algebra.proofs.Renamings.{renaming_members}
use Rattle.td_algebra.proofs.laws.attributes.renaming_by_membership.Goals as goal

pub returns : goal.returns
returns c = renaming_members
