use Rattle.td_algebra.proofs.Settings.{setting_members}
use Rattle.td_algebra.proofs.laws.attributes.setting_by_membership.Goals as goal

pub returns : goal.returns
returns c = setting_members
