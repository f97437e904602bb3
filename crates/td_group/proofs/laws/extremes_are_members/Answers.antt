use Rattle.td_group.proofs.Extremes.{greatest_is_a_member, least_is_a_member}
use Rattle.td_group.proofs.laws.extremes_are_members.Goals as goal

pub returns : goal.returns
returns c = record { greatest = greatest_is_a_member; least = least_is_a_member }
