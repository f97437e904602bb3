use Rattle.td_group.proofs.RoundTrips.{ungroup_undoes_group}
use Rattle.td_group.proofs.laws.ungroup_undoes_group.Goals as goal

pub returns : goal.returns
returns c = ungroup_undoes_group
