use Rattle.td_types.proofs.Meanings.{known_type}
use Rattle.td_types.proofs.laws.meant_types_are_known.Goals as goal

pub returns : goal.returns
returns c = known_type
