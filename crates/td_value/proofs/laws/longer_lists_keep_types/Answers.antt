use Rattle.td_value.proofs.KnownValues.{kept}
use Rattle.td_value.proofs.laws.longer_lists_keep_types.Goals as goal

pub returns : goal.returns
returns c = kept
