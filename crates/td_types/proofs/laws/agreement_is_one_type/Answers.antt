use Rattle.td_types.proofs.HeadingLaws.{agreement_is_one_type}
use Rattle.td_types.proofs.laws.agreement_is_one_type.Goals as goal

pub returns : goal.returns
returns c = agreement_is_one_type
