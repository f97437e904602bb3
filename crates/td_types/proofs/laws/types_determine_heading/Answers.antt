use Rattle.td_types.proofs.HeadingLaws.{types_determine_heading}
use Rattle.td_types.proofs.laws.types_determine_heading.Goals as goal

pub returns : goal.returns
returns c = types_determine_heading
