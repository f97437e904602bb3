use Rattle.std.proofs.Common.{subst}
use Rattle.td_types.specs.model.Types.{IsAscending}
use Rattle.td_types.proofs.HeadingLaws.{ascending_from_heading}
use Rattle.td_types.proofs.heading.Heading.reveal.Goals as goal

pub returns-clause-ascending : goal.returns-clause-ascending
returns-clause-ascending c = subst IsAscending c.self.view_is (ascending_from_heading _ c.self.invariant)
