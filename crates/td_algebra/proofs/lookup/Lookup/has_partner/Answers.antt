use Rattle.std.proofs.Common.{◌∙◌, ap}
use Rattle.std.specs.Prelude.{is_some}
use Rattle.td_algebra.specs.code.Lookups.{has_part, part_of}
use Rattle.td_algebra.proofs.Lookups.{first_there}
use Rattle.td_algebra.proofs.lookup.Lookup.has_partner.Goals as goal

pub returns : goal.returns
returns c =
    c.is_some.ensures ∙ ap is_some c.first.ensures
    ∙ first_there (has_part c.args.self.now.0 (part_of c.args.places.now c.args.tuple.now)) 0 c.args.self.now.1
