use Rattle.td_body.proofs.Held.{held_by_membership}
use Rattle.td_body.proofs.laws.keys_hold_by_membership.Goals as goal

pub returns : goal.returns
returns c = held_by_membership
