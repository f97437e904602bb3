use Rattle.td_body.proofs.Differences.{led_over}
use Rattle.td_body.proofs.laws.differences_lead_over.Goals as goal

pub returns : goal.returns
returns c = led_over
