use Rattle.std.proofs.Common.{◌∙◌}
use Rattle.td_check.proofs.CannotFail.{nothing_added}
use Rattle.td_check.proofs.cannot_fail.items_cannot_fail.Goals as goal

pub returns : goal.returns
returns c = c.is_empty.ensures ∙ nothing_added c.args.items.now
