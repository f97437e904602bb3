use Rattle.td_check.proofs.HeadingRules.{composed_answers}
use Rattle.td_check.proofs.rules.headings.composed_heading.Goals as goal

pub returns : goal.returns
returns c =
    composed_answers c.args.heading.now c.args.other.now c.in_ok-common.common c.in_ok-left.left c.in_ok-right.right c.union.result
    c.in_ok-common.ensures.answer c.in_ok-left.ensures.heading c.in_ok-right.ensures.heading c.union.ensures.answer
