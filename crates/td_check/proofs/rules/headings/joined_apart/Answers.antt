use Rattle.td_check.proofs.HeadingRules.{joined_answers}
use Rattle.td_check.proofs.rules.headings.joined_apart.Goals as goal

pub returns : goal.returns
returns c = joined_answers c.args.heading.now c.args.other.now c.union.result c.is_apart_from.result c.is_apart_from.ensures c.in_ok-ask.ensures c.union.ensures.answer
