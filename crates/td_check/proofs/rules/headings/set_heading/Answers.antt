use Rattle.td_types.specs.code.Views.{pairs_view}
use Rattle.td_check.proofs.HeadingRules.{set_answers}
use Rattle.td_check.proofs.rules.headings.set_heading.Goals as goal

pub returns : goal.returns
returns c =
    set_answers c.args.heading.now c.in_ok-set.set c.in_ok-others.others (pairs_view c.args.attributes.items) c.union.result
    c.reveal.ensures.ascending c.in_ok-set.ensures.answer c.in_ok-set.ensures.types c.in_ok-others.ensures.heading c.union.ensures.answer
