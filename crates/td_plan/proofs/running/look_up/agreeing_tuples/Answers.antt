use Rattle.std.proofs.Common.{◌∙◌, ap, map}
use Rattle.td_body.specs.model.Bodies.{agreeing}
use Rattle.td_value.specs.model.Agreement.{agree_on}
use Rattle.td_plan.proofs.running.look_up.agreeing_tuples.Goals as goal

pub returns : goal.returns
returns c =
    c.as_value.ensures (agreeing c.args.key.now c.args.part.now c.args.rel.now)
    (c.restrict.ensures (agree_on c.args.key.now c.args.part.now)
    (c.deref.ensures.value ∙ c.in_ok-truths.ensures ∙ ap (map (agree_on c.args.key.now c.args.part.now)) c.rows.ensures.rows))
