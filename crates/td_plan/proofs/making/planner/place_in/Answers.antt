use Rattle.std.proofs.Common.{◌∙◌, sym}
use Rattle.td_plan.proofs.Places.{no_place_yet, place_here}
use Rattle.td_plan.proofs.making.planner.place_in.Goals as goal

pub returns-then-is_at : goal.returns-then-is_at
returns-then-is_at c =
    sym (place_here c.args.name.now c.args.heading.now c.loop-place.place (sym c.is_at.ensures ∙ c.if-is_at.true) c.loop-place.invariant)

pub loop-place-preserved : goal.loop-place-preserved
loop-place-preserved c =
    no_place_yet c.args.name.now c.args.heading.now c.loop-place.place (sym c.is_at.ensures ∙ c.if-is_at.false) c.loop-place.invariant
