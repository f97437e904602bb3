use Rattle.td_algebra.proofs.Parts.{same_stops}
use Rattle.td_algebra.proofs.part.are_same_at.Goals as goal

pub returns-then-ne : goal.returns-then-ne
returns-then-ne c =
    same_stops c.args.values.now c.args.others.now c.args.places.now c.args.other_places.now c.loop-index.index c.index-values-places.result
    c.index-others-other_places.result c.ne.result c.if-places-other_places.false c.loop-index-test.true c.index-values-places.is
    c.index-others-other_places.is c.requires.own c.requires.others c.ne.ensures c.if-ne.true c.loop-index.invariant
