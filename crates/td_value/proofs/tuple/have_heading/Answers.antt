use Rattle.std.proofs.Common.{refl, subst}
use Rattle.std.proofs.lemmas.List.{take_all, take_more}
use Rattle.std.proofs.lemmas.List.Elements.{All-push}
use Rattle.td_value.specs.model.Values.{IsTupleOf}
use Rattle.td_value.proofs.tuple.have_heading.Goals as goal

pub loop-tuple-preserved : goal.loop-tuple-preserved
loop-tuple-preserved c =
    rw (take_more c.args.tuples.now c.loop-tuple.tuple-index c.tuple-item.result c.loop-tuple-test.true)
    (All-push (IsTupleOf c.args.heading.now) _ _ c.loop-tuple.invariant (subst (IsTupleOf c.args.heading.now) c.tuple-item.is (c.has_heading.ensures.fits.0 c.if-not-has_heading.false)))

pub returns : goal.returns
returns c = (λ _. rw (take_all c.loop-tuple.tuple-index c.args.tuples.now c.loop-tuple-test.false) at c.loop-tuple.invariant, λ _. refl)
