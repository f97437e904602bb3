use Rattle.std.proofs.Common.{◌∙◌, ap, reverse, sym}
use Rattle.td_eval.specs.model.Worlds.{innermost_value}
use Rattle.td_eval.proofs.code_lemmas.OpTuples.{innermost_beyond, innermost_here, innermost_nowhere, last_is_innermost}
use Rattle.td_eval.proofs.operators.requirements.attribute.Goals as goal

pub loop-tuple-init : goal.loop-tuple-init
loop-tuple-init c =
    ap (λ i. innermost_value c.args.name.now (reverse i.iter.rest.now)) c.into_iter-tuple-iterator.ensures.into_iter_gives
    ∙ ap (λ i. innermost_value c.args.name.now (reverse i.rest.now)) c.rev-tuple-items.ensures.source
    ∙ ap (λ ts. innermost_value c.args.name.now (reverse ts)) c.iter.ensures.rest

pub returns-in-Some-get : goal.returns-in-Some-get
returns-in-Some-get c =
    innermost_here c.args.name.now c.in-Some.tuple.now (reverse c.next.new.self.iter.rest.now) c.get.result c.in-Some-get.value c.in-Some-get.is c.get.ensures
    ∙ sym (last_is_innermost c.args.name.now c.next.new.self.iter.rest.now c.loop-tuple.tuple-iterator.iter.rest.now c.in-Some.tuple.now c.in-Some.ensures.steps)
    ∙ c.loop-tuple.invariant

pub loop-tuple-preserved : goal.loop-tuple-preserved
loop-tuple-preserved c =
    innermost_beyond c.args.name.now c.in-Some.tuple.now (reverse c.next.new.self.iter.rest.now) c.get.result c.in_default.is c.get.ensures
    ∙ sym (last_is_innermost c.args.name.now c.next.new.self.iter.rest.now c.loop-tuple.tuple-iterator.iter.rest.now c.in-Some.tuple.now c.in-Some.ensures.steps)
    ∙ c.loop-tuple.invariant

pub returns : goal.returns
returns c =
    innermost_nowhere c.args.name.now c.loop-tuple.tuple-iterator.iter.rest.now c.in-None.ensures.steps.0 ∙ c.loop-tuple.invariant
