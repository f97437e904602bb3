use Rattle.std.proofs.Common.{◌∙◌, ap, reverse, sym}
use Rattle.td_check.specs.model.Scopes.{innermost}
use Rattle.td_check.proofs.Entered.{innermost_beyond, innermost_here, innermost_nowhere, last_is_innermost}
use Rattle.td_check.proofs.scope.Scope.attribute.Goals as goal

pub loop-heading-init : goal.loop-heading-init
loop-heading-init c =
    ap (λ i. innermost c.args.name.now (reverse i.iter.rest.now)) c.into_iter-heading-iterator.ensures.into_iter_gives
    ∙ ap (λ i. innermost c.args.name.now (reverse i.rest.now)) c.rev-heading-items.ensures.source
    ∙ ap (λ hs. innermost c.args.name.now (reverse hs)) c.iter.ensures.rest
    ∙ ap (λ hs. innermost c.args.name.now (reverse hs)) c.deref.ensures.value
    ∙ ap (λ s. innermost c.args.name.now s.entered) c.self.view_is

pub returns-in-Some-get : goal.returns-in-Some-get
returns-in-Some-get c =
    innermost_here c.args.name.now c.in-Some.heading.now (reverse c.next.new.self.iter.rest.now) c.get.result c.in-Some-get.ty c.in-Some-get.is c.get.ensures
    ∙ sym (last_is_innermost c.args.name.now c.next.new.self.iter.rest.now c.loop-heading.heading-iterator.iter.rest.now c.in-Some.heading.now c.in-Some.ensures.steps)
    ∙ c.loop-heading.invariant

pub loop-heading-preserved : goal.loop-heading-preserved
loop-heading-preserved c =
    innermost_beyond c.args.name.now c.in-Some.heading.now (reverse c.next.new.self.iter.rest.now) c.get.result c.in_default.is c.get.ensures
    ∙ sym (last_is_innermost c.args.name.now c.next.new.self.iter.rest.now c.loop-heading.heading-iterator.iter.rest.now c.in-Some.heading.now c.in-Some.ensures.steps)
    ∙ c.loop-heading.invariant

pub returns : goal.returns
returns c =
    innermost_nowhere c.args.name.now c.loop-heading.heading-iterator.iter.rest.now c.in-None.ensures.steps.0 ∙ c.loop-heading.invariant
