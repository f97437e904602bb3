use Rattle.std.proofs.Common.{◌≡◌, ◌∙◌, ap, map, sym}
use Rattle.std.proofs.lemmas.Iterator.Adapters.{YieldsList-from_vec}
use Rattle.std.proofs.lemmas.Iterator.Consumers.{YieldsList-end}
use Rattle.std.proofs.lemmas.List.{map-id}
use Rattle.td_plan.proofs.StepRows.{select_is}
use Rattle.td_plan.specs.declared.plan.step.Selector.TheVariants as selectors
use Rattle.td_plan.specs.declared.rewriting.fixed.FixedValue.{FixedValue}
use Rattle.td_plan.specs.code.Plans as plans
use Rattle.td_plan.specs.code.StepViews.{steps_view}
use Rattle.td_plan.proofs.rewriting.narrowed.part_step.Goals as goal

pub returns : goal.returns
returns c =
    let end = YieldsList-end (YieldsList-from_vec c.args.part.items (cc) (cc)) c.loop-attribute.yielded c.loop-attribute.attribute-iterator c.loop-attribute.yielded_by
    c.next.result c.next.new.self c.in-None.is c.next.ensures.steps in
    let all : c.loop-attribute.yielded ≡ c.args.part.items = sym (map-id c.loop-attribute.yielded) ∙ end.0 in
    let names = c.loop-attribute.invariant.1 ∙ ap (map (λ (x : FixedValue). x.name)) all in
    let values = c.loop-attribute.invariant.2 ∙ ap (map (λ (x : FixedValue). x.value)) all in
    select_is (selectors.Tuple c.loop-attribute.names) c.loop-attribute.values ∙ (λ i. plans.select (plans.tuple (names i)) (steps_view (values i)))
