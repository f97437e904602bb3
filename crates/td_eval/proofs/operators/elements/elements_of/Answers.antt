use Rattle.std.proofs.Common.{map, subst}
use Rattle.std.proofs.lemmas.List.{take_all}
use Rattle.std.specs.List.{All}
use Rattle.td_eval.proofs.code_lemmas.OpElements.{elements_answered, elements_hold}
use Rattle.td_eval.specs.model.OperatorValues.{element_of}
use Rattle.td_tree.proofs.code_lemmas.Gatherings.{collected_next, collected_hold}
use Rattle.td_tree.specs.code.Gatherings.{IsGathered}
use Rattle.td_value.specs.model.Values.{IsTupleOf}
use Rattle.td_eval.proofs.operators.elements.elements_of.Goals as goal

pub loop-element-preserved : goal.loop-element-preserved
loop-element-preserved c = (
  collected_next (λ t. t) (element_of c.args.heading.now) c.args.elements.now c.loop-element.element-index c.loop-element-test.true c.element-item.is
      c.loop-element.invariant.0 c.element_of.ensures.answer c.in_ok-collect.ensures,
  collected_hold (IsTupleOf c.args.heading.now) c.loop-element.invariant.1 c.element_of.ensures.headed c.in_ok-collect.ensures,
)

pub returns-clause-answer : goal.returns-clause-answer
returns-clause-answer c =
    rw c.finish.ensures
    (elements_answered c.loop-element.causes c.loop-element.tuples (map (element_of c.args.heading.now) c.args.elements.now)
    (subst (λ es. IsGathered c.loop-element.causes (map (λ t. t) c.loop-element.tuples.items) (map (element_of c.args.heading.now) es))
    (take_all c.loop-element.element-index c.args.elements.now c.loop-element-test.false) c.loop-element.invariant.0))

pub returns-clause-headed : goal.returns-clause-headed
returns-clause-headed c =
    rw c.finish.ensures (elements_hold (All (IsTupleOf c.args.heading.now)) c.loop-element.causes c.loop-element.tuples c.loop-element.invariant.1)
