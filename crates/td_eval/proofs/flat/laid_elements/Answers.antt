use Rattle.std.proofs.Common.{◌∙◌, map, subst, sym}
use Rattle.td_eval.proofs.code_lemmas.FixedElements.{all_elements, one_more_element}
use Rattle.td_eval.specs.code.FixedValues.{AreFixed}
use Rattle.td_tree.specs.code.TreeViews.{trees_view}
use Rattle.td_value.specs.model.Values.{tuple_value}
use Rattle.td_eval.proofs.flat.laid_elements.Goals as goal

pub loop-element-preserved : goal.loop-element-preserved
loop-element-preserved c = (
  c.in_ok-put_element.ensures.layout c.if-not-branch.false ∙ c.loop-element.invariant.0,
  one_more_element c.args.elements.now c.loop-element.element-index c.element-item.result c.loop-element.laid.1 c.put_element.new.laid.1 c.loop-element-test.true
      c.element-item.is (c.in_ok-put_element.ensures.put c.if-not-branch.false) c.loop-element.invariant.1,
)

pub returns : goal.returns
returns c =
    subst (λ ts. AreFixed (trees_view c.args.elements.now) (map tuple_value ts)) (sym c.in_ok-finish.ensures.made)
    (all_elements c.args.elements.now c.loop-element.element-index c.loop-element.laid.1 c.loop-element-test.false c.loop-element.invariant.1)
