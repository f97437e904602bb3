use Rattle.std.proofs.Common.{arith, subst}
use Rattle.std.specs.Prelude.{IfSome}
use Rattle.td_eval.proofs.code_lemmas.FixedElements.{all_parts, named_alike, one_more_part}
use Rattle.td_eval.specs.code.FixedValues.{IsFixed}
use Rattle.td_tree.specs.code.TreeViews.{tree_view}
use Rattle.td_eval.proofs.flat.put_literals.Goals as goal

pub loop-place-preserved : goal.loop-place-preserved
loop-place-preserved c =
    let part = c.index-parts-place.result in
    let name = c.index-names-place.result in
    one_more_part c.args.parts.now c.args.names.now c.loop-place.place part name c.loop-place.row.items c.push.new.self.items c.in-Some.value
    c.loop-place-test.true c.index-parts-place.is (omega (arith, c.loop-place-test.true, c.if-parts-names.false)) c.index-names-place.is
    (named_alike part.name name c.ne.result c.ne.ensures c.if-ne.false)
    (subst (λ o. IfSome o (IsFixed (tree_view part.value))) c.in-Some.is c.in_ok-value.ensures) c.in_ok-push.ensures.items c.loop-place.invariant

pub returns-clause-fixed : goal.returns-clause-fixed
returns-clause-fixed c = λ told.
    all_parts c.args.parts.now c.args.names.now c.loop-place.place c.loop-place.row.items c.loop-place-test.false c.if-parts-names.false c.loop-place.invariant
