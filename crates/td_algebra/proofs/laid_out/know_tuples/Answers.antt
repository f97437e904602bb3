use Rattle.std.proofs.Common.{◌∙◌, ◌++◌, ◌∷◌, [], ap, subst, sym, take}
use Rattle.std.specs.List.{All}
use Rattle.std.proofs.lemmas.List.{take_all, take_more}
use Rattle.std.proofs.lemmas.List.Elements.{All-push}
use Rattle.td_value.specs.model.Values.{IsTuple}
use Rattle.td_algebra.proofs.laid_out.know_tuples.Goals as goal

pub loop-tuple-preserved : goal.loop-tuple-preserved
loop-tuple-preserved c =
    let ts = c.args.tuples.now in
    let more = take_more ts c.loop-tuple.tuple-index c.tuple-item.result c.loop-tuple-test.true ∙ ap (λ t. take c.loop-tuple.tuple-index ts ++ t ∷ []) (sym c.tuple-item.is) in
    subst (All IsTuple) (sym more) (All-push IsTuple (take c.loop-tuple.tuple-index ts) c.tuple-item.result c.loop-tuple.invariant c.reveal.ensures)

pub returns : goal.returns
returns c = subst (All IsTuple) (take_all c.loop-tuple.tuple-index c.args.tuples.now c.loop-tuple-test.false) c.loop-tuple.invariant
