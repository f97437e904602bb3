use Rattle.std.proofs.Common.{◌∙◌, ◌<◌, ap, arith, length, map, sym, Bor}
use Rattle.std.proofs.lemmas.List.{length-map}
use Rattle.td_value.specs.model.Values.{Val}
use Rattle.td_group.specs.code.Successors.{with_value_added}
use Rattle.td_group.proofs.Graphs.{all_more}
use Rattle.td_group.proofs.Tables.{at_reference}
use Rattle.td_group.proofs.closure.put_all_unseen.Goals as goal

pub loop-value-preserved : goal.loop-value-preserved
loop-value-preserved c =
    let here : c.loop-value.value-index < length (map (λ (v : Bor Val). v.now) c.args.values.now) =
    omega (arith, c.loop-value-test.true, length-map c.args.values.now (λ (v : Bor Val). v.now)) in (
      c.in_ok-put_unseen.ensures.found ∙ ap (λ xs. with_value_added xs c.value-item.result.now) c.loop-value.invariant.0
          ∙ sym (all_more (map (λ (v : Bor Val). v.now) c.args.found.now.items) (map (λ (v : Bor Val). v.now) c.args.values.now) c.loop-value.value-index c.value-item.result.now here
          (at_reference c.args.values.now c.loop-value.value-index c.value-item.result c.value-item.is)),
      c.in_ok-put_unseen.ensures.seen,
    )
