use Rattle.std.proofs.Common.{◌≡◌, ◌∙◌, ◌++◌, ◌∷◌, [], ◌<◌, ap, append_assoc, arith, length, map, sym, take, Bor}
use Rattle.std.proofs.lemmas.List.{length-map}
use Rattle.td_value.specs.model.Values.{Val}
use Rattle.td_value.specs.code.Blocks.{making, with_row}
use Rattle.td_group.specs.code.Successors.{pair_of}
use Rattle.td_group.proofs.Tables.{at_reference, map_more}
use Rattle.td_group.proofs.closure.put_pairs.Goals as goal

pub loop-value-preserved : goal.loop-value-preserved
loop-value-preserved c =
    let names = c.args.made.now.names in
    let f = pair_of names c.args.from.now in
    let vs = map (λ (v : Bor Val). v.now) c.args.values.now in
    let here : c.loop-value.value-index < length vs = omega (arith, c.loop-value-test.true, length-map c.args.values.now (λ (v : Bor Val). v.now)) in
    let first : c.push.new.self.items ≡ c.args.from.now ∷ [] =
    c.in_ok-push.ensures.items ∙ (λ i. c.loop-value.invariant.1 i ++ c.in_ok-try_clone.ensures i ∷ []) in
    let row : c.push-in-loop-value.new.self.items ≡ c.args.from.now ∷ c.value-item.result.now ∷ [] =
    c.in_ok-push-2.ensures.items ∙ (λ i. first i ++ c.in_ok-try_clone-2.ensures i ∷ []) in (
      c.in_ok-push-3.ensures.pushed ∙ (λ i. with_row (row i) (c.loop-value.invariant.0 i))
          ∙ ap (making names) (append_assoc c.args.made.now.tuples (map f (take c.loop-value.value-index vs)) _
          ∙ ap (λ ts. c.args.made.now.tuples ++ ts)
          (sym (map_more f vs c.loop-value.value-index c.value-item.result.now here (at_reference c.args.values.now c.loop-value.value-index c.value-item.result c.value-item.is)))),
      c.in_ok-push-3.ensures.taken,
    )
