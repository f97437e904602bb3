use Rattle.std.proofs.Common.{◌∙◌, ◌++◌, ◌<◌, ◌≡◌, ◌≤◌, ap, arith, length, map, subst, sym, Bor, Global, Vec}
use Rattle.std.proofs.lemmas.List.{length-map, take_all}
use Rattle.td_algebra.proofs.Keys.{if_ok}
use Rattle.td_value.specs.model.Values.{Tuple, Val}
use Rattle.td_value.specs.code.Blocks.{Making}
use Rattle.td_group.specs.code.Successors.{ArePairsFrom, pair_of, successors_at}
use Rattle.td_group.proofs.Tables.{at_reference, pairs_more}
use Rattle.td_group.proofs.closure.pairs_from.Goals as goal

pub put_pairs-requires : goal.put_pairs-requires
put_pairs-requires c = ap length c.loop-start.invariant.0 ∙ c.requires

pub loop-start-preserved : goal.loop-start-preserved
loop-start-preserved c =
    let starts = c.args.starts.now in
    let made = c.loop-start.made in
    let here : c.loop-start.start-index < length (map (λ (v : Bor Val). v.now) starts) = omega (arith, c.loop-start-test.true, length-map starts (λ (v : Bor Val). v.now)) in (
      ap (λ (m : Making). m.names) c.in_ok-put_pairs.ensures ∙ c.loop-start.invariant.0,
      pairs_more (successors_at c.args.table.now) c.args.names.now (map (λ (v : Bor Val). v.now) starts) c.loop-start.start-index c.start-item.result.now
          (map (λ (v : Bor Val). v.now) c.in_ok-values_reached.field-0.items) made.tuples c.put_pairs.new.made.tuples here
          (at_reference starts c.loop-start.start-index c.start-item.result c.start-item.is) c.in_ok-values_reached.ensures
          (ap (λ (m : Making). m.tuples) c.in_ok-put_pairs.ensures
          ∙ (λ i. made.tuples ++ map (pair_of (c.loop-start.invariant.0 i) c.start-item.result.now) (map (λ (v : Bor Val). v.now) (c.deref.ensures.value i))))
          c.loop-start.invariant.1,
    )

pub returns : goal.returns
returns c =
    let starts = map (λ (v : Bor Val). v.now) c.args.starts.now in
    let end : length starts ≤ c.loop-start.start-index = omega (arith, c.loop-start-test.false, length-map c.args.starts.now (λ (v : Bor Val). v.now)) in
    let are : ArePairsFrom (successors_at c.args.table.now) c.args.names.now starts c.loop-start.made.tuples =
    subst (λ vs. ArePairsFrom (successors_at c.args.table.now) c.args.names.now vs c.loop-start.made.tuples) (take_all c.loop-start.start-index starts end) c.loop-start.invariant.1 in
    if_ok (λ (ts : Vec Tuple Global). ts.items ≡ c.loop-start.made.tuples) (λ ts. ArePairsFrom (successors_at c.args.table.now) c.args.names.now starts ts.items) c.finish.result
    (λ ts e. subst (ArePairsFrom (successors_at c.args.table.now) c.args.names.now starts) (sym e) are) c.finish.ensures
