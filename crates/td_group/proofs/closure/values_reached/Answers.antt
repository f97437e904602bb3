use Rattle.std.proofs.Common.{◌∙◌, ◌<◌, ◌≤◌, ap, arith, length, map, Bor}
use Rattle.std.proofs.lemmas.List.{length-map}
use Rattle.td_value.specs.model.Values.{Val}
use Rattle.td_group.specs.code.Successors.{all_added, successors_at}
use Rattle.td_group.proofs.Graphs.{found_all, found_first, found_more}
use Rattle.td_group.proofs.Tables.{all_successors, among_all, at_reference}
use Rattle.td_group.proofs.closure.values_reached.Goals as goal

pub loop-place-init : goal.loop-place-init
loop-place-init c =
    let next = successors_at c.args.table.now in (
      c.in_ok-put_successors.ensures.seen,
      found_first next c.args.start.now (map (λ (v : Bor Val). v.now) c.put_successors.new.found.items) (all_successors c.args.table.now)
          (c.in_ok-put_successors.ensures.found ∙ ap (λ xs. all_added (map (λ (v : Bor Val). v.now) xs) (next c.args.start.now)) c.new-found.ensures.items)
          (among_all c.args.table.now c.args.start.now),
    )

pub loop-place-preserved : goal.loop-place-preserved
loop-place-preserved c =
    let next = successors_at c.args.table.now in
    let found = c.loop-place.found.items in
    let here : c.loop-place.place < length (map (λ (v : Bor Val). v.now) found) =
    omega (arith, c.loop-place-test.true, c.len.ensures, length-map found (λ (v : Bor Val). v.now)) in (
      c.in_ok-put_successors-2.ensures.seen,
      found_more next c.args.start.now c.index-value.result.now.now (map (λ (v : Bor Val). v.now) found) (map (λ (v : Bor Val). v.now) c.put_successors-in-loop-place.new.found.items)
          c.loop-place.place (all_successors c.args.table.now) here (at_reference found c.loop-place.place c.index-value.result.now c.index-value.ensures)
          c.in_ok-put_successors-2.ensures.found (among_all c.args.table.now c.index-value.result.now.now) c.loop-place.invariant.1,
    )

pub returns : goal.returns
returns c =
    let found = c.loop-place.found.items in
    let end : length (map (λ (v : Bor Val). v.now) found) ≤ c.loop-place.place = omega (arith, c.loop-place-test.false, length-map found (λ (v : Bor Val). v.now)) in
    found_all (successors_at c.args.table.now) c.args.start.now (map (λ (v : Bor Val). v.now) found) c.loop-place.place (all_successors c.args.table.now) end c.loop-place.invariant.1
