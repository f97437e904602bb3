use Rattle.std.proofs.Common.{◌≡◌, ◌<◌, ◌+◌, ◌-◌, ◌∙◌, List, ℕ, length, arith, ap, refl, take, drop}
use Rattle.td_value.proofs.Made.{alike, depth_first, flat_rows, first_of, none_of_depth, positive}
use Rattle.td_value.specs.model.Values.{Val, pack_parts}
use Rattle.td_value.specs.code.Depths.{parts_depth}
use Rattle.td_value.proofs.tuples.are_alike.Goals as goal

pub loop-left-preserved : goal.loop-left-preserved
loop-left-preserved c =
    let ns : List (List ℕ) = c.args.names.now in
    let vs : List Val = c.args.cells.now in
    let start = c.loop-left.start in
    let level = c.level_of_row-level.result in
    let first = first_of ns c.loop-left.left start vs c.loop-left-test.true c.loop-left.invariant.0 c.loop-left.invariant.1 in
    let known : 0 < c.level_of_row.result = omega (arith, positive level c.if-level-eq0.false, c.if-level_of_row-level.false) in
    let wide : length ns ≡ start + length ns - start = omega arith in
    let row = ap (λ n. parts_depth (pack_parts (take n (drop start vs)))) wide ∙ c.level_of_row.ensures known ∙ c.if-level_of_row-level.false in
    (first.inside, first.rest, λ h. c.loop-left.invariant.2 (depth_first ns c.loop-left.left start level vs c.loop-left-test.true row h))

pub returns-then-are_flat : goal.returns-then-are_flat
returns-then-are_flat c = λ _.
    flat_rows c.args.names.now c.args.count c.args.cells.now (parts_depth (pack_parts c.args.cells.now)) (c.if-are_flat.ensures refl) c.if-width-gt0.true c.requires

pub returns : goal.returns
returns c = λ _.
    alike c.args.names.now c.args.count c.args.cells.now c.level_of_row-level.result c.requires
    (c.loop-left.invariant.2 (none_of_depth c.args.names.now c.loop-left.left c.level_of_row-level.result (drop c.loop-left.start c.args.cells.now) c.loop-left-test.false))
