use Rattle.std.proofs.Common.{◌≡◌, Bool, false, not, refl, sym, true}
use Rattle.td_algebra.specs.code.Merges.{is_wanted}
use Rattle.td_algebra.proofs.Merges.{left-ascends, step_abreast, step_failed, step_finds, step_passed, wanted_is}
use Rattle.td_algebra.proofs.sets.are_wanted.Goals as goal

same : (a b : Bool) → not a ≡ not b → a ≡ b
same true true e = refl
same true false e = sym e
same false true e = sym e
same false false e = refl

pub returns-then-begins_with-wanted : goal.returns-then-begins_with-wanted
returns-then-begins_with-wanted c =
    let t = c.row-item.result in
    let i = c.loop-row.row-index in
    let finds = step_finds c.args.rows.now c.loop-row.rest.now c.not_below-rest.result.now c.args.others.now i t c.begins_with.result c.loop-row-test.true c.row-item.is
    c.loop-row.invariant.1 c.loop-row.invariant.2 c.not_below-rest.ensures c.begins_with.ensures in
    step_failed (is_wanted c.args.wanted c.args.others.now) c.args.rows.now i t c.loop-row-test.true c.row-item.is
    (sym (wanted_is c.args.wanted c.args.others.now t c.begins_with.result false finds (same _ false c.if-begins_with-wanted.true))) c.loop-row.invariant.0

pub loop-row-preserved : goal.loop-row-preserved
loop-row-preserved c =
    let t = c.row-item.result in
    let i = c.loop-row.row-index in
    let finds = step_finds c.args.rows.now c.loop-row.rest.now c.not_below-rest.result.now c.args.others.now i t c.begins_with.result c.loop-row-test.true c.row-item.is
    c.loop-row.invariant.1 c.loop-row.invariant.2 c.not_below-rest.ensures c.begins_with.ensures in (
      step_passed (is_wanted c.args.wanted c.args.others.now) c.args.rows.now i t c.loop-row-test.true c.row-item.is
          (sym (wanted_is c.args.wanted c.args.others.now t c.begins_with.result true finds (same _ true c.if-begins_with-wanted.false))) c.loop-row.invariant.0,
      left-ascends t c.loop-row.rest.now c.not_below-rest.result.now c.loop-row.invariant.1 c.not_below-rest.ensures,
      step_abreast c.args.rows.now c.loop-row.rest.now c.not_below-rest.result.now c.args.others.now i t c.loop-row-test.true c.row-item.is c.requires.rows c.loop-row.invariant.2 c.not_below-rest.ensures,
    )
