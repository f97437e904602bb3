use Rattle.std.proofs.Common.{◌∙◌, ◌++◌, ◌∷◌, [], ap, true, false, filter, drop, ◌+◌}
use Rattle.td_algebra.specs.code.Merges.{is_wanted}
use Rattle.td_algebra.proofs.Merges.{left-ascends, step_abreast, step_dropped, step_finds, step_kept, wanted_is}
use Rattle.td_algebra.proofs.sets.kept_rows.Goals.{then-begins_with-wanted+in_ok-try_clone+in_ok-push, else-begins_with-wanted}
use Rattle.td_algebra.proofs.sets.kept_rows.Goals as goal

pub loop-row-preserved : goal.loop-row-preserved
loop-row-preserved c =
    let t = c.row-item.result in
    let p = is_wanted c.args.wanted c.args.others.now in
    let i = c.loop-row.row-index in
    let finds = step_finds c.args.rows.now c.loop-row.rest.now c.not_below-rest.result.now c.args.others.now i t c.begins_with.result c.loop-row-test.true c.row-item.is
    c.loop-row.invariant.1 c.loop-row.invariant.2 c.not_below-rest.ensures c.begins_with.ensures in
    let ascends = left-ascends t c.loop-row.rest.now c.not_below-rest.result.now c.loop-row.invariant.1 c.not_below-rest.ensures in
    let abreast = step_abreast c.args.rows.now c.loop-row.rest.now c.not_below-rest.result.now c.args.others.now i t c.loop-row-test.true c.row-item.is c.requires.rows c.loop-row.invariant.2 c.not_below-rest.ensures in
    elim c.if-begins_with-wanted.branch [
      | then-begins_with-wanted+in_ok-try_clone+in_ok-push w ↦ (
        ap (λ v. v.items ++ filter p (drop (i + 1) c.args.rows.now)) w.kept-is
            ∙ ap (λ l. l ++ filter p (drop (i + 1) c.args.rows.now)) (w.in_ok-push.ensures.items ∙ ap (λ u. c.loop-row.kept.items ++ u ∷ []) w.in_ok-try_clone.ensures)
            ∙ step_kept p c.args.rows.now c.loop-row.kept.items _ i t c.loop-row-test.true c.row-item.is
            (wanted_is c.args.wanted c.args.others.now t c.begins_with.result true finds w.if-begins_with-wanted.true) c.loop-row.invariant.0,
        ascends,
        abreast,
      )
      | else-begins_with-wanted w ↦ (
        ap (λ v. v.items ++ filter p (drop (i + 1) c.args.rows.now)) w.kept-is
            ∙ step_dropped p c.args.rows.now c.loop-row.kept.items _ i t c.loop-row-test.true c.row-item.is
            (wanted_is c.args.wanted c.args.others.now t c.begins_with.result false finds w.if-begins_with-wanted.false) c.loop-row.invariant.0,
        ascends,
        abreast,
      )
    ]
