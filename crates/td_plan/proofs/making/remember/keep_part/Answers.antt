use Rattle.std.proofs.Common.{arith}
use Rattle.std.proofs.lemmas.Result.{on_ok_weaker}
use Rattle.td_plan.proofs.making.remember.keep_part.Goals as goal

pub returns-then-has_work : goal.returns-then-has_work
returns-then-has_work c =
    let below = c.if-own-reach.true in
    let fits = c.ranges.reach.fits in
    on_ok_weaker c.keep.result (λ kept. kept c.args.names.now (c.reach_of-own.ensures (omega (arith, below, fits)))) c.keep.ensures
