use Rattle.std.proofs.Common.{◌≡◌, ◌∙◌, arith, length, sym}
use Rattle.std.proofs.lemmas.Bool.{eqb-true}
use Rattle.td_body.proofs.RowSteps.{all_taken, live_whole}
use Rattle.td_body.proofs.hashed.rows.Rows.are.Goals as goal

pub returns : goal.returns
returns c = λ h.
    let n : c.loop-number.number ≡ length c.args.self.now.rows = omega (arith, c.count-count.ensures.count) in
    sym (live_whole c.loop-number.number c.args.self.now.rows c.args.self.now.gone n c.count-count.ensures.marks)
    ∙ c.loop-number.invariant.seen ∙ all_taken c.loop-number.seen c.args.tuples.now (sym (eqb-true c.loop-number.seen (length c.args.tuples.now) h))
