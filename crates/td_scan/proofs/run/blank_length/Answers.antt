use Rattle.std.proofs.Common.{◌∙◌, ◌≡◌, ◌+◌, ◌++◌, ap, arith, drop}
use Rattle.td_tree.specs.model.Statements.{tokens}
use Rattle.td_scan.proofs.BlankLaws.{blank_more}
use Rattle.td_scan.proofs.run.blank_length.Goals as goal

pub loop-index-preserved : goal.loop-index-preserved
loop-index-preserved c = λ at later.
    let is = c.is_blank_byte.ensures c.if-not-is_blank_byte.false in
    c.loop-index.invariant at later
    ∙ blank_more c.args.bytes.now c.loop-index.index (at + c.loop-index.index) c.loop-index-test.true is.0 is.1 later
    ∙ ap (λ n. tokens n (drop (c.loop-index.index + 1) c.args.bytes.now ++ later)) (let e : at + c.loop-index.index + 1 ≡ at + (c.loop-index.index + 1) = omega arith in e)
