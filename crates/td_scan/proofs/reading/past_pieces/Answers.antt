use Rattle.std.proofs.Common.{subst}
use Rattle.td_scan.specs.code.Progress.{GoesOn}
use Rattle.td_scan.proofs.ReadLaws.{goes_then}
use Rattle.td_scan.proofs.reading.past_pieces.Goals as goal

pub returns-clause-read : goal.returns-clause-read
returns-clause-read c =
    let past = c.past_piece-past.result in
    goes_then c.args.reading past c.past_ordinary.result c.args.bytes.now c.if-past.false c.past_piece-past.ensures.read
    (subst (λ b. GoesOn past c.past_ordinary.result b) c.bytes_from.ensures c.past_ordinary.ensures)
