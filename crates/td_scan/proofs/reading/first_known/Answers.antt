use Rattle.std.proofs.Common.{Some, rules}
use Rattle.td_scan.specs.code.Progress.{IsBegun}
use Rattle.td_scan.proofs.RunLaws.{whole_first}
use Rattle.td_scan.proofs.reading.first_known.Goals as goal

pub returns-then-is_whole-clause-ended : goal.returns-then-is_whole-clause-ended
returns-then-is_whole-clause-ended c =
    let begun : IsBegun c.args.bytes.now (Some c.in-Some.begun) = search rules in
    whole_first c.args.bytes.now c.in-Some.begun begun (c.is_whole.ensures c.if-is_whole.true)
