use Rattle.std.proofs.Common.{◌<◌, length, rules}
use Rattle.td_scan.proofs.RunLaws.{ascii_begun}
use Rattle.td_scan.proofs.reading.begin.Goals as goal

pub returns-then-byte-lt128-clause-begun : goal.returns-then-byte-lt128-clause-begun
returns-then-byte-lt128-clause-begun c =
    ascii_begun c.args.bytes.now c.opens_ascii.result (let some : 0 < length c.args.bytes.now = search rules in some) c.if-byte-lt128.true c.opens_ascii.ensures
