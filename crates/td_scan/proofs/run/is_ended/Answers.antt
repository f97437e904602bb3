use Rattle.std.proofs.Common.{◌<◌, length, rules}
use Rattle.td_scan.proofs.RunLaws.{ended}
use Rattle.td_scan.proofs.run.is_ended.Goals as goal

pub returns-then-byte-lt128 : goal.returns-then-byte-lt128
returns-then-byte-lt128 c = λ ends at later.
    ended c.args.piece c.args.bytes.now (let some : 0 < length c.args.bytes.now = search rules in some) c.if-byte-lt128.true (c.ends.ensures ends) at later
