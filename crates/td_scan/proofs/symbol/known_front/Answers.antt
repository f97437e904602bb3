use Rattle.std.proofs.Common.{length, ◌<◌, rules}
use Rattle.td_scan.proofs.RunLaws.{ascii_known}
use Rattle.td_scan.proofs.symbol.known_front.Goals as goal

pub returns-then-first-lt128-clause-step : goal.returns-then-first-lt128-clause-step
returns-then-first-lt128-clause-step c = ascii_known c.args.bytes.now (let some : 0 < length c.args.bytes.now = search rules in some) c.if-first-lt128.true
