use Rattle.std.proofs.Common.{◌<◌, length, rules}
use Rattle.td_scan.proofs.FrontLaws.{sign_is}
use Rattle.td_scan.proofs.front.sign_at_front.Goals as goal

pub returns : goal.returns
returns c =
    let some : 0 < length c.args.bytes.now = search rules in
    sign_is c.args.bytes.now c.in_ok-sign.sign some c.in_ok-sign.ensures
