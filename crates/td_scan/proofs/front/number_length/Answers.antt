use Rattle.std.proofs.Common.{◌<◌, arith, length, rules, subst}
use Rattle.std.specs.Prelude.{slice_index}
use Rattle.td_scan.proofs.FrontLaws.{number_is}
use Rattle.td_scan.proofs.front.number_length.Goals as goal

pub returns : goal.returns
returns c =
    let e = c.digit_length-length.ensures in
    let some : 0 < length c.split_at.result.1.now = search rules in
    number_is c.args.bytes.now c.digit_length-length.result c.requires.some c.requires.digit e.all e.stops
    (omega (arith, c.split_at.ensures.back_len, some)) (subst (λ b. slice_index b 0 < 128) c.split_at.ensures.back c.if-behind-ge128.false)
