use Rattle.std.proofs.Common.{◌≡◌, ◌<◌, arith, length, rules, subst}
use Rattle.std.specs.Prelude.{slice_index}
use Rattle.td_scan.proofs.FrontLaws.{word_is}
use Rattle.td_scan.proofs.front.word_length.Goals as goal

pub returns : goal.returns
returns c =
    let e = c.plain_length-length.ensures in
    let back = c.split_at.ensures.back in
    let some : 0 < length c.split_at.result.1.now = search rules in
    word_is c.args.bytes.now c.plain_length-length.result c.requires.some c.requires.word e.all e.stops
    (omega (arith, c.split_at.ensures.back_len, some)) (subst (λ b. slice_index b 0 < 128) back c.if-behind-ge128.false) (subst (λ b. slice_index b 0 ≡ 35 → ⊥) back c.if-behind-eq35.false)
