use Rattle.std.proofs.Common.{◌∙◌, ◌<◌, length, rules, sym}
use Rattle.std.proofs.lemmas.Option.{IfSome_then}
use Rattle.td_scan.proofs.FrontLaws.{ordinary_number, ordinary_sign, ordinary_word}
use Rattle.td_scan.proofs.front.ordinary_length.Goals as goal

pub returns-then-begins_word : goal.returns-then-begins_word
returns-then-begins_word c = IfSome_then c.word_length.result c.word_length.ensures (ordinary_word c.args.bytes.now)

pub returns-then-is_ascii_digit : goal.returns-then-is_ascii_digit
returns-then-is_ascii_digit c = IfSome_then c.number_length.result c.number_length.ensures (ordinary_number c.args.bytes.now)

pub returns : goal.returns
returns c =
    let some : 0 < length c.args.bytes.now = search rules in
    ordinary_sign c.args.bytes.now c.in_ok-sign.sign some c.in_ok-sign.ensures (sym c.is_end.ensures ∙ c.if-is_end.false)
