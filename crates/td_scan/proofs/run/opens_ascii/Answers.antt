use Rattle.std.proofs.Common.{◌∙◌, sym}
use Rattle.td_scan.proofs.RunLaws.{letter_opens}
use Rattle.td_scan.proofs.run.opens_ascii.Goals as goal

pub returns-then-begins_word : goal.returns-then-begins_word
returns-then-begins_word c = sym (letter_opens c.args.byte (sym c.begins_word.ensures ∙ c.if-begins_word.true))
