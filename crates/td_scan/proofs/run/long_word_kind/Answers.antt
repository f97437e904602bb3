use Rattle.std.proofs.Common.{◌∙◌, sym}
use Rattle.td_scan.proofs.RunLaws.{is_reserved}
use Rattle.td_scan.proofs.run.long_word_kind.Goals as goal

pub returns-in-Some : goal.returns-in-Some
returns-in-Some c =
    is_reserved c.in-Some.keyword c.args.text.now (sym c.is_spelled_by.ensures ∙ c.if-is_spelled_by.true)
