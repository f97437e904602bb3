use Rattle.std.proofs.Common.{◌≡◌, ◌∙◌, None, Some, ap, subst, sym}
use Rattle.std.specs.Prelude.{not}
use Rattle.td_tree.specs.model.Pieces.{goes_on}
use Rattle.td_scan.proofs.RunLaws.{line_ends, number_ends, text_ends, word_ends}
use Rattle.td_scan.proofs.run.ends.Goals as goal

pub returns-then-not-is_plain : goal.returns-then-not-is_plain
returns-then-not-is_plain c = λ other.
    subst (λ p. goes_on p (Some c.args.byte) ≡ None) (sym c.in-Word.is) (word_ends c.args.byte c.requires (ap not (sym c.is_plain.ensures) ∙ ap not c.if-not-is_plain.true) other)

pub returns-in-Number : goal.returns-in-Number
returns-in-Number c = λ is.
    subst (λ p. goes_on p (Some c.args.byte) ≡ None) (sym c.in-Number.is) (number_ends c.args.byte (ap not (sym c.is_ascii_digit.ensures.value) ∙ is))

pub returns-in-Text : goal.returns-in-Text
returns-in-Text c = λ is.
    subst (λ p. goes_on p (Some c.args.byte) ≡ None) (sym c.in-Text.is) (text_ends c.args.byte is)

pub returns-in-LineComment : goal.returns-in-LineComment
returns-in-LineComment c = λ is.
    subst (λ p. goes_on p (Some c.args.byte) ≡ None) (sym c.in-LineComment.is) (line_ends c.args.byte is)
