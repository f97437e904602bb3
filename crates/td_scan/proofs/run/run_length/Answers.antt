use Rattle.std.proofs.Common.{subst, sym}
use Rattle.td_scan.proofs.RunLaws.{IsRun, comment_run, digit_run, line_run, plain_run, text_run}
use Rattle.td_scan.proofs.run.run_length.Goals as goal

pub returns-in-Word-clause-same : goal.returns-in-Word-clause-same
returns-in-Word-clause-same c =
    subst (λ p. IsRun p c.args.bytes.now c.plain_length.result) (sym c.in-Word.is) (plain_run c.args.bytes.now c.plain_length.result c.plain_length.ensures.within c.plain_length.ensures.all)

pub returns-in-Number-clause-same : goal.returns-in-Number-clause-same
returns-in-Number-clause-same c =
    subst (λ p. IsRun p c.args.bytes.now c.digit_length.result) (sym c.in-Number.is) (digit_run c.args.bytes.now c.digit_length.result c.digit_length.ensures.within c.digit_length.ensures.all)

pub returns-in-OpenText-clause-same : goal.returns-in-OpenText-clause-same
returns-in-OpenText-clause-same c = let e = c.length_before.ensures in
    subst (λ p. IsRun p c.args.bytes.now c.length_before.result) (sym c.in-OpenText.is) (text_run c.args.bytes.now c.length_before.result e.within e.ascii e.other)

pub returns-in-LineComment-clause-same : goal.returns-in-LineComment-clause-same
returns-in-LineComment-clause-same c = let e = c.length_before-in-LineComment.ensures in
    subst (λ p. IsRun p c.args.bytes.now c.length_before-in-LineComment.result) (sym c.in-LineComment.is) (line_run c.args.bytes.now c.length_before-in-LineComment.result e.within e.ascii e.other)

pub returns-in-OpenComment-clause-same : goal.returns-in-OpenComment-clause-same
returns-in-OpenComment-clause-same c = let e = c.length_before-in-OpenComment.ensures in
    subst (λ p. IsRun p c.args.bytes.now c.length_before-in-OpenComment.result) (sym c.in-OpenComment.is) (comment_run c.args.bytes.now c.length_before-in-OpenComment.result e.within e.ascii e.other)
