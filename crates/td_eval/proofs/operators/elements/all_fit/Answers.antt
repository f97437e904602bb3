use Rattle.std.proofs.Common.{Err, ◌∙◌, subst, sym}
use Rattle.std.proofs.lemmas.Result.{err_from_is_err_and}
use Rattle.std.specs.Prelude.{⊤}
use Rattle.td_eval.proofs.code_lemmas.FittingTuples.{misfit, one_more_fits}
use Rattle.td_tree.specs.model.Outcomes.{Answers, value_if}
use Rattle.td_tree.specs.declared.cause.Cause.TheVariants as causes
use Rattle.td_eval.proofs.operators.elements.all_fit.Goals as goal

pub returns-in_err-fit-clause-answer : goal.returns-in_err-fit-clause-answer
returns-in_err-fit-clause-answer c =
    let e = err_from_is_err_and c.from_residual.result c.from_residual.ensures.1 in
    rw (e.1, e.2)
    (misfit c.args.heading.now (λ (told : ⊤). c.args.tuples.now) (tt {0}) c.args.tuples.now c.loop-tuple.tuple-index c.tuple-item.result _ c.loop-tuple-test.true
    c.tuple-item.is
    (subst (λ b. Answers (λ (told : ⊤). told) (Err c.in_err-fit.field-0.0) (value_if b (tt {0}) causes.Heading)) c.has_heading.ensures.test c.in_err-fit.ensures.answer))

pub loop-tuple-preserved : goal.loop-tuple-preserved
loop-tuple-preserved c =
    one_more_fits c.args.heading.now c.args.tuples.now c.loop-tuple.tuple-index c.tuple-item.result c.loop-tuple-test.true c.tuple-item.is
    (sym c.has_heading.ensures.test ∙ c.in_ok-fit.ensures.fits) (c.has_heading.ensures.fits.0 c.in_ok-fit.ensures.fits) c.loop-tuple.invariant.0 c.loop-tuple.invariant.1
