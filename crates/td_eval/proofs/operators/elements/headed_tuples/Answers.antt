use Rattle.std.proofs.Common.{◌≡◌, ◌∙◌, ap, map, subst}
use Rattle.std.proofs.lemmas.Result.{err_from_is_err_and}
use Rattle.std.specs.Prelude.{⊤}
use Rattle.td_eval.proofs.code_lemmas.FittingTuples.{fitted, fitted_twice}
use Rattle.td_eval.proofs.code_lemmas.OpElements.{headed_of}
use Rattle.td_eval.specs.model.OperatorValues.{of_relation}
use Rattle.td_tree.specs.model.Outcomes.{Valued, gathered}
use Rattle.td_types.proofs.Resolutions.{answers_still}
use Rattle.td_value.specs.model.Values.{Val, relation_of, tuple_value}
use Rattle.td_eval.proofs.operators.elements.headed_tuples.Goals as goal

pub returns-in_err-all_fit : goal.returns-in_err-all_fit
returns-in_err-all_fit c =
    let e = err_from_is_err_and c.from_residual.result c.from_residual.ensures.1 in
    rw (e.1, e.2, fitted_twice c.args.heading c.args.tuples.items, ← c.deref.ensures.value)
    (answers_still (λ (told : ⊤). c.deref.result.now) (λ (v : Val). v) _ (gathered (map (fitted c.args.heading) c.deref.result.now))
    (λ ts. of_relation (relation_of c.args.heading ts)) c.in_err-all_fit.ensures.answer)

pub returns : goal.returns
returns c =
    headed_of c.args.heading (map tuple_value c.args.tuples.items) c.args.tuples.items _
    (ap gathered (fitted_twice c.args.heading c.args.tuples.items)
    ∙ subst (λ ts. gathered (map (fitted c.args.heading) ts) ≡ Valued ts) c.deref.ensures.value c.in_ok-all_fit.ensures.answer)
    (c.as_value.ensures (relation_of c.args.heading c.args.tuples.items) c.new.ensures.value)
