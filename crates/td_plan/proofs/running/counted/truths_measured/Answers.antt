use Rattle.std.proofs.Common.{◌≡◌, ◌∙◌, ap, map, subst}
use Rattle.std.specs.Prelude.{count_by}
use Rattle.td_eval.specs.model.OperatorValues.{truth_value}
use Rattle.td_plan.proofs.CountedTruths.{truths_counted}
use Rattle.td_tree.specs.model.Outcomes.{Answers, Valued, gathered}
use Rattle.td_plan.proofs.running.counted.truths_measured.Goals as goal

pub returns : goal.returns
returns c = λ p r h.
    let valued : gathered (map (λ t. truth_value (p t)) r.body) ≡ Valued c.in_ok-truths.truths.items =
    subst (λ x. Answers (λ m. m.items) x (gathered (map (λ t. truth_value (p t)) r.body))) c.in_ok-truths.was h in
    subst (Answers (λ v. v) c.number_measured.result)
    (truths_counted c.args.op p r c.in_ok-truths.truths.items c.true_count.result (c.true_count.ensures ∙ ap (count_by (λ b. b)) c.deref.ensures.value) valued)
    c.number_measured.ensures
