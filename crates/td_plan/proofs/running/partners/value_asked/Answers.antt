use Rattle.std.proofs.Common.{◌≡◌, ◌∙◌, Bool, ap, map, not, sym}
use Rattle.std.proofs.lemmas.List.Folds.{list_all-map}
use Rattle.std.specs.List.{list_all}
use Rattle.td_algebra.proofs.Keys.{if_ok}
use Rattle.td_algebra.specs.model.Operators.{restriction}
use Rattle.td_eval.specs.model.OperatorValues.{of_relation, of_truth}
use Rattle.td_plan.proofs.PartnerLaws.{none_told}
use Rattle.td_plan.specs.code.Partners.{asked_value}
use Rattle.td_tree.specs.model.Outcomes.{Valued}
use Rattle.td_value.specs.model.Values.{Tuple}
use Rattle.td_plan.proofs.running.partners.value_asked.Goals as goal

pub returns-in-All : goal.returns-in-All
returns-in-All c = λ p e.
    let r = c.args.rel.now in
    ap (λ a. asked_value a p r) c.in-All.is
    ∙ ap of_truth (sym (list_all-map (λ b. b) p r.body) ∙ ap (list_all (λ b. b)) (sym e) ∙ sym c.are_all.ensures) ∙ ap Valued (sym c.bool.ensures)

pub returns-in_ok-restrict-in-Unpartnered : goal.returns-in_ok-restrict-in-Unpartnered
returns-in_ok-restrict-in-Unpartnered c = λ p e.
    let r = c.args.rel.now in
    let lacks : Tuple → Bool = λ t. not (p t) in
    let mask : c.deref.result.now ≡ map lacks r.body =
    c.deref.ensures.value ∙ c.in_ok-others-in-Unpartnered.ensures ∙ ap (map not) e ∙ none_told p r.body in
    let made : c.in_ok-restrict-in-Unpartnered.field-0 ≡ restriction lacks r = c.in_ok-restrict-in-Unpartnered.ensures lacks mask in
    if_ok _ _ c.relation-in-Unpartnered.result
    (λ v is. ap (λ a. asked_value a p r) c.in-Unpartnered.is ∙ ap of_relation (sym made) ∙ ap Valued (sym is)) c.relation-in-Unpartnered.ensures
