use Rattle.std.proofs.Common.{◌≡◌, ◌∙◌, ap, subst, sym, true}
use Rattle.td_algebra.proofs.Relations.{IsRelation-view}
use Rattle.td_eval.proofs.law_lemmas.NewSettings.{new_settings_extend}
use Rattle.td_tree.specs.model.Outcomes.{Answers, Valued}
use Rattle.td_types.proofs.OutcomeLaws.{valued_is}
use Rattle.td_types.specs.model.Headings.{have_no_common}
use Rattle.td_types.specs.model.Types.{IsHeading, pack}
use Rattle.td_types.specs.code.Views.{pairs_view}
use Rattle.td_plan.proofs.running.extended.set_by.Goals as goal

pub returns-then-are_new : goal.returns-then-are_new
returns-then-are_new c = λ fs lengths a.
    let r = c.args.rel.now in
    let attributes = pairs_view c.args.attributes.now in
    let new : have_no_common attributes r.heading ≡ true = ap (have_no_common attributes) (sym c.heading-heading.ensures) ∙ sym c.are_new.ensures ∙ c.if-are_new.true in
    let headed : IsHeading (pack r.heading) = subst (λ h. IsHeading (pack h)) c.heading-heading.ensures c.reveal.ensures.heading in
    subst (Answers (λ v. v) c.extension_by.result)
    (sym (new_settings_extend (Valued attributes) fs r (IsRelation-view r.heading r.body headed c.reveal-2.ensures.headed c.reveal-2.ensures.ascending)
    (λ xs same. ap (λ ys. have_no_common ys r.heading) (sym (valued_is attributes xs same)) ∙ new)))
    (c.extension_by.ensures fs lengths a)
