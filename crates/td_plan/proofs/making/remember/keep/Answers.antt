use Rattle.std.proofs.Common.{◌≡◌, ◌∙◌, ap, arith, inr, subst, suc, sym}
use Rattle.td_plan.proofs.Withins.{on_within}
use Rattle.td_plan.specs.code.Memos.{IsOn, IsSound}
use Rattle.td_plan.specs.code.StepViews.{step_view}
use Rattle.td_plan.proofs.making.remember.keep.Goals as goal

pub returns : goal.returns
returns c = λ names before.
    let same : c.in_ok-part.part.value ≡ c.args.step.now = c.in_ok-part.ensures.ok ∙ c.replace-part.ensures.value in
    let told = c.in-Some.ensures in
    let next : c.in-Some.next ≡ suc c.args.places.now = omega (arith, told) in
    inr (
      next,
      ap step_view same,
      λ ps on at sound. (
        record { at = at ∙ ap step_view (sym same); within = on_within c.args.reach names (step_view c.in_ok-part.part.value) before (subst (λ s. IsOn names (step_view s)) (sym same) on) },
        subst (IsSound ps) (sym same) sound,
      ),
    )
