use Rattle.std.proofs.Common.{◌∷◌, [], ap, refl, subst, sym}
use Rattle.std.proofs.lemmas.Result.{IfOk-weaker}
use Rattle.td_plan.proofs.Remembering.{leaf_remembered}
use Rattle.td_plan.proofs.Withins.{attribute_on}
use Rattle.td_plan.specs.code.Memos.{IsOn, IsSound}
use Rattle.td_plan.specs.code.StepViews.{step_view}
use Rattle.td_plan.proofs.making.remember.leaf_names.Goals as goal

pub returns-in-Constant : goal.returns-in-Constant
returns-in-Constant c = λ a.
    leaf_remembered a c.new.result.items c.args.step.now c.args.step.now refl (λ w s t agree. rw (ap step_view c.in-Constant.is) refl)
    (λ ps. subst (IsSound ps) (sym c.in-Constant.is) tt)

pub returns-in-Relvar : goal.returns-in-Relvar
returns-in-Relvar c = λ a.
    leaf_remembered a c.new-in-Relvar.result.items c.args.step.now c.args.step.now refl (λ w s t agree. rw (ap step_view c.in-Relvar.is) refl)
    (λ ps. subst (IsSound ps) (sym c.in-Relvar.is) tt)

pub returns-in-Attribute : goal.returns-in-Attribute
returns-in-Attribute c =
    let k = c.in-Attribute.slot in
    IfOk-weaker c.one.result _ _ (λ names h a. leaf_remembered a names.items c.args.step.now c.args.step.now refl
    (subst (λ ns. IsOn ns (step_view c.args.step.now)) (sym h) (subst (IsOn (k ∷ [])) (ap step_view (sym c.in-Attribute.is)) (attribute_on k c.in-Attribute.place)))
    (λ ps. subst (IsSound ps) (sym c.in-Attribute.is) tt)) c.one.ensures
