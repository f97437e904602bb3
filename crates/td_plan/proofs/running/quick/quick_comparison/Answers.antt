use Rattle.std.proofs.Common.{◌≡◌, subst, sym}
use Rattle.td_eval.specs.model.OperatorValues.{comparison_value}
use Rattle.td_plan.specs.code.Hands.{slots_of}
use Rattle.td_plan.specs.code.Quick.{IsQuick}
use Rattle.td_plan.specs.code.Runs.{step_value}
use Rattle.td_tree.specs.model.Outcomes.{Valued, with_both}
use Rattle.td_value.specs.model.Values.{boolean, char}
use Rattle.td_plan.proofs.running.quick.quick_comparison.Goals as goal

pub returns : goal.returns
returns c = λ ps w left right m.
    let s : step_value w (slots_of c.args.hand.now) c.args.left.now ≡ Valued (char c.in_ok-s.s.now) = c.in_ok-s.ensures _ (c.quick_value.ensures ps w left m) in
    let t : step_value w (slots_of c.args.hand.now) c.args.right.now ≡ Valued (char c.in_ok-text_in.field-0.now) = c.in_ok-text_in.ensures _ (c.quick_value-2.ensures ps w right m) in
    subst (IsQuick boolean c.texts_compared.result) (λ i. with_both (sym s i) (sym t i) (comparison_value c.args.op)) c.texts_compared.ensures
