use Rattle.std.proofs.Common.{◌≡◌, map, subst, sym}
use Rattle.std.specs.List.{Contains}
use Rattle.std.specs.Prelude.{IfOk, IfSome, IsTrue}
use Rattle.td_check.specs.laws.CannotFail.{cannot_fail}
use Rattle.td_plan.proofs.FixedParts.{all_among}
use Rattle.td_plan.proofs.LookUpValues.{look_up_narrows}
use Rattle.td_plan.specs.declared.rewriting.fixed.FixedValue.{FixedValue}
use Rattle.td_plan.specs.code.Fixing.{IsUnfailing}
use Rattle.td_plan.specs.code.Narrowing.{AreFixed, IsFixedTo, Narrows}
use Rattle.td_plan.specs.code.StepViews.{step_view}
use Rattle.td_tree.specs.model.WrittenTrees.{IsWritten}
use Rattle.td_tree.specs.code.TreeViews.{tree_view}
use Rattle.td_types.specs.model.Headings.{projection}
use Rattle.td_types.specs.model.Types.{attribute_names}
use Rattle.td_plan.proofs.rewriting.narrowed.look_up_by_key.Goals as goal

pub returns-in_ok-look_up_step-in-Some-2 : goal.returns-in_ok-look_up_step-in-Some-2
returns-in_ok-look_up_step-in-Some-2 g c = λ scope d inside means base given static.
    let e = tree_view c.args.condition.now in
    let h = c.args.heading.now in
    let key = c.in-Some.key.now in
    let part = c.in-Some-2.part.items in
    let fixed = c.in_ok-fixed.fixed.items in
    let are = subst (λ o. IfOk o (λ xs. IsWritten e → AreFixed scope h e xs.items)) c.in_ok-fixed.was given in
    let names =
    subst (λ o. IfSome o (λ part. map (λ (x : FixedValue). x.name) part.items ≡ attribute_names (projection key h))) c.in-Some-2.is c.in_ok-part.ensures.names in
    let within =
    subst (λ o. IfSome o (λ part. (x : FixedValue) → Contains part.items x → Contains fixed x)) c.in-Some-2.is c.in_ok-part.ensures.fixed in
    let unfailing = subst (λ o. IfSome o (λ key. IsUnfailing c.args.inner.now.scope e)) c.in-Some.is c.in_ok-key.ensures in
    subst (λ q. Narrows scope q d e h) (sym c.in_ok-look_up_step-in-Some-2.ensures)
    (look_up_narrows scope c.args.name.now key part d e h base means static
    unfailing.numbers (subst (λ s. IsTrue (cannot_fail s e)) inside unfailing.never)
    (λ written. all_among (λ (x : FixedValue). IsFixedTo scope h e x.name (step_view x.value)) part fixed within (are written)) names)
