use Rattle.std.proofs.Common.{FitsSigned, rules}
use Rattle.std.proofs.lemmas.Int.{to_z-of_z}
use mir.Syntax.{w64}
use Rattle.std.proofs.lemmas.Result.{IfOk-weaker}
use Rattle.td_plan.proofs.Granted.{quick_granted}
use Rattle.td_plan.proofs.QuickRows.{the_same}
use Rattle.td_value.specs.model.Values.{integer}
use Rattle.td_plan.proofs.running.quick_numbers.same_numbers.Goals as goal

pub returns : goal.returns
returns c = λ o ts found many.
    let fits : FitsSigned w64 c.in_ok-z.z = search rules in
    quick_granted integer (λ t. o) ts c.vec.result c.ok.result c.ok.ensures.value (IfOk-weaker c.vec.result _ _ (λ numbers same.
    rw (same (λ y e. e), to_z-of_z w64 c.in_ok-z.z fits) (the_same integer o c.in_ok-z.z ts c.args.count (c.in_ok-z.ensures o found) many))
    c.vec.ensures.items_if_clones_equal)
