use Rattle.td_eval.specs.model.TreeValues.{value_of}
use Rattle.td_plan.proofs.laws.plans_serve_their_scope.Goals as goal

pub returns : goal.returns
returns c = λ scope plan e stands w s rules answer answers. answers scope (λ w s. value_of w s e) (stands rules.typed.0 rules.typed.1) rules.gives rules.tuples
