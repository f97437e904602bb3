use Rattle.std.proofs.Common.{◌≡◌, subst}
use Rattle.std.specs.Prelude.{◌↔◌, IsTrue}
use Rattle.td_eval.proofs.code_lemmas.OpComparisons.{type_test}
use Rattle.td_value.specs.model.Values.{type_of}
use Rattle.td_eval.proofs.operators.comparisons.have_one_type.Goals as goal

pub returns : goal.returns
returns c =
    type_test (type_of c.args.first.now) (type_of c.args.second.now) c.has_type.result
    (subst (λ t. IsTrue c.has_type.result ↔ (type_of c.args.first.now ≡ t)) c.in_ok-ty.ensures c.has_type.ensures)
