-- What is answered of an outcome that keeps a type.
use Rattle.std.proofs.Common.{◌≡◌, List, Result, Ok, Err, subst}
use Rattle.td_eval.specs.laws.ValueTypes.{AnswersType, IsDynamic, KeepsType}
use Rattle.td_tree.proofs.law_lemmas.LeastCauses.{least_is_named}
use Rattle.td_tree.specs.declared.fault.Fault.{Fault}
use Rattle.td_tree.specs.declared.fault.Fault.TheVariants as faults
use Rattle.td_tree.specs.model.Outcomes.{Answers, Outcome, Valued, Refused, least}
use Rattle.td_types.specs.model.TypeLists.{DeclaredType}
use Rattle.td_types.specs.model.Types.{Type'}
use Rattle.td_value.specs.model.Values.{Val}

pub answers_type : (ds : List DeclaredType) (t : Type') (o : Outcome Val) (r : Result Val Fault) → Answers (λ v. v) r o → KeepsType ds (Valued t) o
    → AnswersType ds t r
answers_type ds t o (Ok v) a k = subst (KeepsType ds (Valued t)) a k
answers_type ds t (Valued v) (Err (faults.Refused c)) a k = absurd (cc)
answers_type ds t (Refused cs) (Err (faults.Refused c)) a k =
    let same : least cs ≡ c = cc in
    subst IsDynamic same (k (least cs) (least_is_named cs).0)
answers_type ds t o (Err faults.Memory) a k = tt
