use Rattle.std.proofs.Common.{Err, subst, sym}
use Rattle.std.specs.Prelude.{⊤}
use Rattle.td_engine.proofs.law_lemmas.Admitted.{failed_follows}
use Rattle.td_engine.specs.code.Carried.{Changes}
use Rattle.td_engine.specs.model.Machine.{by_outcome, unchecked_effect}
use Rattle.td_tree.specs.model.Outcomes.{Answers}
use Rattle.td_engine.proofs.definitions.unchecked_effect.Goals as goal

pub returns-in-Err : goal.returns-in-Err
returns-in-Err c = λ db o h.
    subst (λ f. Changes db (Err f) (by_outcome o unchecked_effect)) (sym c.failure_of.ensures) (failed_follows db (λ (u : ⊤). db) c.in-Err.fault o unchecked_effect (subst (λ d. Answers (λ (u : ⊤). db) d o) c.in-Err.is h))
