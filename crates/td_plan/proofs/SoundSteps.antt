-- Steps whose parts are those at their places.
use Rattle.std.proofs.Common.{◌≡◌, ℕ, zero, suc, List, [], ◌∷◌, ◌<◌, length, get_or, arith, subst, sym}
use Rattle.td_plan.specs.declared.plan.step.Step.{Step}
use Rattle.td_plan.specs.code.Memos.{AreSound, IsSound, Parts}

pub sound_at : (ps : Parts) (xs : List Step) (i : ℕ) (x : Step) → i < length xs → x ≡ get_or xs i x → AreSound ps xs → IsSound ps x
sound_at ps [] i x l e h = absurd (omega arith)
sound_at ps (y ∷ xs) zero x l e h = subst (IsSound ps) (sym e) h.0
sound_at ps (y ∷ xs) (suc i) x l e h = sound_at ps xs i x (omega arith) e h.1
