-- A refused statement keeps the state.
use Rattle.std.proofs.Common.{◌≡◌, ◌≢◌, List, None, refl, sym, subst}
use Rattle.td_engine.specs.model.Machine.{Accepted, Denied, Effect, State, Step, Steps, by_outcome, effect_in, step_of}
use Rattle.td_tree.specs.model.Statements.{PlacedToken}

-- the step has no cause, or the state is the same
abbrev Keeps : State → Step State → Type 0
Keeps old step = step.cause ≢ None → step.after ≡ old

keeps : (old : State) (e : Effect State) → Keeps old (step_of old e)
keeps old (Accepted new text) = λ refused. absurd (refused refl)
keeps old (Denied refusal) = λ _. refl

pub refused_keeps : (old : State) (tokens : List PlacedToken) (s : Step State) → Steps old tokens s → s.cause ≢ None → s.after ≡ old
refused_keeps old tokens s steps = subst (Keeps old) (sym steps.2) (keeps old (by_outcome steps.0 (effect_in old)))
