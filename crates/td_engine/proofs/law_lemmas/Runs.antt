-- Statements in turn: runs joined, the machine's one answer, and what a run leaves.
use Rattle.std.proofs.Common.{◌≡◌, ◌≤◌, ◌+◌, ℕ, zero, suc, Bool, true, false, List, [], ◌∷◌, ◌++◌, take, refl, sym, ap, ◌∙◌, arith, subst}
use Rattle.td_engine.specs.model.Machine.{Progress, State, Step, Steps, step_of_outcome, Runs, nothing, stopped, next, and_then, has_stopped}
use Rattle.td_parse.proofs.Parsed.{one_meaning}
use Rattle.td_tree.specs.model.Statements.{PlacedToken}

-- after a stop nothing is run
pub runs_stopped : (stop : Bool) (p : Progress) (ss : List (List PlacedToken)) → has_stopped stop p ≡ true → Runs stop p ss p
runs_stopped stop p [] h = nothing
runs_stopped stop p (s ∷ ss) h = stopped h

pub stays_stopped : (stop : Bool) (p : Progress) (ss : List (List PlacedToken)) (q : Progress) → Runs stop p ss q → has_stopped stop p ≡ true → q ≡ p
stays_stopped stop p ss q nothing h = refl
stays_stopped stop p ss q (stopped over) h = refl
stays_stopped stop p ss q (next step goes steps rest) h = let e : false ≡ true = sym goes ∙ h in absurd cc

-- these and then those
pub runs_append : (stop : Bool) (p : Progress) (xs : List (List PlacedToken)) (q : Progress) (ys : List (List PlacedToken)) (r : Progress) → Runs stop p xs q → Runs stop q ys r → Runs stop p (xs ++ ys) r
runs_append stop p xs q ys r nothing k = k
runs_append stop p xs q ys r (stopped over) k = subst (λ (z : Progress). Runs stop p (xs ++ ys) z) (sym (stays_stopped stop p ys r k over)) (runs_stopped stop p (xs ++ ys) over)
runs_append stop p xs q ys r (next step goes steps rest) k = next step goes steps (runs_append stop _ _ q ys r rest k)

-- a list of tokens does one thing
pub one_step : (old : State) (tokens : List PlacedToken) (s t : Step State) → Steps old tokens s → Steps old tokens t → s ≡ t
one_step old tokens s t does also =
    let meaning = one_meaning tokens in
    does.2 ∙ ap (step_of_outcome old) (meaning.2 does.0 does.1 ∙ sym (meaning.2 also.0 also.1)) ∙ sym also.2

-- a list of statements has one outcome
pub one_outcome : (stop : Bool) (p : Progress) (ss : List (List PlacedToken)) (q r : Progress) → Runs stop p ss q → Runs stop p ss r → q ≡ r
one_outcome stop p [] q r nothing nothing = refl
one_outcome stop p (s ∷ ss) q r (stopped over) k = sym (stays_stopped stop p (s ∷ ss) r k over)
one_outcome stop p (s ∷ ss) q r (next step goes steps rest) (stopped over) = let e : false ≡ true = sym goes ∙ over in absurd cc
one_outcome stop p (s ∷ ss) q r (next step goes steps rest) (next other also does more) =
    let same : step ≡ other = one_step p.state s step other steps does in
    one_outcome stop (and_then p step) ss q r rest (subst (λ (z : Step State). Runs stop (and_then p z) ss r) (sym same) more)

-- what a list of tokens does
some_step : (old : State) (tokens : List PlacedToken) → (s : Step State) × Steps old tokens s
some_step old tokens = let meaning = one_meaning tokens in (step_of_outcome old meaning.0, (meaning.0, meaning.1, refl))

-- a list of statements has an outcome
pub some_outcome : (stop : Bool) (p : Progress) (ss : List (List PlacedToken)) → (q : Progress) × Runs stop p ss q
some_outcome stop p [] = (p, nothing)
some_outcome stop p (s ∷ ss) =
    (elim (has_stopped stop p) as (λ b. has_stopped stop p ≡ b → (q : Progress) × Runs stop p (s ∷ ss) q) [
      | true ↦ λ over. (p, stopped over)
      | false ↦ λ goes.
          let step = some_step p.state s in
          let rest = some_outcome stop (and_then p step.0) ss in
          (rest.0, next step.0 goes step.1 rest.1)
    ]) refl

-- ---- the statements that were run

-- none is taken back
statements_grow : (stop : Bool) (p : Progress) (ss : List (List PlacedToken)) (q : Progress) → Runs stop p ss q → p.statements ≤ q.statements
statements_grow stop p ss q nothing = omega arith
statements_grow stop p ss q (stopped over) = omega arith
statements_grow stop p ss q (next {ss = rest_of} step goes steps rest) =
    let more : p.statements + 1 ≤ q.statements = statements_grow stop (and_then p step) rest_of q rest in omega (arith, more)

-- a run is one of as many statements as it counted
pub runs_front : (stop : Bool) (p : Progress) (ss : List (List PlacedToken)) (q : Progress) (n : ℕ) → Runs stop p ss q → q.statements ≡ p.statements + n
    → Runs stop p (take n ss) q
runs_front stop p ss q zero nothing e = nothing
runs_front stop p ss q (suc n) nothing e = nothing
runs_front stop p ss q zero (stopped over) e = nothing
runs_front stop p ss q (suc n) (stopped over) e = absurd (omega (arith, e))
runs_front stop p ss q zero (next {ss = rest_of} step goes steps rest) e =
    let more : p.statements + 1 ≤ q.statements = statements_grow stop (and_then p step) rest_of q rest in absurd (omega (arith, e, more))
runs_front stop p ss q (suc n) (next {ss = rest_of} step goes steps rest) e =
    let left : q.statements ≡ (p.statements + 1) + n = omega (arith, e) in
    next step goes steps (runs_front stop (and_then p step) rest_of q n rest left)
