-- What a log of steps keeps of tuples by number (this project's own).
use Rattle.std.specs.Prelude.{ℕ, Bool, true, false, ◌&&◌, List, [], ◌∷◌, ◌++◌, fold, length, nat_eq, nat_lt, slice_set}
use Rattle.td_value.specs.model.Values.{Tuple}
use Rattle.td_body.specs.code.Numbered.{front, live, repeats, tuple_eq}
use Rattle.td_body.specs.declared.hashed.step.Step.{Step}
use Rattle.td_body.specs.declared.hashed.step.Step.TheVariants.{Kept, Added, Dropped}

-- what is known of each kept set before the last step, by what is known before those that came earlier, and the tuples after
-- the last
abbrev pub step_back : {X : Type 0} → (List Tuple → X) → (List Tuple → List Bool → List X) → Step → List Tuple → List Bool → List X
step_back of_set earlier Kept rows gone = earlier rows gone ++ of_set (live rows gone) ∷ []
step_back of_set earlier Added rows gone = earlier (front rows) (front gone)
step_back of_set earlier (Dropped number) rows gone = earlier rows (slice_set gone number false)

-- what a function gives of each set that is kept where these steps led to the tuples
abbrev pub kept_by : {X : Type 0} → (List Tuple → X) → List Step → List Tuple → List Bool → List X
kept_by of_set log = fold (step_back of_set) (λ _ _. []) log

-- whether each tuple that came in stands behind the first ones, each that went out has a number, and no tuple is in a kept
-- set twice
abbrev pub proper_back : ℕ → (List Tuple → List Bool → Bool) → Step → List Tuple → List Bool → Bool
proper_back fixed earlier Kept rows gone = nat_eq (repeats tuple_eq (live rows gone)) 0 && earlier rows gone
proper_back fixed earlier Added rows gone = nat_lt fixed (length rows) && earlier (front rows) (front gone)
proper_back fixed earlier (Dropped number) rows gone = nat_lt number (length rows) && earlier rows (slice_set gone number false)

abbrev pub is_proper : ℕ → List Step → List Tuple → List Bool → Bool
is_proper fixed log = fold (proper_back fixed) (λ _ _. true) log
