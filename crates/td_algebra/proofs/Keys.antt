-- What holds of an answer's value, and the entries that tests of their names keep.
use Rattle.std.proofs.Common.{◌≡◌, refl, ℕ, Bool, true, false, List, [], ◌∷◌, filter, IfOk, Result, Ok, Err}
use Rattle.std.specs.Prelude.{◌||◌}
use Rattle.td_types.specs.model.Headings.{has_name}
use Rattle.td_types.specs.model.Types.{same_name}
use Rattle.td_types.proofs.HeadingLaws.{same_name-itself}
use Rattle.td_value.specs.model.Values.{Tuple, tuple_names}

pub if_ok : {A E : Type 0} (P Q : A → Type 0) (r : Result A E) → ((a : A) → P a → Q a) → IfOk r P → IfOk r Q
if_ok P Q (Ok a) f p = f a p
if_ok P Q (Err e) f p = tt

-- tests that agree on a tuple's names keep the same entries
pub kept_alike : (p q : List ℕ → Bool) (t : Tuple) → ((n : List ℕ) → has_name n (tuple_names t) ≡ true → p n ≡ q n)
    → filter (λ e. p e.0) t ≡ filter (λ e. q e.0) t
kept_alike p q [] h = refl
kept_alike p q (e ∷ t) h =
    let here : p e.0 ≡ q e.0 = h e.0 (rw (same_name-itself e.0) refl) in
    let rest : filter (λ f. p f.0) t ≡ filter (λ f. q f.0) t = kept_alike p q t (λ n there. h n (rw there (or_true (same_name e.0 n)))) in
    rw (here, rest) refl
  where
    or_true : (b : Bool) → (b || true) ≡ true
    or_true true = refl
    or_true false = refl
