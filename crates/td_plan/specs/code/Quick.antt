-- What is found without causes (this project's own).
use Rattle.std.specs.Global.{Vec}
use Rattle.std.specs.Prelude.{◌≡◌, List, map, Option, Some, None, ⊤}
use Rattle.td_tree.specs.model.Outcomes.{Outcome, Valued, with_both}
use Rattle.td_value.specs.model.Values.{Tuple, Val}

-- where something is found, it is the value
abbrev pub IsQuick : {X : Type 0} → (X → Val) → Option X → Outcome Val → Type 0
IsQuick view (Some x) o = o ≡ Valued (view x)
IsQuick view None o = ⊤

-- the values in tuples are these, one for each
abbrev pub AreInRows : {X : Type 0} → (X → Val) → (Tuple → Outcome Val) → List Tuple → List X → Type 0
AreInRows view f ts xs = map f ts ≡ map (λ x. Valued (view x)) xs

-- where some are found, they are those
abbrev pub AreQuick : {X : Type 0} → (X → Val) → (Tuple → Outcome Val) → List Tuple → Option (Vec X) → Type 0
AreQuick view f ts (Some xs) = AreInRows view f ts xs.items
AreQuick view f ts None = ⊤

-- where the values of two steps in tuples are these, what is given of both is found
abbrev pub AreOfBoth : {X Y : Type 0} → (X → Val) → (Y → Val) → (Val → Val → Outcome Val) → List X → List X → Option (Vec Y) → Type 0
AreOfBoth from to op left right found =
    (f g : Tuple → Outcome Val) (ts : List Tuple) → AreInRows from f ts left → AreInRows from g ts right
    → AreQuick to (λ t. with_both (f t) (g t) op) ts found
