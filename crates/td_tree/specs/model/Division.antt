-- The division of a list into longest pieces (this project's own). A machine says how a piece
-- begins and how it goes on.
use Rattle.std.specs.Prelude.{◌≡◌, ◌≤◌, List, [], ◌∷◌, ◌++◌, length, Option, Some, None, Bool, if◌then◌else◌, option_map}

module _ {X S : Type 0} (opens : X → S) (goes_on : S → X → Option S) where
  -- the state after these, from a state or from none
  abbrev pub run : Option S → List X → Option S
  run None xs = None
  run (Some s) [] = Some s
  run (Some s) (x ∷ xs) = run (goes_on s x) xs

  -- the state after a whole piece; None where it is no piece
  abbrev pub state : List X → Option S
  state [] = None
  state (x ∷ xs) = run (Some (opens x)) xs

  -- a piece: the machine goes through all of it
  pub record IsPiece (p : List X) : Type 0 where
    pub last : S
    pub is : state p ≡ Some last

  -- p is the longest front of p ++ rest that is a piece
  pub record IsNext (p rest : List X) : Type 0 where
    pub piece : IsPiece p
    pub longest : (q r : List X) → IsPiece q → q ++ r ≡ p ++ rest → length q ≤ length p

  -- joined the pieces are the list, and each is the longest front of what is left
  abbrev pub IsDivision : List (List X) → List X → Type 0
  IsDivision [] xs = xs ≡ []
  IsDivision (p ∷ ps) xs = (rest : List X) × (xs ≡ p ++ rest) × IsNext p rest × IsDivision ps rest

  -- the pieces of p ++ xs, where p is the front of the first, which the machine left in state s
  abbrev pub divide_from : S → List X → List X → List (List X)
  divide_from s p [] = p ∷ []
  divide_from s p (x ∷ xs) =
      elim (goes_on s x) as (λ _. List (List X))
      [ Some t ↦ divide_from t (p ++ x ∷ []) xs | None ↦ p ∷ divide_from (opens x) (x ∷ []) xs ]

  -- the division, made from the left
  abbrev pub divide : List X → List (List X)
  divide [] = []
  divide (x ∷ xs) = divide_from (opens x) (x ∷ []) xs

-- up to and with the first that ends; None where none does
abbrev pub up_to : {X : Type 0} → (X → Bool) → List X → Option (List X)
up_to ends [] = None
up_to ends (p ∷ ps) = if ends p then Some (p ∷ []) else option_map (λ qs. p ∷ qs) (up_to ends ps)
