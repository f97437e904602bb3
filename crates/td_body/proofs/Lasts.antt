-- Lists that end in one item more.
use Rattle.std.proofs.Common.{◌≡◌, ◌∷◌, ◌++◌, [], List, sym}

module _ {X : Type 0} where
  alone : (bs : List X) (x b y : X) → x ∷ [] ≡ b ∷ (bs ++ y ∷ []) → ⊥
  alone [] x b y e = cc
  alone (c ∷ cs) x b y e = cc

  first_same : (a b : X) (xs ys : List X) → a ∷ xs ≡ b ∷ ys → a ≡ b
  first_same a b xs ys e = cc

  rest_same : (a b : X) (xs ys : List X) → a ∷ xs ≡ b ∷ ys → xs ≡ ys
  rest_same a b xs ys e = cc

  -- two that are one have the same items before the last, and the same last one
  pub front_of : (xs ys : List X) (x y : X) → xs ++ x ∷ [] ≡ ys ++ y ∷ [] → xs ≡ ys
  front_of [] [] x y e = cc
  front_of [] (b ∷ ys) x y e = absurd (alone ys x b y e)
  front_of (a ∷ xs) [] x y e = absurd (alone xs y a x (sym e))
  front_of (a ∷ xs) (b ∷ ys) x y e =
      let first = first_same a b (xs ++ x ∷ []) (ys ++ y ∷ []) e in
      let rest = front_of xs ys x y (rest_same a b (xs ++ x ∷ []) (ys ++ y ∷ []) e) in
      λ i. first i ∷ rest i

  pub last_of : (xs ys : List X) (x y : X) → xs ++ x ∷ [] ≡ ys ++ y ∷ [] → x ≡ y
  last_of [] [] x y e = first_same x y [] [] e
  last_of [] (b ∷ ys) x y e = absurd (alone ys x b y e)
  last_of (a ∷ xs) [] x y e = absurd (alone xs y a x (sym e))
  last_of (a ∷ xs) (b ∷ ys) x y e = last_of xs ys x y (rest_same a b (xs ++ x ∷ []) (ys ++ y ∷ []) e)
