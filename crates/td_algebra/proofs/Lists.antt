-- What lists that are made of others contain.
use Rattle.std.proofs.Common.{◌≡◌, ◌<◌, ◌⊎◌, inl, inr, ℕ, zero, suc, Bool, true, false, List, [], ◌∷◌, ap, arith, filter, length, map, get_or, refl, sym, subst, ◌∙◌, true≢false}
use Rattle.std.specs.Prelude.{◌↔◌, IsTrue}
use Rattle.std.specs.List.{Contains, flat_map, list_any}
use Rattle.std.proofs.lemmas.List.Elements.{Contains-append_cases, Contains-append_left, Contains-append_right}

pub contains_first : {X : Type 0} (x : X) (xs : List X) → Contains (x ∷ xs) x
contains_first x xs = (0, omega arith, refl)

pub contains_later : {X : Type 0} (y : X) (xs : List X) (x : X) → Contains xs x → Contains (y ∷ xs) x
contains_later y xs x c = (suc c.0, (let below = c.1 in omega arith), c.2)

at_place : {X : Type 0} (y : X) (xs : List X) (x : X) (k : ℕ) → k < length (y ∷ xs) → get_or (y ∷ xs) k x ≡ x → (y ≡ x) ⊎ Contains xs x
at_place y xs x zero l e = inl e
at_place y xs x (suc k) l e = inr (k, omega arith, e)

pub contains_cases : {X : Type 0} (y : X) (xs : List X) (x : X) → Contains (y ∷ xs) x → (y ≡ x) ⊎ Contains xs x
contains_cases y xs x c = at_place y xs x c.0 c.1 c.2

pub contains_none : {X : Type 0} (x : X) → Contains [] x → ⊥
contains_none x c = let below = c.1 in omega arith

-- ---- the items that pass a test

module _ {X : Type 0} (p : X → Bool) where
  kept : (xs : List X) (x : X) → Contains (filter p xs) x → Contains xs x × IsTrue (p x)
  kept [] x c = absurd (contains_none x c)
  kept (y ∷ ys) x c = by_test (kept ys x) (p y) refl c
    where
      by_case : (Contains (filter p ys) x → Contains ys x × IsTrue (p x)) → p y ≡ true → (y ≡ x) ⊎ Contains (filter p ys) x → Contains (y ∷ ys) x × IsTrue (p x)
      by_case rest e (inl is) = (subst (Contains (y ∷ ys)) is (contains_first y ys), subst (λ z. p z ≡ true) is e)
      by_case rest e (inr d) = let r = rest d in (contains_later y ys x r.0, r.1)

      by_test : (Contains (filter p ys) x → Contains ys x × IsTrue (p x)) → (b : Bool) → p y ≡ b → Contains (filter p (y ∷ ys)) x → Contains (y ∷ ys) x × IsTrue (p x)
      by_test rest true e d = by_case rest e (contains_cases y (filter p ys) x (rw e at d))
      by_test rest false e d = let r = rest (rw e at d) in (contains_later y ys x r.0, r.1)

  keeps : (xs : List X) (x : X) → Contains xs x → p x ≡ true → Contains (filter p xs) x
  keeps [] x c e = absurd (contains_none x c)
  keeps (y ∷ ys) x c e = by_case (λ d. keeps ys x d e) (contains_cases y ys x c)
    where
      later : Contains (filter p ys) x → (b : Bool) → p y ≡ b → Contains (filter p (y ∷ ys)) x
      later d true f = rw f (contains_later y (filter p ys) x d)
      later d false f = rw f d

      by_case : (Contains ys x → Contains (filter p ys) x) → (y ≡ x) ⊎ Contains ys x → Contains (filter p (y ∷ ys)) x
      by_case rest (inl is) =
          let passes : p y ≡ true = ap p is ∙ e in
          rw passes (subst (Contains (y ∷ filter p ys)) is (contains_first y (filter p ys)))
      by_case rest (inr d) = later (rest d) (p y) refl

  pub contains_filter : (xs : List X) (x : X) → Contains (filter p xs) x ↔ (Contains xs x × IsTrue (p x))
  contains_filter xs x = (kept xs x, λ c. keeps xs x c.0 c.1)

  -- a test that some item passes
  pub contains_any : (xs : List X) → IsTrue (list_any p xs) ↔ ((x : X) × Contains xs x × IsTrue (p x))
  contains_any xs = (from_any xs, λ c. any_from xs c.0 c.1 c.2)
    where
      from_any : (ys : List X) → list_any p ys ≡ true → (x : X) × Contains ys x × IsTrue (p x)
      from_any [] e = absurd (true≢false (sym e))
      from_any (y ∷ ys) e = by_test (from_any ys) (p y) refl
        where
          by_test : (list_any p ys ≡ true → (x : X) × Contains ys x × IsTrue (p x)) → (b : Bool) → p y ≡ b → (x : X) × Contains (y ∷ ys) x × IsTrue (p x)
          by_test rest true f = (y, contains_first y ys, f)
          by_test rest false f = let r = rest (rw f at e) in (r.0, contains_later y ys r.0 r.1, r.2)

      any_from : (ys : List X) (x : X) → Contains ys x → p x ≡ true → list_any p ys ≡ true
      any_from [] x c e = absurd (contains_none x c)
      any_from (y ∷ ys) x c e = by_case (any_from ys x) (contains_cases y ys x c)
        where
          later : list_any p ys ≡ true → (b : Bool) → p y ≡ b → list_any p (y ∷ ys) ≡ true
          later d true f = rw f refl
          later d false f = rw f d

          by_case : (Contains ys x → p x ≡ true → list_any p ys ≡ true) → (y ≡ x) ⊎ Contains ys x → list_any p (y ∷ ys) ≡ true
          by_case rest (inl is) =
              let passes : p y ≡ true = ap p is ∙ e in
              rw passes refl
          by_case rest (inr d) = later (rest d e) (p y) refl

-- where all pass it, none is dropped
pub all_kept : {X : Type 0} (p : X → Bool) (xs : List X) → ((x : X) → p x ≡ true) → filter p xs ≡ xs
all_kept p [] h = refl
all_kept p (x ∷ xs) h = rw (h x) (ap (λ ys. x ∷ ys) (all_kept p xs h))

-- ---- what a function gives of the items

module _ {X Y : Type 0} where
  pub contains_map : (f : X → Y) (xs : List X) (y : Y) → Contains (map f xs) y ↔ ((x : X) × Contains xs x × (f x ≡ y))
  contains_map f xs y = (from_map xs, λ c. map_from xs c.0 c.1 c.2)
    where
      from_map : (xs : List X) → Contains (map f xs) y → (x : X) × Contains xs x × (f x ≡ y)
      from_map [] c = absurd (contains_none y c)
      from_map (z ∷ zs) c = by_case (from_map zs) (contains_cases (f z) (map f zs) y c)
        where
          by_case : (Contains (map f zs) y → (x : X) × Contains zs x × (f x ≡ y)) → (f z ≡ y) ⊎ Contains (map f zs) y → (x : X) × Contains (z ∷ zs) x × (f x ≡ y)
          by_case rest (inl e) = (z, contains_first z zs, e)
          by_case rest (inr d) = let r = rest d in (r.0, contains_later z zs r.0 r.1, r.2)

      map_from : (xs : List X) (x : X) → Contains xs x → f x ≡ y → Contains (map f xs) y
      map_from [] x c e = absurd (contains_none x c)
      map_from (z ∷ zs) x c e = by_case (map_from zs x) (contains_cases z zs x c)
        where
          by_case : (Contains zs x → f x ≡ y → Contains (map f zs) y) → (z ≡ x) ⊎ Contains zs x → Contains (map f (z ∷ zs)) y
          by_case rest (inl is) = subst (Contains (f z ∷ map f zs)) (ap f is ∙ e) (contains_first (f z) (map f zs))
          by_case rest (inr d) = contains_later (f z) (map f zs) y (rest d e)

  pub contains_flat_map : (f : X → List Y) (xs : List X) (y : Y) → Contains (flat_map f xs) y ↔ ((x : X) × Contains xs x × Contains (f x) y)
  contains_flat_map f xs y = (from_map xs, λ c. map_from xs c.0 c.1 c.2)
    where
      from_map : (xs : List X) → Contains (flat_map f xs) y → (x : X) × Contains xs x × Contains (f x) y
      from_map [] c = absurd (contains_none y c)
      from_map (z ∷ zs) c = by_case (from_map zs) (Contains-append_cases (f z) (flat_map f zs) y c)
        where
          by_case : (Contains (flat_map f zs) y → (x : X) × Contains zs x × Contains (f x) y) → Contains (f z) y ⊎ Contains (flat_map f zs) y
              → (x : X) × Contains (z ∷ zs) x × Contains (f x) y
          by_case rest (inl d) = (z, contains_first z zs, d)
          by_case rest (inr d) = let r = rest d in (r.0, contains_later z zs r.0 r.1, r.2)

      map_from : (xs : List X) (x : X) → Contains xs x → Contains (f x) y → Contains (flat_map f xs) y
      map_from [] x c d = absurd (contains_none x c)
      map_from (z ∷ zs) x c d = by_case (map_from zs x) (contains_cases z zs x c)
        where
          by_case : (Contains zs x → Contains (f x) y → Contains (flat_map f zs) y) → (z ≡ x) ⊎ Contains zs x → Contains (flat_map f (z ∷ zs)) y
          by_case rest (inl is) = Contains-append_left (f z) (flat_map f zs) y (subst (λ w. Contains (f w) y) (sym is) d)
          by_case rest (inr e) = Contains-append_right (f z) (flat_map f zs) y (rest e d)
