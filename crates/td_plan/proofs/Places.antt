-- Where attributes stand in headings.
use Rattle.std.proofs.Common.{◌≡◌, ◌∙◌, ◌+◌, ℕ, zero, suc, List, [], ◌∷◌, ◌++◌, Option, Some, None, Bool, true, false, ap, refl, subst, sym, length, map, reverse, take, option_map, add-one, get_or, ◌<◌, if◌then◌else◌}
use Rattle.std.specs.List.{slice_get}
use Rattle.std.proofs.Math.Seq.{take-suc}
use Rattle.std.proofs.lemmas.List.{map-append, reverse-append}
use Rattle.td_plan.specs.code.Planners.{is_named, place_in}
use Rattle.td_types.specs.model.Types.{Heading, same_name}

not_none : (o : Option ℕ) → option_map suc o ≡ None → o ≡ None
not_none None e = refl
not_none (Some p) e = absurd (cc)

none_after : (b : Bool) (o : Option ℕ) → (if b then Some 0 else option_map suc o) ≡ None → (b ≡ false) × (o ≡ None)
none_after true o e = absurd (cc)
none_after false o e = (refl, not_none o e)

module _ (n : List ℕ) where
  -- the first of the name
  pub place_here : (h : Heading) (i : ℕ) → is_named n (slice_get h i) ≡ true → place_in n (take i h) ≡ None → place_in n h ≡ Some i
  place_here [] i is none = absurd (cc)
  place_here (a ∷ h) zero is none = rw is refl
  place_here (a ∷ h) (suc i) is none =
      let after = none_after (same_name a.0 n) (place_in n (take i h)) none in
      rw (after.0, place_here h i is after.1) refl

  -- one more that is not
  place_beyond : (h : Heading) (i : ℕ) → is_named n (slice_get h i) ≡ false → place_in n (take i h) ≡ None → place_in n (take (suc i) h) ≡ None
  place_beyond [] i is none = refl
  place_beyond (a ∷ h) zero is none = rw is refl
  place_beyond (a ∷ h) (suc i) is none =
      let after = none_after (same_name a.0 n) (place_in n (take i h)) none in
      rw (after.0, place_beyond h i is after.1) refl

  pub no_place_yet : (h : Heading) (i : ℕ) → is_named n (slice_get h i) ≡ false → place_in n (take i h) ≡ None → place_in n (take (i + 1) h) ≡ None
  no_place_yet h i is none = subst (λ j. place_in n (take j h) ≡ None) (sym (add-one i)) (place_beyond h i is none)

-- the innermost is the last
last_first : (h : Heading) (outer : List Heading) → reverse (outer ++ (h ∷ [])) ≡ h ∷ reverse outer
last_first h outer = reverse-append outer (h ∷ [])

-- one more of the headings
pub one_more_first : (hs : List Heading) (i : ℕ) (h : Heading) → i < length hs → h ≡ get_or hs i h → reverse (take (i + 1) hs) ≡ h ∷ reverse (take i hs)
one_more_first hs i h l is =
    (λ j. reverse (take (add-one i j) hs)) ∙ ap reverse (take-suc hs i h l ∙ (λ j. take i hs ++ (sym is j ∷ []))) ∙ last_first h (take i hs)

-- one more of the tuples in hand
pub one_more_of : {X Y : Type 0} (f : X → Y) (xs : List X) (i : ℕ) (x : X) → i < length xs → x ≡ get_or xs i x
    → reverse (map f (take (i + 1) xs)) ≡ f x ∷ reverse (map f (take i xs))
one_more_of f xs i x l is =
    let taken = (λ j. take (add-one i j) xs) ∙ take-suc xs i x l ∙ (λ j. take i xs ++ (sym is j ∷ [])) in
    ap (λ ys. reverse (map f ys)) taken ∙ ap reverse (map-append f (take i xs) (x ∷ [])) ∙ reverse-append (map f (take i xs)) (f x ∷ [])
