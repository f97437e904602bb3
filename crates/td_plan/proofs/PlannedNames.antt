-- A name's plan is the place of the innermost attribute of that name, else the relvar.
use Rattle.std.proofs.Common.{◌≡◌, ◌∙◌, ℕ, suc, Bool, true, false, List, [], ◌∷◌, Option, Some, None, ap, length, map, option_map, refl, subst, sym, if◌then◌else◌}
use Rattle.std.specs.List.{slice_get}
use Rattle.std.proofs.lemmas.List.{length-map}
use Rattle.td_check.specs.model.Scopes.{Scope}
use Rattle.td_eval.specs.model.Worlds.{World, innermost_value, known_outcome}
use Rattle.td_plan.specs.code.Planners.{attribute_place, place_in}
use Rattle.td_plan.specs.code.Plans as plans
use Rattle.td_plan.specs.code.Plans.{Slots, value_or}
use Rattle.td_plan.specs.code.PlansOf.{AreSlotsOf, IsPlanOfTyped}
use Rattle.td_tree.specs.model.Outcomes.{Outcome, Valued}
use Rattle.td_tree.specs.model.Trees as trees
use Rattle.td_types.specs.model.Types.{same_name}
use Rattle.td_value.specs.model.Values.{Tuple, Val, heading_of, value_at}
use Rattle.td_value.specs.code.Views.{values_of}

-- the value of a name in a tuple stands at its place
abbrev FoundIn : List ℕ → Tuple → Option ℕ → Type 0
FoundIn n t (Some p) = (v : Val) × (value_at n t ≡ Some v) × (slice_get (values_of t) p ≡ Some v)
FoundIn n t None = value_at n t ≡ None

found_in : (n : List ℕ) (t : Tuple) → FoundIn n t (place_in n (heading_of t))
found_in n [] = refl
found_in n (e ∷ t) = by_test (same_name e.0 n) refl (place_in n (heading_of t)) (found_in n t)
  where
    by_test : (b : Bool) → same_name e.0 n ≡ b → (o : Option ℕ) → FoundIn n t o → FoundIn n (e ∷ t) (if b then Some 0 else option_map suc o)
    by_test true is o h = (e.1, rw is refl, refl)
    by_test false is (Some p) h = (h.0, rw is h.1, h.2)
    by_test false is None h = rw is h

-- that of the innermost attribute, in the slots
abbrev FoundAt : List ℕ → List Tuple → Slots → Option (ℕ × ℕ) → Type 0
FoundAt n s slots (Some q) = (v : Val) × (innermost_value n s ≡ Some v) × (value_or (slice_get (slots q.0) q.1) ≡ Valued v)
FoundAt n s slots None = innermost_value n s ≡ None

abbrev first_or : List ℕ → List Tuple → Option Val → Option Val
first_or n s o = elim o as (λ _. Option Val) [ Some v ↦ Some v | None ↦ innermost_value n s ]

attribute_found : (n : List ℕ) (s : List Tuple) (slots : Slots) → AreSlotsOf s slots → FoundAt n s slots (attribute_place n (map heading_of s))
attribute_found n [] slots h = refl
attribute_found n (t ∷ s) slots h =
    by_place (place_in n (heading_of t)) (found_in n t) (attribute_place n (map heading_of s)) (attribute_found n s slots h.1)
  where
    here : slots (length (map heading_of s)) ≡ values_of t
    here = ap slots (length-map s heading_of) ∙ h.0

    by_place : (o : Option ℕ) → FoundIn n t o → (outer : Option (ℕ × ℕ)) → FoundAt n s slots outer
        → FoundAt n (t ∷ s) slots
        (elim o as (λ _. Option (ℕ × ℕ)) [ Some p ↦ Some (length (map heading_of s), p) | None ↦ outer ])
    by_place (Some p) is outer ih =
        (is.0, ap (first_or n s) is.1, ap (λ u. value_or (slice_get u p)) here ∙ ap value_or is.2)
    by_place None is (Some q) ih = (ih.0, ap (first_or n s) is ∙ ih.1, ih.2)
    by_place None is None ih = ap (first_or n s) is ∙ ih

abbrev name_or : World → List ℕ → Option Val → Outcome Val
name_or w n o = elim o as (λ _. Outcome Val) [ Some v ↦ Valued v | None ↦ known_outcome (w.relvar n) ]

pub attribute_planned : (scope : Scope) (n : List ℕ) (slot p : ℕ) → attribute_place n scope.entered ≡ Some (slot, p)
    → IsPlanOfTyped scope (plans.attribute slot p) (trees.name n)
attribute_planned scope n slot p e = λ written t is w s slots k hand f.
    let found = subst (FoundAt n s slots) (ap (attribute_place n) hand.1 ∙ e) (attribute_found n s slots f) in
    found.2 ∙ ap (name_or w n) (sym found.1)

pub relvar_planned : (scope : Scope) (n : List ℕ) → attribute_place n scope.entered ≡ None → IsPlanOfTyped scope (plans.relvar n) (trees.name n)
relvar_planned scope n e = λ written t is w s slots k hand f.
    ap (name_or w n) (sym (subst (FoundAt n s slots) (ap (attribute_place n) hand.1 ∙ e) (attribute_found n s slots f)))
