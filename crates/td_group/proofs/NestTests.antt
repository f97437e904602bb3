-- Whether attributes can be put into one, and whether what is inside one can stand in its place.
use Rattle.std.proofs.Common.{◌≡◌, ◌∙◌, ℕ, Bool, true, false, List, [], ◌∷◌, None, Option, Some, ap, refl, sym}
use Rattle.std.specs.Prelude.{◌&&◌, ◌||◌, if◌then◌else◌, is_some, not}
use Rattle.td_group.specs.model.Nesting.{can_nest}
use Rattle.td_types.specs.model.Headings.{has_attribute, has_name, has_projection, have_no_common, outside, projection}
use Rattle.td_types.specs.model.Types.{Heading, Type', type_at}
use Rattle.td_types.proofs.HeadingLaws.{type_at-outside, type_at-projection}

-- the rest lacks a name that is one of those put away, and one that the heading lacks
pub rest_test : (names : List (List ℕ)) (n : List ℕ) (h : Heading)
    → (has_name n names || not (has_attribute n h)) ≡ not (has_attribute n (outside (projection names h) h))
rest_test names n h =
    by_cases (has_name n names) (type_at n h)
    ∙ ap (λ p. not (is_some (if is_some p then None else type_at n h))) (sym (type_at-projection names n h))
    ∙ ap (λ o. not (is_some o)) (sym (type_at-outside n (projection names h) h))
  where
    by_cases : (b : Bool) (o : Option Type') → (b || not (is_some o)) ≡ not (is_some (if is_some (if b then o else None) then None else o))
    by_cases true None = refl
    by_cases true (Some t) = refl
    by_cases false o = refl

-- no attribute is common with a heading that has none
pub apart_from_none : (g : Heading) → have_no_common g [] ≡ true
apart_from_none [] = refl
apart_from_none (a ∷ g) = apart_from_none g

pub nests : (names : List (List ℕ)) (n : List ℕ) (h : Heading) (b : Bool) → has_projection names h ≡ true → b ≡ (has_name n names || not (has_attribute n h))
    → b ≡ can_nest names n h
nests names n h b projected test =
    test ∙ rest_test names n h ∙ ap (λ p. p && not (has_attribute n (outside (projection names h) h))) (sym projected)
