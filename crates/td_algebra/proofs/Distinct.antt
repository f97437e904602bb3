-- The tuples that a layout makes of rows, of which those that come again may be left out.
use Rattle.std.proofs.Common.{◌≡◌, ◌∙◌, ◌⊎◌, inl, inr, ap, sym, subst, List, [], ◌∷◌, ◌++◌, get_or, length, map, take, ℕ, ◌+◌, ◌<◌}
use Rattle.std.specs.List.{All, Contains}
use Rattle.std.specs.List.Sorted.{IsPermutation}
use Rattle.std.proofs.lemmas.List.{map-append, take_more}
use Rattle.std.proofs.lemmas.List.Elements.{All-contains, Contains-append_left, Contains-push, Contains-push_cases}
use Rattle.td_types.specs.model.Headings.{outside, projection}
use Rattle.td_types.specs.model.Types.{Heading}
use Rattle.td_value.specs.model.Values.{HaveSameMembers, IsTupleOf, Tuple, projected_tuple}
use Rattle.td_value.specs.code.Views.{values_of}
use Rattle.td_algebra.specs.code.Layouts.{Sources, placed_tuple, sources_outside}
use Rattle.td_algebra.proofs.Relations.{All-from_members}
use Rattle.td_algebra.proofs.Taken.{map_alike, placed_projection}

-- one row more
pub placed_more : (f : Tuple → Tuple) (rows : List Tuple) (i : ℕ) (row t : Tuple) → i < length rows → row ≡ get_or rows i row → t ≡ f row
    → map f (take (i + 1) rows) ≡ map f (take i rows) ++ t ∷ []
placed_more f rows i row t l is e =
    ap (map f) (take_more rows i row l) ∙ map-append f (take i rows) (get_or rows i row ∷ []) ∙ ap (λ u. map f (take i rows) ++ u ∷ []) (ap f (sym is) ∙ sym e)

-- a tuple that is among others adds nothing to them
pub members_again : (ts : List Tuple) (t : Tuple) → Contains ts t → HaveSameMembers ts (ts ++ t ∷ [])
members_again ts t there q = (Contains-append_left ts (t ∷ []) q, λ c. by_case (Contains-push_cases ts t q c))
  where
    by_case : Contains ts q ⊎ (t ≡ q) → Contains ts q
    by_case (inl c) = c
    by_case (inr is) = subst (Contains ts) is there

-- one more, whichever way it is put among those kept
pub members_more : (kept longer made : List Tuple) (t : Tuple) → HaveSameMembers kept made → HaveSameMembers longer (kept ++ t ∷ []) → HaveSameMembers longer (made ++ t ∷ [])
members_more kept longer made t same more q = (
  λ c. by_case kept made (same q).0 (Contains-push_cases kept t q ((more q).0 c)),
  λ c. (more q).1 (by_case made kept (same q).1 (Contains-push_cases made t q c)),
)
  where
    by_case : (ss ts : List Tuple) → (Contains ss q → Contains ts q) → Contains ss q ⊎ (t ≡ q) → Contains (ts ++ t ∷ []) q
    by_case ss ts over (inl c) = Contains-append_left ts (t ∷ []) q (over c)
    by_case ss ts over (inr is) = subst (Contains (ts ++ t ∷ [])) is (Contains-push ts t)

-- ---- projections

-- those kept of a projection's rows are the projections of the tuples
pub projected_members : (names : List (List ℕ)) (h kept : Heading) (rows body made : List Tuple) (layout : Sources) → kept ≡ projection names h → rows ≡ body → All (IsTupleOf h) rows
    → IsPermutation (sources_outside (outside kept h) 0 h) layout → ((sources : Sources) → IsPermutation sources layout → HaveSameMembers made (map (λ t. placed_tuple sources (values_of t)) rows))
    → HaveSameMembers made (map (projected_tuple names) body)
projected_members names h kept rows body made layout is same all p members =
    subst (HaveSameMembers made)
    (subst (λ k. map (λ t. placed_tuple (sources_outside (outside k h) 0 h) (values_of t)) rows ≡ map (projected_tuple names) rows) (sym is)
    (map_alike (IsTupleOf h) _ _ rows all (placed_projection names h)) ∙ ap (map (projected_tuple names)) same)
    (members _ p)

-- what holds of each tuple of one list holds of each of another with the same members
pub All-same_members : (P : Tuple → Type 0) (made ts : List Tuple) → HaveSameMembers made ts → All P ts → All P made
All-same_members P made ts same all = All-from_members P made (λ t c. All-contains P ts t all ((same t).0 c))
