-- Where the image of each tuple of a relation passed a test, whether each does after a change depends on the tuples that came in.
use Rattle.std.proofs.Common.{◌≡◌, ◌⊎◌, inl, inr, Bool, true, false, List, [], ◌∷◌, map, not, refl, subst, sym}
use Rattle.std.specs.List.{Contains, list_all}
use Rattle.td_algebra.proofs.Lists.{contains_cases, contains_filter, contains_first, contains_later, contains_map, contains_none}
use Rattle.td_algebra.proofs.Members.{both_true, first_true, second_true}
use Rattle.td_algebra.specs.model.Operators.{difference}
use Rattle.td_body.specs.model.Bodies.{after_change}
use Rattle.td_engine.specs.laws.Additions.{ImageTestsAreOfAdditions, images_pass}
use Rattle.td_value.proofs.Members.{joined_members}
use Rattle.td_value.specs.model.Sets.{has}
use Rattle.td_value.specs.model.Values.{Tuple, tuple_cmp}

-- two tests of which each implies the other are one
pub one_test : (a b : Bool) → (a ≡ true → b ≡ true) → (b ≡ true → a ≡ true) → a ≡ b
one_test true b f g = sym (f refl)
one_test false true f g = g refl
one_test false false f g = refl

module _ (test : Tuple → Bool) where
  -- a test holds of all of a list exactly where it holds of what the list contains
  pub tested : (ts : List Tuple) → list_all test ts ≡ true → (t : Tuple) → Contains ts t → test t ≡ true
  tested [] e t c = absurd (contains_none t c)
  tested (u ∷ us) e t c =
      by_case (first_true (test u) (list_all test us) e) (tested us (second_true (test u) (list_all test us) e) t) (contains_cases u us t c)
    where
      by_case : test u ≡ true → (Contains us t → test t ≡ true) → (u ≡ t) ⊎ Contains us t → test t ≡ true
      by_case first rest (inl is) = subst (λ s. test s ≡ true) is first
      by_case first rest (inr there) = rest there

  pub tests : (ts : List Tuple) → ((t : Tuple) → Contains ts t → test t ≡ true) → list_all test ts ≡ true
  tests [] h = refl
  tests (t ∷ ts) h = both_true (test t) (list_all test ts) (h t (contains_first t ts)) (tests ts (λ u c. h u (contains_later t ts u c)))

  -- the images of the tuples of a list pass the test
  abbrev HavePassed : (Tuple → Tuple) → List Tuple → Type 0
  HavePassed image ts = (t : Tuple) → Contains ts t → test (image t) ≡ true

  -- which is what is asked
  tested_images : (image : Tuple → Tuple) (ts : List Tuple) → list_all test (map image ts) ≡ true → HavePassed image ts
  tested_images image ts e t c = tested (map image ts) e (image t) ((contains_map image ts (image t)).1 (t, c, refl))

  images_tested : (image : Tuple → Tuple) (ts : List Tuple) → HavePassed image ts → list_all test (map image ts) ≡ true
  images_tested image ts h = tests (map image ts) (λ u c. let x = (contains_map image ts u).0 c in subst (λ v. test v ≡ true) x.2 (h x.0 x.1))

-- the images of what is left of the relation passed, so those of what came in decide
pub image_tests_are_of_additions : ImageTestsAreOfAdditions
image_tests_are_of_additions test image old out add held =
    one_test (images_pass test image (after_change out add old)) (images_pass test image add)
    (λ e. images_tested test image add.body (λ t c. tested_images test image changed e t ((joined_members left add.body t).1 (inr c))))
    (λ e. images_tested test image changed (λ t c. by_case e t ((joined_members left add.body t).0 c)))
  where
    left : List Tuple
    left = (difference old out).body

    changed : List Tuple
    changed = (after_change out add old).body

    by_case : images_pass test image add ≡ true → (t : Tuple) → Contains left t ⊎ Contains add.body t → test (image t) ≡ true
    by_case e t (inl c) = tested_images test image old.body held t ((contains_filter (λ u. not (has tuple_cmp u out.body)) old.body t).0 c).0
    by_case e t (inr c) = tested_images test image add.body e t c
