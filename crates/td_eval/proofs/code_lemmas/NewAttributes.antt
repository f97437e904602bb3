-- What is answered of new attributes.
use Rattle.std.proofs.Common.{◌≡◌, ◌∷◌, ℕ, Bool, true, false, List, [], Some, ap, map, refl}
use Rattle.std.specs.Prelude.{◌&&◌, not}
use Rattle.std.specs.List.{list_all}
use Rattle.td_check.specs.model.OperatorTypes.{extended_by}
use Rattle.td_tree.specs.declared.cause.Cause.TheVariants as causes
use Rattle.td_tree.specs.model.Outcomes.{Valued, named_cause, with_value}
use Rattle.td_types.specs.declared.ty.Ty.{Ty}
use Rattle.td_types.specs.model.Headings.{are_distinct, has_attribute}
use Rattle.td_types.specs.model.Types.{Attribute, Heading, attribute_names}
use Rattle.td_types.specs.code.Views.{pairs_view}

-- the names of attributes are those of their pairs
pub names_of_pairs : (xs : List (List ℕ × Ty)) → attribute_names (pairs_view xs) ≡ map (λ x. x.0) xs
names_of_pairs [] = refl
names_of_pairs (x ∷ xs) = ap (λ ns. x.0 ∷ ns) (names_of_pairs xs)

-- whether attributes are new
abbrev pub are_new : Heading → List Attribute → Bool
are_new heading attributes = are_distinct (attribute_names attributes) && list_all (λ a. not (has_attribute a.0 heading)) attributes

pub new_given : (heading : Heading) (attributes : List Attribute) → are_new heading attributes ≡ true
    → with_value {B = List Attribute} (extended_by heading attributes) (λ h. Valued attributes) ≡ Valued attributes
new_given heading attributes new = rw new refl

pub old_refused : (heading : Heading) (attributes : List Attribute) → are_new heading attributes ≡ false
    → named_cause (with_value {B = List Attribute} (extended_by heading attributes) (λ h. Valued attributes)) ≡ Some causes.Heading
old_refused heading attributes new = rw new refl

-- where one of the tests fails they are not
pub not_new : (heading : Heading) (attributes : List Attribute) → list_all (λ a. not (has_attribute a.0 heading)) attributes ≡ false
    → are_new heading attributes ≡ false
not_new heading attributes is = by_test (are_distinct (attribute_names attributes)) is
  where
    by_test : {y : Bool} (x : Bool) → y ≡ false → (x && y) ≡ false
    by_test true e = e
    by_test false e = refl
