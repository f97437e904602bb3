-- The parts of GROUP: the rest of a heading, and the groups as a column.
use Rattle.std.proofs.Common.{◌≡◌, ◌∙◌, ap, sym, refl, subst, ℕ, Bool, true, false, List, [], ◌∷◌, None, length, map, true≢false}
use Rattle.std.specs.Prelude.{not, is_some}
use Rattle.std.specs.List.{All, AllByRecursion}
use Rattle.std.proofs.lemmas.List.{length-map}
use Rattle.std.proofs.lemmas.List.Elements.{All-from_recursion}
use Rattle.td_types.specs.model.Headings.{are_distinct, has_attribute, has_attributes, has_name, has_projection, outside, projection}
use Rattle.td_types.specs.model.Types.{Type', Heading, IsHeading, attribute_names, pack, type_at}
use Rattle.td_types.proofs.HeadingLaws.{IsHeading-filter, has_attribute-names, type_at-projection}
use Rattle.td_value.specs.model.Values.{Val, Tuple, type_of}
use Rattle.td_algebra.specs.code.Columns.{IsColumn}
use Rattle.td_algebra.proofs.Members.{both_true, first_true}
use Rattle.td_algebra.proofs.Entries.{heading_distinct}
use Rattle.td_algebra.proofs.Sources.{has_attribute-outside}
use Rattle.td_algebra.proofs.OnNames.{all_named}

-- ---- the rest of a heading

pub rest_projects : (part h : Heading) → IsHeading (pack h) → has_projection (attribute_names (outside part h)) h ≡ true
rest_projects part h p =
    both_true (has_attributes (attribute_names (outside part h)) h) (are_distinct (attribute_names (outside part h)))
    (all_named (λ n. has_attribute n h) (attribute_names (outside part h)) (λ n there.
    first_true (has_attribute n h) (not (has_attribute n part)) (sym (has_attribute-outside part h n) ∙ has_attribute-names n (outside part h) ∙ there)))
    (heading_distinct (outside part h) (IsHeading-filter (λ a. not (has_attribute a.0 part)) h p))

-- a name that the rest lacks is not in the projection on the rest
pub rest_lacks : (part h : Heading) (n : List ℕ) → not (has_attribute n (outside part h)) ≡ true → not (has_attribute n (projection (attribute_names (outside part h)) h)) ≡ true
rest_lacks part h n e = by_test (has_attribute n (outside part h)) refl
  where
    by_test : (b : Bool) → has_attribute n (outside part h) ≡ b → not (has_attribute n (projection (attribute_names (outside part h)) h)) ≡ true
    by_test true f = absurd (true≢false (sym (rw f at e)))
    by_test false f =
        let unnamed : has_name n (attribute_names (outside part h)) ≡ false = sym (has_attribute-names n (outside part h)) ∙ f in
        let none : type_at n (projection (attribute_names (outside part h)) h) ≡ None = type_at-projection (attribute_names (outside part h)) n h ∙ rw unnamed refl in
        ap (λ o. not (is_some o)) none

-- ---- the groups as a column

typed_each : (f : Tuple → Val) (kind : Type') (ts : List Tuple) → ((t : Tuple) → type_of (f t) ≡ kind) → AllByRecursion (λ v. type_of v ≡ kind) (map f ts)
typed_each f kind [] h = tt
typed_each f kind (t ∷ ts) h = (h t, typed_each f kind ts h)

pub column_fits : (f : Tuple → Val) (kind : Type') (vs : List Val) (ts : List Tuple) → vs ≡ map f ts → ((t : Tuple) → type_of (f t) ≡ kind) → IsColumn kind vs ts
column_fits f kind vs ts e h =
    (ap length e ∙ length-map ts f, subst (All (λ v. type_of v ≡ kind)) (sym e) (All-from_recursion (λ v. type_of v ≡ kind) (map f ts) (typed_each f kind ts h)))
