-- The attributes that are put into one, and the names that tell them.
use Rattle.std.proofs.Common.{◌≡◌, ◌∙◌, ℕ, Bool, true, false, Err, List, None, Option, Some, ap, refl, subst, sym}
use Rattle.std.specs.Prelude.{◌&&◌, filter, if◌then◌else◌, is_some, not}
use Rattle.td_check.specs.model.OperatorTypes.{named_part}
use Rattle.td_eval.proofs.code_lemmas.OpHeadings.{kept_projected}
use Rattle.td_eval.specs.model.OperatorValues.{nested_names}
use Rattle.td_group.specs.model.Nesting.{can_nest, rest_names}
use Rattle.td_tree.specs.declared.cause.Cause.TheVariants as causes
use Rattle.td_tree.specs.declared.fault.Fault.{Fault}
use Rattle.td_tree.specs.declared.fault.Fault.TheVariants as faults
use Rattle.td_tree.specs.model.Outcomes.{Answers, Valued, named_cause, value_if, with_value}
use Rattle.td_tree.specs.model.Trees.{Attributes, only, all_but}
use Rattle.td_types.specs.model.Headings.{has_attribute, has_name, has_projection, outside, projected_heading, projection}
use Rattle.td_types.specs.model.Types.{Heading, IsAscending, IsHeading, Type', attribute_names, pack, type_at}
use Rattle.td_types.proofs.HeadingLaws.{IsAscending-filter, IsAscending-projection, IsHeading-filter, ascending_from_heading, has_attribute-names, type_at-filter, type_at-projection, types_determine_heading}
use Rattle.td_types.proofs.OutcomeLaws.{valued_is, value_of_test, value_of_with}
use Rattle.td_value.specs.model.Values.{Relation}

-- the attributes of a heading that pass a test of their names are those of their names
pub kept_named : (f : List ℕ → Bool) (h : Heading) → IsAscending h
    → projection (attribute_names (filter (λ a. f a.0) h)) h ≡ filter (λ a. f a.0) h
kept_named f h up =
    let kept = filter (λ a. f a.0) h in
    types_determine_heading (projection (attribute_names kept) h) kept
    (IsAscending-projection (attribute_names kept) h up) (IsAscending-filter f h up)
    (λ n. type_at-projection (attribute_names kept) n h
    ∙ ap (λ b. if b then type_at n h else None) (sym (has_attribute-names n kept) ∙ ap is_some (type_at-filter f n h))
    ∙ by_cases (f n) (type_at n h) ∙ sym (type_at-filter f n h))
  where
    by_cases : (b : Bool) (o : Option Type') → (if is_some (if b then o else None) then o else None) ≡ (if b then o else None)
    by_cases true (Some t) = refl
    by_cases true None = refl
    by_cases false o = refl

-- so are those outside of a part
pub rest_named : (part h : Heading) → IsAscending h → projection (attribute_names (outside part h)) h ≡ outside part h
rest_named part h up = kept_named (λ n. not (has_attribute n part)) h up

-- a part of a heading that its names tell
abbrev pub IsNamed : Heading → Heading → Type 0
IsNamed h part = (projection (attribute_names part) h ≡ part) × (has_projection (attribute_names part) h ≡ true)

kept_is_named : (f : List ℕ → Bool) (h : Heading) → IsHeading (pack h) → IsNamed h (filter (λ a. f a.0) h)
kept_is_named f h is =
    (kept_named f h (ascending_from_heading h is), kept_projected f h (IsHeading-filter (λ a. f a.0) h is))

-- the attributes that are meant are such a part
pub part_is_named : (attributes : Attributes) (h part : Heading) → IsHeading (pack h) → named_part attributes h ≡ Valued part → IsNamed h part
part_is_named (only names) h part is e =
    let test = value_of_test (has_projection names h) (projection names h) part causes.Heading e in
    subst (IsNamed h) test.1 (kept_is_named (λ n. has_name n names) h is)
part_is_named (all_but names) h part is e =
    let named = value_of_with (projected_heading names h) (λ p. Valued (outside p h)) part e in
    subst (IsNamed h) (valued_is (outside named.0 h) part named.2) (kept_is_named (λ n. not (has_attribute n named.0)) h is)

-- they can be put into a new one where the rest has none of its name
pub nest_test : (h part : Heading) → IsNamed h part → (name : List ℕ) → can_nest (attribute_names part) name h ≡ not (has_attribute name (outside part h))
nest_test h part is name = λ i. is.1 i && not (has_attribute name (outside (is.0 i) h))

-- the rest is what the names of the rest tell
pub rest_told : (r : Relation) (part : Heading) → IsHeading (pack r.heading) → IsNamed r.heading part
    → projection (rest_names (attribute_names part) r) r.heading ≡ outside part r.heading
rest_told r part p is =
    rest_named (projection (attribute_names part) r.heading) r.heading (ascending_from_heading r.heading p) ∙ ap (λ g. outside g r.heading) is.0

-- ---- what is answered of their names

module _ (attributes : Attributes) (h part : Heading) (name : List ℕ) (e : named_part attributes h ≡ Valued part) where
  by_test : nested_names attributes name h ≡ value_if (can_nest (attribute_names part) name h) (attribute_names part) causes.Heading
  by_test = ap (λ o. with_value o (λ g. value_if (can_nest (attribute_names g) name h) (attribute_names g) causes.Heading)) e

  pub names_given : can_nest (attribute_names part) name h ≡ true → nested_names attributes name h ≡ Valued (attribute_names part)
  names_given new = by_test ∙ ap (λ b. value_if b (attribute_names part) causes.Heading) new

  pub names_refused : can_nest (attribute_names part) name h ≡ false → named_cause (nested_names attributes name h) ≡ Some causes.Heading
  names_refused old = ap named_cause (by_test ∙ ap (λ b. value_if b (attribute_names part) causes.Heading) old)

  -- what is answered where they can't be put into it
  pub names_misfit : {X Y : Type 0} (view : X → List (List ℕ)) (unit : Y → Unit {0}) (f : Fault) (b : Bool) → b ≡ can_nest (attribute_names part) name h
      → Answers unit (Err f) (value_if b tt causes.Heading) → Answers view (Err f) (nested_names attributes name h)
  names_misfit view unit faults.Memory b test a = tt
  names_misfit view unit (faults.Refused c) true test a = absurd (cc)
  names_misfit view unit (faults.Refused c) false test a = names_refused (sym test) ∙ a

-- where they have names, these can be put into a new one
pub names_nest : (attributes : Attributes) (name : List ℕ) (h : Heading) (names : List (List ℕ)) → nested_names attributes name h ≡ Valued names
    → can_nest names name h ≡ true
names_nest attributes name h names e =
    let part = value_of_with (named_part attributes h) (λ g. value_if (can_nest (attribute_names g) name h) (attribute_names g) causes.Heading) names e in
    let test = value_of_test (can_nest (attribute_names part.0) name h) (attribute_names part.0) names causes.Heading part.2 in
    subst (λ ns. can_nest ns name h ≡ true) test.1 test.0
