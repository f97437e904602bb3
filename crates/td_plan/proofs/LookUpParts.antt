-- The part of a look-up: the tuple of the values that a condition fixes the attributes of a key to.
use Rattle.std.proofs.Common.{◌≡◌, ◌∙◌, ℕ, Bool, true, false, List, [], ◌∷◌, Option, Some, None, ap, map, refl, subst, sym}
use Rattle.std.specs.List.{AllByRecursion, zip}
use Rattle.std.specs.Cmp.Lexicographic.{same_text}
use Rattle.std.specs.List.Sorted.{IsStrictlySortedBy}
use Rattle.std.specs.Prelude.{if◌then◌else◌, is_some}
use Rattle.std.proofs.lemmas.List.Sorted.{IsPermutation-refl}
use Rattle.td_algebra.proofs.Entries.{ascending_distinct, names-heading}
use Rattle.td_check.specs.model.Scopes.{Scope}
use Rattle.td_eval.specs.model.OperatorValues.{of_truth, tuple_from}
use Rattle.td_eval.specs.model.TreeValues.{value_of}
use Rattle.td_eval.specs.laws.UnfailingValues.{GivesValues}
use Rattle.td_eval.specs.laws.ValueTypes.{IsTypedTuple}
use Rattle.td_eval.specs.model.Worlds.{World}
use Rattle.td_plan.proofs.EqualLookUps.{there_value, values_told}
use Rattle.td_plan.specs.declared.rewriting.fixed.FixedValue.{FixedValue}
use Rattle.td_plan.specs.laws.Equalities.{HasValues, has_values}
use Rattle.td_plan.specs.code.Narrowing.{AreFixed, IsFixedAt}
use Rattle.td_plan.specs.code.Plans as plans
use Rattle.td_plan.specs.code.Plans.{PlanTrees, Slots, plan_value, plan_values}
use Rattle.td_plan.specs.code.PlansOf.{AreInHand, AreSlotsOf, outermost}
use Rattle.td_plan.specs.code.StepViews.{steps_view}
use Rattle.td_tree.specs.model.Names.{IsName}
use Rattle.td_tree.specs.model.Outcomes.{Valued, gathered, with_both, with_value}
use Rattle.td_tree.specs.model.Trees.{Tree}
use Rattle.td_types.proofs.HeadingLaws.{IsAscending-projection, ascending_from_heading, attribute_from_heading, has_attribute-names, name_cmp, type_at-projection, types_determine_heading}
use Rattle.td_types.specs.model.Headings.{has_name, projection}
use Rattle.td_types.specs.model.Types.{Heading, IsHeading, Type', attribute_names, pack, same_name, type_at}
use Rattle.td_value.proofs.KnownValues.{has_its_type}
use Rattle.td_value.proofs.Maps.{sorted_is_tuple_of}
use Rattle.td_value.proofs.Zips.{IsTuple-from}
use Rattle.td_value.specs.model.Values.{AreFields, IsTuple, IsValue, Tuple, Val, heading_of, pack_fields, tuple_names, tuple_value, type_of}

-- the names of fixed attributes, and the plans of their values
abbrev pub fixed_names : List FixedValue → List (List ℕ)
fixed_names part = map (λ (x : FixedValue). x.name) part

abbrev pub fixed_plans : List FixedValue → PlanTrees
fixed_plans part = steps_view (map (λ (x : FixedValue). x.value) part)

abbrev entry_values : Tuple → List Val
entry_values es = map (λ (e : List ℕ × Val). e.1) es

entries_are : (es : Tuple) → zip (tuple_names es) (entry_values es) ≡ es
entries_are [] = refl
entries_are (e ∷ es) = ap (λ fs. e ∷ fs) (entries_are es)

-- ---- entries of a heading's types

module _ (h : Heading) where
  -- an entry of a name and a value of the attribute's type
  abbrev IsEntry : List ℕ × Val → Type 0
  IsEntry e = IsName e.0 × IsValue e.1 × (type_at e.0 h ≡ Some (type_of e.1))

  entry_fields : (es : Tuple) → AllByRecursion IsEntry es → AreFields (pack_fields es)
  entry_fields [] all = tt
  entry_fields (e ∷ es) all = (all.0.0, all.0.1, entry_fields es all.1)

  -- the type of a name in the heading of the entries
  entry_types : (n : List ℕ) (es : Tuple) → AllByRecursion IsEntry es
      → type_at n (heading_of es) ≡ (if has_name n (tuple_names es) then type_at n h else None)
  entry_types n [] all = refl
  entry_types n (e ∷ es) all = by_name (entry_types n es all.1) (same_name e.0 n) refl
    where
      by_name : type_at n (heading_of es) ≡ (if has_name n (tuple_names es) then type_at n h else None) → (b : Bool) → same_name e.0 n ≡ b
          → type_at n (heading_of (e ∷ es)) ≡ (if has_name n (tuple_names (e ∷ es)) then type_at n h else None)
      by_name rest true is = rw is (sym all.0.2 ∙ ap (λ m. type_at m h) (same_text e.0 n (sym is)))
      by_name rest false is = rw is rest

  twice : (b : Bool) (o : Option Type') → (if is_some (if b then o else None) then o else None) ≡ (if b then o else None)
  twice true (Some t) = refl
  twice true None = refl
  twice false o = refl

  module _ (key : List (List ℕ)) (p : IsHeading (pack h)) (es : Tuple) (all : AllByRecursion IsEntry es)
      (names : tuple_names es ≡ attribute_names (projection key h)) where
    ascends : IsStrictlySortedBy name_cmp (tuple_names es)
    ascends = subst (IsStrictlySortedBy name_cmp) (sym names) (IsAscending-projection key h (ascending_from_heading h p))

    pub entries_tuple : IsTuple es
    entries_tuple = IsTuple-from es (entry_fields es all) ascends

    pub entries_heading : heading_of es ≡ projection key h
    entries_heading =
        types_determine_heading (heading_of es) (projection key h) (subst (IsStrictlySortedBy name_cmp) (sym (names-heading es)) ascends)
        (IsAscending-projection key h (ascending_from_heading h p))
        (λ n. entry_types n es all
        ∙ ap (λ ns. if has_name n ns then type_at n h else None) names
        ∙ ap (λ b. if b then type_at n h else None) (sym (has_attribute-names n (projection key h)) ∙ ap is_some (type_at-projection key n h))
        ∙ twice (has_name n key) (type_at n h)
        ∙ sym (type_at-projection key n h))

    entries_from : tuple_from es ≡ Valued (tuple_value es)
    entries_from =
        rw (ascending_distinct (tuple_names es) ascends)
        (ap (λ t. Valued (tuple_value t)) (sym (sorted_is_tuple_of es es (IsPermutation-refl es) ascends)))

-- ---- the values of fixed attributes

module _ (scope : Scope) (h : Heading) (c : Tree) (w : World) (s : List Tuple) (slots : Slots) (k : GivesValues w (outermost scope))
    (hand : AreInHand scope s) (f : AreSlotsOf s slots) where
  abbrev FixedEntry : List ℕ × Val → Type 0
  FixedEntry e = IsFixedAt w scope s h c e.0 e.1

  -- the plans of the part give the values of the entries, which are fixed to them
  pub record IsPartIn (part : List FixedValue) (es : Tuple) : Type 0 where
    pub names : tuple_names es ≡ fixed_names part
    pub values : gathered (plan_values w slots (fixed_plans part)) ≡ Valued (entry_values es)
    pub fixed : AllByRecursion FixedEntry es

  pub part_found : (part : List FixedValue) → AreFixed scope h c part → (es : Tuple) × IsPartIn part es
  part_found [] all = ([], record { names = refl; values = refl; fixed = tt })
  part_found (x ∷ part) all =
      let here = all.0 w s slots k hand f in
      let rest = part_found part all.1 in (
        (x.name, here.0) ∷ rest.0,
        record {
          names = ap (λ ns. x.name ∷ ns) rest.1.names;
          values = λ i. with_both (here.1 i) (rest.1.values i) (λ v vs. Valued (v ∷ vs));
          fixed = (here.2, rest.1.fixed);
        },
      )

  pub fixed_entries : IsHeading (pack h) → (es : Tuple) → AllByRecursion FixedEntry es → AllByRecursion (IsEntry h) es
  fixed_entries p [] all = tt
  fixed_entries p (e ∷ es) all =
      let t = all.0.typed in (
        ((attribute_from_heading e.0 t.0 h p t.1).0, t.2.0, t.1 ∙ ap Some (sym (has_its_type scope.types e.1 t.0 t.2.1))),
        fixed_entries p es all.1,
      )

  -- a tuple for which the condition is TRUE has the values
  pub fixed_values_hold : (u : Tuple) → IsTypedTuple scope.types u → heading_of u ≡ h → value_of w (u ∷ s) c ≡ of_truth true
      → (es : Tuple) → AllByRecursion FixedEntry es → HasValues es u
  fixed_values_hold u typed head is es all = (values_told es u).0 (told es all)
    where
      told : (es : Tuple) → AllByRecursion FixedEntry es → has_values es u ≡ true
      told [] all = refl
      told (e ∷ es) all = rw (there_value e.0 e.1 u (all.0.same u typed head is)) (told es all.1)

  -- the plan of the tuple gives it
  pub part_value : (key : List (List ℕ)) (part : List FixedValue) (es : Tuple) → IsHeading (pack h) → IsPartIn part es
      → fixed_names part ≡ attribute_names (projection key h)
      → plan_value w slots (plans.select (plans.tuple (fixed_names part)) (fixed_plans part)) ≡ Valued (tuple_value es)
  part_value key part es p found names =
      ap (λ o. with_value o (λ vs. tuple_from (zip (fixed_names part) vs))) found.values
      ∙ ap (λ ns. tuple_from (zip ns (entry_values es))) (sym found.names)
      ∙ ap tuple_from (entries_are es)
      ∙ entries_from h key p es (fixed_entries p es found.fixed) (found.names ∙ names)
