-- Types and values by the names that stand as expressions in an expression.
use Rattle.std.proofs.Common.{◌≡◌, ◌∙◌, ap, sym, refl, ℕ, Bool, true, false, List, [], ◌∷◌, ◌++◌, Option, None, Some, map, true≢false}
use Rattle.std.specs.Prelude.{option_map, if◌then◌else◌}
use Rattle.std.specs.List.{Contains}
use Rattle.std.proofs.lemmas.List.Elements.{Contains-append_left, Contains-append_right}
use Rattle.td_check.specs.model.OperatorTypes.{aggregate_item, aggregate_type, choice_type, comparison_type, component_type, count_item, extension_type, extracted_type, headed_type, listed_type, measure_type, misfit, mismatch, named_part, operator_type, over_relation, per_heading, postfix_type, prefix_type, selector_type, setting_type, summary_type, tuple_type, restriction_type, known_or}
use Rattle.td_check.specs.model.Scopes.{Scope, innermost, known_relvar}
use Rattle.td_check.specs.model.StaticTypes.{items_of, named_types, both_types, type_of, type_where_bound, types_of, with_items}
use Rattle.td_check.specs.laws.WrittenNames.{names_in, names_in_all, names_in_items, names_in_named}
use Rattle.td_group.specs.declared.aggregates.Agg.TheVariants as asked
use Rattle.td_tree.specs.declared.cause.Cause.TheVariants as causes
use Rattle.td_tree.specs.model.Outcomes.{Outcome, Valued, with_both, with_value}
use Rattle.td_tree.specs.model.Trees.{Tree, literal, name, parentheses, prefix, extract, restriction, binary, compare, postfix, select, component, measure, aggregate, relation, headed_relation, tuple, extend, extend_setting, summarize_per, summarize_by, choice, binding, Trees, none, more, NamedTrees, none_named, more_named, Summaries, no_summaries, counted, summed, project}
use Rattle.td_types.specs.model.Headings.{has_attribute, has_name}
use Rattle.td_types.specs.model.TypeLists.{heading_meant}
use Rattle.td_types.specs.model.Types.{Type', Heading, pack, type_at}
use Rattle.td_types.specs.model.Types as types
use Rattle.td_value.specs.model.Values.{Val, Tuple, heading_of, projected_tuple, value_at}
use Rattle.td_value.specs.model.Values as values
use Rattle.td_value.proofs.Agreement.{value_of_projection}
use Rattle.td_algebra.proofs.Entries.{no_value_outside, type_at-heading_of}
use Rattle.td_algebra.proofs.Lists.{contains_first}
use Rattle.td_algebra.proofs.Relations.{member_headed}
use Rattle.td_eval.specs.model.AggregateValues.{aggregated_value, asked_of, summary_attributes, summary_value}
use Rattle.td_eval.specs.model.OperatorValues.{comparison_value, component_value, extended_by_settings, extended_value, extracted_value, headed_value, listed_value, measure_value, of_truth, on_relation, on_truth, operator_value, postfix_value, prefix_value, restricted_value, tuple_from}
use Rattle.td_eval.specs.model.TreeValues.{argument_values, entry_values, items_in_tuples, value_of, value_where_bound, values_in_tuples}
use Rattle.td_eval.specs.model.Worlds.{World, innermost_value, known_outcome, selector_outcome}
use Rattle.td_plan.specs.laws.EqualitiesOfNames.{NamesAreWhatIsAsked, ValuesDependOnNames}

-- ---- names of parts

-- a fact of the names of a whole is one of each part's
first : {P : List ℕ → Type 0} (ms ns : List (List ℕ)) → ((n : List ℕ) → Contains (ms ++ ns) n → P n) → (n : List ℕ) → Contains ms n → P n
first ms ns h n c = h n (Contains-append_left ms ns n c)

second : {P : List ℕ → Type 0} (ms ns : List (List ℕ)) → ((n : List ℕ) → Contains (ms ++ ns) n → P n) → (n : List ℕ) → Contains ns n → P n
second ms ns h n c = h n (Contains-append_right ms ns n c)

-- ---- types

-- a scope with other headings entered
abbrev among : Scope → List Heading → Scope
among scope hs = record { types = scope.types; relvars = scope.relvars; constraints = scope.constraints; entered = hs }

-- the headings give each of the names one type
abbrev HaveOneType : List Heading → List Heading → List (List ℕ) → Type 0
HaveOneType g h names = (n : List ℕ) → Contains names n → innermost n g ≡ innermost n h

-- so they do behind another
entered_type : (k : Heading) (g h : List Heading) (names : List (List ℕ)) → HaveOneType g h names → HaveOneType (k ∷ g) (k ∷ h) names
entered_type k g h names same n c = ap (λ o. elim (type_at n k) as (λ _. Option Type') [ Some t ↦ Some t | None ↦ o ]) (same n c)

module _ (scope : Scope) where
  mutual
    types_same : (g h : List Heading) (e : Tree) → HaveOneType g h (names_in e) → type_of (among scope g) e ≡ type_of (among scope h) e
    types_same g h (literal l) same = refl
    types_same g h (name n) same =
        ap (λ o. elim o as (λ _. Outcome Type') [
          | Some t ↦ Valued t
          | None ↦ with_value (known_or causes.NameUnknown (known_relvar scope n)) (λ r. Valued (types.relation (pack r.heading)))
        ]) (same n (contains_first n []))
    types_same g h (parentheses inner) same = types_same g h inner same
    types_same g h (prefix op operand) same = λ i. with_value (types_same g h operand same i) (prefix_type op)
    types_same g h (extract a operand) same = λ i. with_value (types_same g h operand same i) (extracted_type a)
    types_same g h (restriction operand condition) same =
        λ i. with_value (types_same g h operand (first (names_in operand) (names_in condition) same) i)
        (λ s. over_relation s (λ k. with_value (types_same (k ∷ g) (k ∷ h) condition (entered_type k g h (names_in condition) (second (names_in operand) (names_in condition) same)) i) (restriction_type s)))
    types_same g h (binary left op right) same =
        λ i. with_both (types_same g h left (first (names_in left) (names_in right) same) i) (types_same g h right (second (names_in left) (names_in right) same) i) (operator_type op)
    types_same g h (compare left op right) same =
        λ i. with_both (types_same g h left (first (names_in left) (names_in right) same) i) (types_same g h right (second (names_in left) (names_in right) same) i) (comparison_type op)
    types_same g h (postfix operand op) same = λ i. with_value (types_same g h operand same i) (postfix_type op)
    types_same g h (select ty arguments) same = λ i. with_value (all_types_same g h arguments same i) (selector_type scope.types ty)
    types_same g h (component rest operand) same = λ i. with_value (types_same g h operand same i) (component_type scope.types rest)
    types_same g h (measure op operand) same = λ i. with_value (types_same g h operand same i) (measure_type op)
    types_same g h (aggregate op operand value) same =
        λ i. with_value (types_same g h operand (first (names_in operand) (names_in value) same) i)
        (λ s. over_relation s (λ k. with_value (types_same (k ∷ g) (k ∷ h) value (entered_type k g h (names_in value) (second (names_in operand) (names_in value) same)) i) (aggregate_type op)))
    types_same g h (relation elements) same = λ i. with_value (all_types_same g h elements same i) listed_type
    types_same g h (headed_relation heading elements) same =
        λ i. with_both (heading_meant scope.types heading) (all_types_same g h elements same i) headed_type
    types_same g h (tuple parts) same = λ i. with_value (named_types_same g h parts same i) tuple_type
    types_same g h (extend operand parts) same =
        λ i. with_value (types_same g h operand (first (names_in operand) (names_in_named parts) same) i)
        (λ s. over_relation s (λ k. with_value (named_types_same (k ∷ g) (k ∷ h) parts (entered_type k g h (names_in_named parts) (second (names_in operand) (names_in_named parts) same)) i) (extension_type k)))
    types_same g h (extend_setting operand settings) same =
        λ i. with_value (types_same g h operand (first (names_in operand) (names_in_named settings) same) i)
        (λ s. over_relation s (λ k. with_value (named_types_same (k ∷ g) (k ∷ h) settings (entered_type k g h (names_in_named settings) (second (names_in operand) (names_in_named settings) same)) i) (setting_type k)))
    types_same g h (summarize_per operand per summaries) same =
        let rest = second (names_in operand) (names_in per ++ names_in_items summaries) same in
        λ i. with_both
        (with_value (types_same g h operand (first (names_in operand) (names_in per ++ names_in_items summaries) same) i)
        (λ s. with_items s (λ k. items_same (k ∷ g) (k ∷ h) summaries (entered_type k g h (names_in_items summaries) (second (names_in per) (names_in_items summaries) rest)) i)))
        (types_same g h per (first (names_in per) (names_in_items summaries) rest) i)
        (λ operand_items t. elim operand_items as (λ _. Outcome Type') [
          | Some both ↦ summary_type (per_heading both.0 t) both.1
          | None ↦ mismatch
        ])
    types_same g h (summarize_by operand by summaries) same =
        λ i. with_value
        (with_value (types_same g h operand (first (names_in operand) (names_in_items summaries) same) i)
        (λ s. with_items s (λ k. items_same (k ∷ g) (k ∷ h) summaries (entered_type k g h (names_in_items summaries) (second (names_in operand) (names_in_items summaries) same)) i)))
        (λ operand_items. elim operand_items as (λ _. Outcome Type') [
          | Some both ↦ summary_type (named_part by both.0) both.1
          | None ↦ mismatch
        ])
    types_same g h (choice condition consequent alternative) same =
        let rest = second (names_in condition) (names_in consequent ++ names_in alternative) same in
        λ i. with_both (types_same g h condition (first (names_in condition) (names_in consequent ++ names_in alternative) same) i)
        (both_types (types_same g h consequent (first (names_in consequent) (names_in alternative) rest) i) (types_same g h alternative (second (names_in consequent) (names_in alternative) rest) i))
        (λ c both. choice_type c both.0 both.1)
    types_same g h (binding items result) same =
        bound_type_same [] g h items (names_in result) (λ inner. type_of inner result) (λ g h k. types_same g h result k)
        (first (names_in_named items) (names_in result) same) (second (names_in_named items) (names_in result) same)

    -- where that holds of what stands behind the items
    bound_type_same : (before : List (List ℕ)) (g h : List Heading) (es : NamedTrees) (names : List (List ℕ)) (inside : Scope → Outcome Type')
        → ((g h : List Heading) → HaveOneType g h names → inside (among scope g) ≡ inside (among scope h))
        → HaveOneType g h (names_in_named es) → HaveOneType g h names
        → type_where_bound before (among scope g) es inside ≡ type_where_bound before (among scope h) es inside
    bound_type_same before g h none_named names inside law alike same = law g h same
    bound_type_same before g h (more_named n e es) names inside law alike same =
        λ i. with_value (types_same g h e (first (names_in e) (names_in_named es) alike) i)
        (λ t. if has_name n before then misfit
        else bound_type_same (n ∷ before) (((n, t) ∷ []) ∷ g) (((n, t) ∷ []) ∷ h) es names inside law
        (entered_type ((n, t) ∷ []) g h (names_in_named es) (second (names_in e) (names_in_named es) alike))
        (entered_type ((n, t) ∷ []) g h names same) i)

    all_types_same : (g h : List Heading) (es : Trees) → HaveOneType g h (names_in_all es) → types_of (among scope g) es ≡ types_of (among scope h) es
    all_types_same g h none same = refl
    all_types_same g h (more e es) same =
        λ i. with_both (types_same g h e (first (names_in e) (names_in_all es) same) i) (all_types_same g h es (second (names_in e) (names_in_all es) same) i) (λ t ts. Valued (t ∷ ts))

    named_types_same : (g h : List Heading) (es : NamedTrees) → HaveOneType g h (names_in_named es) → named_types (among scope g) es ≡ named_types (among scope h) es
    named_types_same g h none_named same = refl
    named_types_same g h (more_named n e es) same =
        λ i. with_both (types_same g h e (first (names_in e) (names_in_named es) same) i) (named_types_same g h es (second (names_in e) (names_in_named es) same) i)
        (λ t attributes. Valued ((n, t) ∷ attributes))

    items_same : (g h : List Heading) (es : Summaries) → HaveOneType g h (names_in_items es) → items_of (among scope g) es ≡ items_of (among scope h) es
    items_same g h no_summaries same = refl
    items_same g h (counted n rest) same = λ i. with_value (items_same g h rest same i) (λ items. Valued ((n, count_item) ∷ items))
    items_same g h (summed op e n rest) same =
        λ i. with_both (types_same g h e (first (names_in e) (names_in_items rest) same) i) (items_same g h rest (second (names_in e) (names_in_items rest) same) i)
        (λ t items. Valued ((n, aggregate_item op t) ∷ items))

  -- the attributes that SUMMARIZE adds
  summaries_same : (g h : List Heading) (es : Summaries) → HaveOneType g h (names_in_items es) → summary_attributes (among scope g) es ≡ summary_attributes (among scope h) es
  summaries_same g h no_summaries same = refl
  summaries_same g h (counted n rest) same = λ i. with_value (summaries_same g h rest same i) (λ attributes. Valued ((n, types.integer) ∷ attributes))
  summaries_same g h (summed op e n rest) same =
      λ i. with_both (with_value (types_same g h e (first (names_in e) (names_in_items rest) same) i) (aggregate_type op))
      (summaries_same g h rest (second (names_in e) (names_in_items rest) same) i) (λ t attributes. Valued ((n, t) ∷ attributes))

-- ---- values

-- the tuples give each of the names one value, or none
abbrev HaveOneValue : List Tuple → List Tuple → List (List ℕ) → Type 0
HaveOneValue s u names = (n : List ℕ) → Contains names n → innermost_value n s ≡ innermost_value n u

entered_value : (t : Tuple) (s u : List Tuple) (names : List (List ℕ)) → HaveOneValue s u names → HaveOneValue (t ∷ s) (t ∷ u) names
entered_value t s u names same n c = ap (λ o. elim (value_at n t) as (λ _. Option Val) [ Some v ↦ Some v | None ↦ o ]) (same n c)

-- the type that the headings of tuples give a name is that of its value
innermost_type : (n : List ℕ) (s : List Tuple) → innermost n (map heading_of s) ≡ option_map values.type_of (innermost_value n s)
innermost_type n [] = refl
innermost_type n (t ∷ s) =
    (λ i. elim (type_at-heading_of n t i) as (λ _. Option Type') [ Some x ↦ Some x | None ↦ innermost_type n s i ])
    ∙ by_value (value_at n t)
  where
    by_value : (o : Option Val)
        → (elim (option_map values.type_of o) as (λ _. Option Type') [ Some x ↦ Some x | None ↦ option_map values.type_of (innermost_value n s) ])
        ≡ option_map values.type_of (elim o as (λ _. Option Val) [ Some v ↦ Some v | None ↦ innermost_value n s ])
    by_value None = refl
    by_value (Some v) = refl

one_type : (s u : List Tuple) (names : List (List ℕ)) → HaveOneValue s u names → HaveOneType (map heading_of s) (map heading_of u) names
one_type s u names same n c = innermost_type n s ∙ ap (option_map values.type_of) (same n c) ∙ sym (innermost_type n u)

module _ (w : World) where
  mutual
    values_same : (s u : List Tuple) (e : Tree) → HaveOneValue s u (names_in e) → value_of w s e ≡ value_of w u e
    values_same s u (literal l) same = refl
    values_same s u (name n) same =
        ap (λ o. elim o as (λ _. Outcome Val) [ Some v ↦ Valued v | None ↦ known_outcome (w.relvar n) ]) (same n (contains_first n []))
    values_same s u (parentheses inner) same = values_same s u inner same
    values_same s u (prefix op operand) same = λ i. with_value (values_same s u operand same i) (prefix_value op)
    values_same s u (extract a operand) same = λ i. with_value (values_same s u operand same i) (extracted_value a)
    values_same s u (restriction operand condition) same =
        λ i. with_value (values_same s u operand (first (names_in operand) (names_in condition) same) i)
        (λ v. on_relation v (restricted_value (λ t. values_same (t ∷ s) (t ∷ u) condition (entered_value t s u (names_in condition) (second (names_in operand) (names_in condition) same)) i)))
    values_same s u (binary left op right) same =
        λ i. with_both (values_same s u left (first (names_in left) (names_in right) same) i) (values_same s u right (second (names_in left) (names_in right) same) i) (operator_value op)
    values_same s u (compare left op right) same =
        λ i. with_both (values_same s u left (first (names_in left) (names_in right) same) i) (values_same s u right (second (names_in left) (names_in right) same) i) (comparison_value op)
    values_same s u (postfix operand op) same = λ i. with_value (values_same s u operand same i) (postfix_value op)
    values_same s u (select ty arguments) same = λ i. with_value (arguments_same s u arguments same i) (selector_outcome w ty)
    values_same s u (component rest operand) same = λ i. with_value (values_same s u operand same i) (component_value w.scope.types rest)
    values_same s u (measure op operand) same = λ i. with_value (values_same s u operand same i) (measure_value op)
    values_same s u (aggregate op operand value) same =
        λ i. with_value (values_same s u operand (first (names_in operand) (names_in value) same) i)
        (λ v. on_relation v (aggregated_value (asked_of op) (λ t. values_same (t ∷ s) (t ∷ u) value (entered_value t s u (names_in value) (second (names_in operand) (names_in value) same)) i)))
    values_same s u (relation elements) same = λ i. with_value (arguments_same s u elements same i) listed_value
    values_same s u (headed_relation heading elements) same =
        λ i. with_both (heading_meant w.scope.types heading) (arguments_same s u elements same i) headed_value
    values_same s u (tuple parts) same = λ i. with_value (entries_same s u parts same i) tuple_from
    values_same s u (extend operand parts) same =
        let inner = second (names_in operand) (names_in_named parts) same in
        λ i. with_value (values_same s u operand (first (names_in operand) (names_in_named parts) same) i) (λ v. on_relation v
        (λ r. extended_value
        (named_types_same w.scope (r.heading ∷ map heading_of s) (r.heading ∷ map heading_of u) parts (entered_type r.heading (map heading_of s) (map heading_of u) (names_in_named parts) (one_type s u (names_in_named parts) inner)) i)
        (columns_same s u parts inner i) r))
    values_same s u (extend_setting operand settings) same =
        let inner = second (names_in operand) (names_in_named settings) same in
        λ i. with_value (values_same s u operand (first (names_in operand) (names_in_named settings) same) i) (λ v. on_relation v
        (λ r. extended_by_settings
        (named_types_same w.scope (r.heading ∷ map heading_of s) (r.heading ∷ map heading_of u) settings (entered_type r.heading (map heading_of s) (map heading_of u) (names_in_named settings) (one_type s u (names_in_named settings) inner)) i)
        (columns_same s u settings inner i) r))
    values_same s u (summarize_per operand per items) same =
        let rest = second (names_in operand) (names_in per ++ names_in_items items) same in
        let inner = second (names_in per) (names_in_items items) rest in
        λ i. with_both (values_same s u operand (first (names_in operand) (names_in per ++ names_in_items items) same) i) (values_same s u per (first (names_in per) (names_in_items items) rest) i)
        (summary_value (λ h. summaries_same w.scope (h ∷ map heading_of s) (h ∷ map heading_of u) items (entered_type h (map heading_of s) (map heading_of u) (names_in_items items) (one_type s u (names_in_items items) inner)) i)
        (summands_same s u items inner i))
    values_same s u (summarize_by operand by items) same =
        let inner = second (names_in operand) (names_in_items items) same in
        λ i. with_value (values_same s u operand (first (names_in operand) (names_in_items items) same) i) (λ v. with_value (postfix_value (project by) v)
        (summary_value (λ h. summaries_same w.scope (h ∷ map heading_of s) (h ∷ map heading_of u) items (entered_type h (map heading_of s) (map heading_of u) (names_in_items items) (one_type s u (names_in_items items) inner)) i)
        (summands_same s u items inner i) v))
    values_same s u (choice condition consequent alternative) same =
        let rest = second (names_in condition) (names_in consequent ++ names_in alternative) same in
        λ i. with_value (values_same s u condition (first (names_in condition) (names_in consequent ++ names_in alternative) same) i)
        (λ v. on_truth v (λ b. if b then values_same s u consequent (first (names_in consequent) (names_in alternative) rest) i else values_same s u alternative (second (names_in consequent) (names_in alternative) rest) i))
    values_same s u (binding items result) same =
        bound_value_same s u items (names_in result) (λ inner. value_of w inner result) (λ s u k. values_same s u result k)
        (first (names_in_named items) (names_in result) same) (second (names_in_named items) (names_in result) same)

    -- where that holds of what stands behind the items
    bound_value_same : (s u : List Tuple) (es : NamedTrees) (names : List (List ℕ)) (inside : List Tuple → Outcome Val)
        → ((s u : List Tuple) → HaveOneValue s u names → inside s ≡ inside u)
        → HaveOneValue s u (names_in_named es) → HaveOneValue s u names
        → value_where_bound w s es inside ≡ value_where_bound w u es inside
    bound_value_same s u none_named names inside law items_same same = law s u same
    bound_value_same s u (more_named n e es) names inside law items_same same =
        λ i. with_value (values_same s u e (first (names_in e) (names_in_named es) items_same) i)
        (λ v. bound_value_same (((n, v) ∷ []) ∷ s) (((n, v) ∷ []) ∷ u) es names inside law
        (entered_value ((n, v) ∷ []) s u (names_in_named es) (second (names_in e) (names_in_named es) items_same))
        (entered_value ((n, v) ∷ []) s u names same) i)

    arguments_same : (s u : List Tuple) (es : Trees) → HaveOneValue s u (names_in_all es) → argument_values w s es ≡ argument_values w u es
    arguments_same s u none same = refl
    arguments_same s u (more e es) same =
        λ i. with_both (values_same s u e (first (names_in e) (names_in_all es) same) i) (arguments_same s u es (second (names_in e) (names_in_all es) same) i) (λ v vs. Valued (v ∷ vs))

    entries_same : (s u : List Tuple) (es : NamedTrees) → HaveOneValue s u (names_in_named es) → entry_values w s es ≡ entry_values w u es
    entries_same s u none_named same = refl
    entries_same s u (more_named n e es) same =
        λ i. with_both (values_same s u e (first (names_in e) (names_in_named es) same) i) (entries_same s u es (second (names_in e) (names_in_named es) same) i) (λ v entries. Valued ((n, v) ∷ entries))

    columns_same : (s u : List Tuple) (es : NamedTrees) → HaveOneValue s u (names_in_named es) → values_in_tuples w s es ≡ values_in_tuples w u es
    columns_same s u none_named same = refl
    columns_same s u (more_named n e es) same =
        λ i. (λ t. values_same (t ∷ s) (t ∷ u) e (entered_value t s u (names_in e) (first (names_in e) (names_in_named es) same)) i) ∷ columns_same s u es (second (names_in e) (names_in_named es) same) i

    summands_same : (s u : List Tuple) (es : Summaries) → HaveOneValue s u (names_in_items es) → items_in_tuples w s es ≡ items_in_tuples w u es
    summands_same s u no_summaries same = refl
    summands_same s u (counted n rest) same = λ i. (asked.Count, λ t. of_truth true) ∷ summands_same s u rest same i
    summands_same s u (summed op e n rest) same =
        λ i. (asked_of op, λ t. values_same (t ∷ s) (t ∷ u) e (entered_value t s u (names_in e) (first (names_in e) (names_in_items rest) same)) i) ∷ summands_same s u rest (second (names_in e) (names_in_items rest) same) i

pub values_depend_on_names : ValuesDependOnNames
values_depend_on_names w s u e same = values_same w s u e same

-- ---- the part of a tuple

pub names_are_asked : NamesAreWhatIsAsked
names_are_asked w s e names r valid only t c = values_same w (t ∷ s) (projected_tuple names t ∷ s) e same
  where
    kept : (n : List ℕ) → Contains (names_in e) n → (b : Bool) → has_name n names ≡ b → value_at n t ≡ (if b then value_at n t else None)
    kept n d true f = refl
    kept n d false f = no_value_outside r.heading t (member_headed r t valid c) n (lacks (has_attribute n r.heading) (only n d))
      where
        lacks : (b : Bool) → (b ≡ true → has_name n names ≡ true) → b ≡ false
        lacks true h = absurd (true≢false (sym (h refl) ∙ f))
        lacks false h = refl

    same : HaveOneValue (t ∷ s) (projected_tuple names t ∷ s) (names_in e)
    same n d =
        ap (λ o. elim o as (λ _. Option Val) [ Some v ↦ Some v | None ↦ innermost_value n s ])
        (kept n d (has_name n names) refl ∙ sym (value_of_projection names t n))
