-- EXTEND with settings of attributes that are not there is EXTEND with ADD.
use Rattle.std.proofs.Common.{◌≡◌, ◌∙◌, ◌++◌, ℕ, Bool, true, false, List, [], ◌∷◌, Option, None, Some, ap, filter, fold, refl, sym, true≢false}
use Rattle.std.specs.Prelude.{◌&&◌, if◌then◌else◌, is_some, not}
use Rattle.std.specs.Cmp.Lexicographic.{same_text}
use Rattle.std.specs.List.{Contains, list_all}
use Rattle.td_algebra.specs.model.Operators.{Addition, added_attributes, added_values, extended_relation, extended_tuple, set_relation, set_tuple}
use Rattle.td_algebra.proofs.Entries.{no_value_outside}
use Rattle.td_algebra.proofs.Members.{both_true, first_true, second_true}
use Rattle.td_algebra.proofs.Relations.{member_headed}
use Rattle.td_eval.proofs.law_lemmas.AlikeRows.{map_alike}
use Rattle.td_eval.specs.model.OperatorValues.{additions_of, columns_values, of_relation, set_value}
use Rattle.td_eval.specs.laws.ValueLaws.{NewSettingsExtend}
use Rattle.td_tree.specs.declared.cause.Cause.TheVariants as causes
use Rattle.td_tree.specs.model.Outcomes.{Outcome, Valued, Refused, gathered, value_if, with_value}
use Rattle.td_types.specs.model.Headings.{are_distinct, has_attribute, have_no_common, heading_union, outside, with_attribute}
use Rattle.td_types.specs.model.Types.{Attribute, Heading, Type', attribute_names, same_name, type_at}
use Rattle.td_types.proofs.HeadingLaws.{IsAscending-filter, ascending_from_heading, type_at-outside, types_determine_heading}
use Rattle.td_value.specs.model.Values.{Val, IsRelation, Relation, Tuple, relation_of, tuple_of, value_at}
use Rattle.td_value.proofs.Agreement.{entries_of_values, names_ascend, value_at-filter}
use Rattle.td_value.proofs.Kept.{IsTuple-filter}

-- ---- names

-- a name of the heading is none of the new ones
no_new : (xs h : Heading) → have_no_common xs h ≡ true → (n : List ℕ) → has_attribute n h ≡ true → has_attribute n xs ≡ false
no_new [] h new n there = refl
no_new (x ∷ xs) h new n there = by_name (same_name x.0 n) refl (no_new xs h (second_true (not (has_attribute x.0 h)) (have_no_common xs h) new) n there)
  where
    gone : has_attribute x.0 h ≡ false
    gone = by_test (has_attribute x.0 h) (first_true (not (has_attribute x.0 h)) (have_no_common xs h) new)
      where
        by_test : (b : Bool) → not b ≡ true → b ≡ false
        by_test true e = sym e
        by_test false e = refl

    by_name : (same : Bool) → same_name x.0 n ≡ same → has_attribute n xs ≡ false → is_some (if same then Some x.1 else type_at n xs) ≡ false
    by_name true is rest = absurd (true≢false (sym there ∙ ap (λ m. has_attribute m h) (sym (same_text x.0 n (sym is))) ∙ gone))
    by_name false is rest = rest

-- and what is no name of the heading has nothing there
none_there : {A : Type 0} (xs h : Heading) → have_no_common xs h ≡ true → (n : List ℕ) (o : Option A) → (has_attribute n h ≡ false → o ≡ None)
    → (b : Bool) → has_attribute n xs ≡ b → (if b then None else o) ≡ o
none_there xs h new n o outside false e = refl
none_there xs h new n o outside true e = sym (outside (by_test (has_attribute n h) refl))
  where
    by_test : (there : Bool) → has_attribute n h ≡ there → there ≡ false
    by_test true is = absurd (true≢false (sym e ∙ no_new xs h new n is))
    by_test false is = refl

-- the new attributes of some of the attributes are new
some_new : (xs : List Attribute) (fs : List (Tuple → Outcome Val)) (h : Heading) → have_no_common xs h ≡ true
    → have_no_common (added_attributes (additions_of xs fs)) h ≡ true
some_new [] fs h e = refl
some_new (x ∷ xs) [] h e = refl
some_new (x ∷ xs) (f ∷ fs) h e =
    let first = not (has_attribute x.0 h) in
    both_true first (have_no_common (added_attributes (additions_of xs fs)) h) (first_true first (have_no_common xs h) e)
    (some_new xs fs h (second_true first (have_no_common xs h) e))

-- ---- relations

module _ (r : Relation) (is : IsRelation r) (bs : List Addition) (new : have_no_common (added_attributes bs) r.heading ≡ true) where
  abbrev A : Heading
  A = added_attributes bs

  not_typed : (n : List ℕ) → has_attribute n r.heading ≡ false → type_at n r.heading ≡ None
  not_typed n e = by_type (type_at n r.heading) e
    where
      by_type : (o : Option Type') → is_some o ≡ false → o ≡ None
      by_type None e = refl
      by_type (Some t) e = absurd (true≢false e)

  -- no attribute is left out
  all_left : outside A r.heading ≡ r.heading
  all_left =
      let up = ascending_from_heading r.heading is.2 in
      types_determine_heading (outside A r.heading) r.heading (IsAscending-filter (λ m. not (has_attribute m A)) r.heading up) up
      (λ n. type_at-outside n A r.heading ∙ none_there A r.heading new n (type_at n r.heading) (not_typed n) (has_attribute n A) refl)

  -- and no entry of a tuple
  all_kept : (t : Tuple) → Contains r.body t → filter (λ (e : List ℕ × Val). not (has_attribute e.0 A)) t ≡ t
  all_kept t c =
      let member = member_headed r t is c in
      entries_of_values (filter (λ (e : List ℕ × Val). not (has_attribute e.0 A)) t) t
      (names_ascend (filter (λ (e : List ℕ × Val). not (has_attribute e.0 A)) t) (IsTuple-filter (λ e. not (has_attribute e.0 A)) t member.0)) (names_ascend t member.0)
      (λ n. value_at-filter (λ m. not (has_attribute m A)) n t ∙ if_not (has_attribute n A) (value_at n t)
      ∙ none_there A r.heading new n (value_at n t) (no_value_outside r.heading t member n) (has_attribute n A) refl)
    where
      if_not : (b : Bool) (o : Option Val) → (if not b then o else None) ≡ (if b then None else o)
      if_not true o = refl
      if_not false o = refl

  set_is_extended : set_relation bs r ≡ extended_relation bs r
  set_is_extended =
      let rows = map_alike (set_tuple bs) (extended_tuple bs) r.body (λ t c. ap (λ es. tuple_of (es ++ added_values bs t)) (all_kept t c)) in
      λ i. relation_of (heading_union (all_left i) A) (rows i)

-- ---- the law

pub new_settings_extend : NewSettingsExtend
new_settings_extend (Refused cs) fs r is new = refl
new_settings_extend (Valued xs) fs r is new = by_test (are_distinct (attribute_names xs)) (list_all (λ a. not (has_attribute a.0 r.heading)) xs) (new xs refl)
  where
    bs : List Addition
    bs = additions_of xs fs

    by_columns : (o : Outcome (List (List Val)))
        → with_value (with_value o (λ columns. Valued (set_relation bs r))) of_relation ≡ with_value o (λ columns. of_relation (extended_relation bs r))
    by_columns (Valued ys) = ap of_relation (set_is_extended r is bs (some_new xs fs r.heading (new xs refl)))
    by_columns (Refused cs) = refl

    by_test : (distinct apart : Bool) → apart ≡ true
        → with_value (value_if distinct (heading_union (outside xs r.heading) xs) causes.Heading) (λ heading. with_value (set_value xs fs r) of_relation)
        ≡ with_value (value_if (distinct && apart) (fold with_attribute r.heading xs) causes.Heading)
        (λ heading. with_value (gathered (columns_values xs fs r.body)) (λ columns. of_relation (extended_relation bs r)))
    by_test true true e = by_columns (gathered (columns_values xs fs r.body))
    by_test true false e = absurd (true≢false (sym e))
    by_test false apart e = refl
