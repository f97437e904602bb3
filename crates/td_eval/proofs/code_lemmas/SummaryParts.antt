-- What SUMMARIZE is made of: its items with their types, the groups, and the part of a heading by which it groups.
use Rattle.std.proofs.Common.{◌≡◌, ◌∙◌, ℕ, Bool, true, false, List, [], ◌∷◌, Option, Some, None, ap, filter, map, refl, subst, sym, true≢false}
use Rattle.std.specs.Prelude.{◌&&◌, if◌then◌else◌, is_some, not}
use Rattle.std.specs.Cmp.Lexicographic.{same_text}
use Rattle.std.specs.List.{Contains}
use Rattle.std.specs.List.Sorted.{IsStrictlySortedBy}
use Rattle.td_algebra.specs.model.Operators.{common_names, restriction}
use Rattle.td_algebra.proofs.Lists.{contains_filter, contains_map}
use Rattle.td_algebra.proofs.Members.{both_true}
use Rattle.td_check.specs.model.OperatorTypes.{count_item, aggregate_item, aggregate_type, item_type, named_part, per_heading, summary_type}
use Rattle.td_check.specs.model.Scopes.{Scope}
use Rattle.td_check.specs.laws.StaticLaws.{HasMore}
use Rattle.td_check.specs.model.StaticTypes.{items_of, type_of}
use Rattle.td_check.proofs.StaticLaws.{more_changes_nothing}
use Rattle.td_check.proofs.SummaryLaws.{HeadingItems, Items, or_mismatch}
use Rattle.td_group.specs.model.Groups.{groups}
use Rattle.td_tree.specs.declared.cause.Cause.TheVariants as causes
use Rattle.td_tree.specs.model.Outcomes.{Outcome, Valued, Refused, gathered, with_both, with_value}
use Rattle.td_tree.specs.model.Trees.{Attributes, only, all_but, Summaries, no_summaries, counted, summed}
use Rattle.td_types.specs.model.Headings.{has_attribute, has_name, has_projection, is_part, is_type_or_none, outside, projected_heading, projection}
use Rattle.td_types.specs.code.TypeOrder.{type_eq-Decides}
use Rattle.td_types.specs.model.Types.{Attribute, Heading, IsAscending, IsHeading, Type', attribute_names, pack, same_name, type_at}
use Rattle.td_types.specs.model.Types as types
use Rattle.td_types.proofs.DistinctNames.{absent_below}
use Rattle.td_types.proofs.HeadingLaws.{IsAscending-filter, ascending_from_heading, has_attribute-names, same_name-itself, type_at-filter}
use Rattle.td_types.proofs.OutcomeLaws.{value_of_test, value_of_with, valued_is, values_of_both}
use Rattle.td_value.specs.model.Agreement.{agree_on}
use Rattle.td_value.specs.model.Values.{Relation, Tuple}
use Rattle.td_eval.specs.model.AggregateValues.{group_with, summary_attributes}

-- ---- the new attributes

pub first_valued : {A : Type 0} (a : A) (o : Outcome (List A))
    → with_both (Valued a) o (λ x xs. Valued (x ∷ xs)) ≡ with_value o (λ xs. Valued (a ∷ xs))
first_valued a (Valued xs) = refl
first_valued a (Refused cs) = refl

pub named_first : (n : List ℕ) (o : Outcome Type') (p : Outcome (List Attribute))
    → with_both (with_value o (λ t. Valued (n, t))) p (λ x xs. Valued (x ∷ xs)) ≡ with_both o p (λ t attributes. Valued ((n, t) ∷ attributes))
named_first n (Valued t) (Valued xs) = refl
named_first n (Valued t) (Refused ds) = refl
named_first n (Refused cs) (Valued xs) = refl
named_first n (Refused cs) (Refused ds) = refl

-- where the items have types, the new attributes are what the items' rule gives of these
pub attributes_of_items : (scope : Scope) (items : Summaries) (xs : Items) → items_of scope items ≡ Valued xs
    → summary_attributes scope items ≡ gathered (map item_type xs)
attributes_of_items scope no_summaries xs e = ap (λ ys. gathered (map item_type ys)) (valued_is [] xs e)
attributes_of_items scope (counted n rest) xs e =
    let is = value_of_with (items_of scope rest) (λ items. Valued ((n, count_item) ∷ items)) xs e in
    ap (λ o. with_value o (λ attributes. Valued ((n, types.integer) ∷ attributes))) (attributes_of_items scope rest is.0 is.1)
    ∙ sym (first_valued (n, types.integer) (gathered (map item_type is.0)))
    ∙ ap (λ ys. gathered (map item_type ys)) (valued_is ((n, count_item) ∷ is.0) xs is.2)
attributes_of_items scope (summed op value n rest) xs e =
    let is = values_of_both (type_of scope value) (items_of scope rest)
    (λ t items. Valued ((n, aggregate_item op t) ∷ items)) xs e in
    let others = attributes_of_items scope rest is.1 is.3 in
    (λ i. with_both (with_value (is.2 i) (aggregate_type op)) (others i) (λ t attributes. Valued ((n, t) ∷ attributes)))
    ∙ sym (named_first n (aggregate_type op is.0) (gathered (map item_type is.1)))
    ∙ ap (λ ys. gathered (map item_type ys)) (valued_is ((n, aggregate_item op is.0) ∷ is.1) xs is.4)

-- where more is known, the items have the same types
pub more_changes_no_items : (first second : Scope) (items : Summaries) (xs : Items) → HasMore first second
    → items_of first items ≡ Valued xs
    → items_of second items ≡ Valued xs
more_changes_no_items first second no_summaries xs h e = e
more_changes_no_items first second (counted n rest) xs h e =
    let is = value_of_with (items_of first rest) (λ items. Valued ((n, count_item) ∷ items)) xs e in
    ap (λ o. with_value o (λ items. Valued ((n, count_item) ∷ items))) (more_changes_no_items first second rest is.0 h is.1)
    ∙ is.2
more_changes_no_items first second (summed op value n rest) xs h e =
    let is = values_of_both (type_of first value) (items_of first rest)
    (λ t items. Valued ((n, aggregate_item op t) ∷ items)) xs e in
    let here = (more_changes_nothing first second value is.0 h is.2).0 in
    let others = more_changes_no_items first second rest is.1 h is.3 in
    (λ i. with_both (here i) (others i) (λ t items. Valued ((n, aggregate_item op t) ∷ items))) ∙ is.4

-- ---- the type

-- of PER and of BY, by the operand's heading with its items, where it is a relation
abbrev pub per_type : Option HeadingItems → Type' → Outcome Type'
per_type z t = or_mismatch (λ both. summary_type (per_heading both.0 t) both.1) z

abbrev pub by_type : Attributes → Option HeadingItems → Outcome Type'
by_type by = or_mismatch (λ both. summary_type (named_part by both.0) both.1)

-- ---- groups

-- the tuples of a group are tuples of the operand
pub in_group_with : (r p : Relation) (w u : Tuple) → Contains (group_with r p w).body u → Contains r.body u
in_group_with r p w u c = ((contains_filter (agree_on (common_names p r) w) r.body u).0 c).0

pub in_groups : (r p : Relation) (g : Tuple × Relation) (u : Tuple) → Contains (groups r p) g → Contains g.1.body u
    → Contains r.body u
in_groups r p g u c d =
    let e = (contains_map (λ w. (w, restriction (agree_on (common_names p r) w) r)) p.body g).0 c in
    in_group_with r p e.0 u (subst (λ (h : Tuple × Relation). Contains h.1.body u) (sym e.2) d)

-- ---- a part of a heading

-- a heading each of whose attributes another has, with its type, is a part of that
part_from_types : (g h : Heading) → IsAscending g → ((n : List ℕ) (t : Type') → type_at n g ≡ Some t → type_at n h ≡ Some t)
    → is_part g h ≡ true
unfolding IsStrictlySortedBy
part_from_types [] h i all = refl
part_from_types (x ∷ g) h i all =
    both_true (has_attribute x.0 h && is_type_or_none x.1 (type_at x.0 h)) (is_part g h)
    (first (all x.0 x.1 (rw (same_name-itself x.0) refl)))
    (part_from_types g h i.1 (λ n t e. all n t (later n t e (same_name x.0 n) refl)))
  where
    first : type_at x.0 h ≡ Some x.1 → (has_attribute x.0 h && is_type_or_none x.1 (type_at x.0 h)) ≡ true
    first e = rw e ((type_eq-Decides x.1 x.1).1 refl)

    later : (n : List ℕ) (t : Type') → type_at n g ≡ Some t → (b : Bool) → same_name x.0 n ≡ b → type_at n (x ∷ g) ≡ Some t
    later n t e true is =
        let here : has_attribute x.0 g ≡ true = ap (λ m. has_attribute m g) (same_text x.0 n (sym is)) ∙ ap is_some e in
        absurd (true≢false (sym here ∙ has_attribute-names x.0 g ∙ absent_below x.0 (attribute_names g) i.0))
    later n t e false is = rw is e

-- so are the attributes that pass a test of their names
kept_is_part : (f : List ℕ → Bool) (h : Heading) → IsHeading (pack h) → is_part (filter (λ a. f a.0) h) h ≡ true
kept_is_part f h is =
    part_from_types (filter (λ a. f a.0) h) h (IsAscending-filter f h (ascending_from_heading h is))
    (λ n t e. by_test (f n) (type_at n h) t (sym (type_at-filter f n h) ∙ e))
  where
    by_test : (b : Bool) (o : Option Type') (t : Type') → (if b then o else None) ≡ Some t → o ≡ Some t
    by_test true o t e = e
    by_test false o t e = absurd (cc)

-- and those that are meant
pub meant_is_part : (attributes : Attributes) (h g : Heading) → IsHeading (pack h) → named_part attributes h ≡ Valued g
    → is_part g h ≡ true
meant_is_part (only names) h g is e =
    let test = value_of_test (has_projection names h) (projection names h) g causes.Heading e in
    subst (λ k. is_part k h ≡ true) test.1 (kept_is_part (λ n. has_name n names) h is)
meant_is_part (all_but names) h g is e =
    let named = value_of_with (projected_heading names h) (λ p. Valued (outside p h)) g e in
    subst (λ k. is_part k h ≡ true) (valued_is (outside named.0 h) g named.2)
    (kept_is_part (λ n. not (has_attribute n named.0)) h is)
