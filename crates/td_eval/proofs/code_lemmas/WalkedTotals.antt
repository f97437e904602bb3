-- What is found of the items of SUMMARIZE, item by item and group by group.
use Rattle.std.proofs.Common.{◌≡◌, ◌∙◌, ℕ, suc, Err, List, [], ◌∷◌, None, Result, ap, length, map, refl, subst, sym, true}
use Rattle.std.proofs.lemmas.List.{length-map}
use Rattle.std.specs.Global.{Vec}
use Rattle.std.specs.List.{list_all, zip}
use Rattle.std.specs.Prelude.{◌&&◌}
use Rattle.td_algebra.specs.code.Columns.{NamedColumn}
use Rattle.td_algebra.specs.model.Operators.{common_names, restriction}
use Rattle.td_algebra.proofs.Members.{both_true, first_true, second_true}
use Rattle.td_check.specs.model.OperatorTypes.{aggregate_type}
use Rattle.td_check.specs.model.Scopes.{Scope}
use Rattle.td_check.specs.model.StaticTypes.{type_of}
use Rattle.td_eval.proofs.code_lemmas.SummaryParts.{first_valued, named_first}
use Rattle.td_eval.proofs.code_lemmas.WalkedLists.{as_many}
use Rattle.td_eval.specs.model.AggregateValues.{Summand, aggregate_of, group_values, summarized_value, summary_attributes, summary_in, takes}
use Rattle.td_eval.specs.code.NewColumns.{named_columns, with_values}
use Rattle.td_eval.specs.model.OperatorValues.{extended_value, value_of_type}
use Rattle.td_eval.specs.code.Totals.{Total, asked_by, attribute_found, term_in, total_columns, total_of, total_values, total_view}
use Rattle.td_eval.specs.model.TreeValues.{items_in_tuples}
use Rattle.td_eval.specs.model.Worlds.{World}
use Rattle.td_group.specs.model.Aggregates.{aggregate}
use Rattle.td_group.specs.model.Groups.{groups, groups_on}
use Rattle.td_group.specs.declared.aggregates.Agg.{Agg}
use Rattle.td_tree.specs.declared.expression.Summary.{Summary}
use Rattle.td_tree.specs.declared.expression.Summary.TheVariants as summaries
use Rattle.td_tree.specs.declared.fault.Fault.{Fault}
use Rattle.td_tree.specs.declared.fault.Fault.TheVariants as faults
use Rattle.td_tree.specs.declared.cause.Cause.TheVariants as causes
use Rattle.td_tree.specs.code.Gatherings.{lesser_cause}
use Rattle.td_tree.proofs.code_lemmas.Gatherings.{named_of_both}
use Rattle.td_eval.proofs.code_lemmas.WalkedExtension.{refused_still}
use Rattle.td_tree.specs.model.Outcomes.{Answers, Outcome, Valued, Refused, gathered, named_cause, value_if, with_both, with_value}
use Rattle.td_tree.specs.code.TreeViews.{summaries_view, tree_view}
use Rattle.td_types.proofs.OutcomeLaws.{valued_is, value_of_with, values_of_both}
use Rattle.td_types.specs.declared.ty.Ty.{Ty}
use Rattle.td_types.specs.model.Headings.{agree, has_attribute, is_part, is_type_or_none}
use Rattle.td_types.specs.model.Types.{Attribute, Heading, Type', type_at}
use Rattle.td_types.specs.model.Types as types
use Rattle.td_types.specs.code.Views.{pairs_view, type_view}
use Rattle.td_value.specs.model.Agreement.{agree_on}
use Rattle.td_value.specs.model.Values.{Relation, Tuple, Val}

-- ---- aggregates

-- of values that it is of
pub aggregate_given : (a : Agg) (vs : List Val) (x : Result Val Fault) → list_all (takes a) vs ≡ true → Answers (λ v. v) x (aggregate a vs)
    → Answers (λ v. v) x (aggregate_of a vs)
aggregate_given a vs x e h = rw e h

-- COUNT's terms have values
pub terms_given : (ts : List Tuple) (v : Val) → gathered (map (λ (t : Tuple). Valued v) ts) ≡ Valued (map (λ (t : Tuple). v) ts)
terms_given [] v = refl
terms_given (t ∷ ts) v = ap (λ o. with_both (Valued v) o (λ x xs. Valued (x ∷ xs))) (terms_given ts v)

-- a part of a heading agrees with it
pub part_agrees : (g h : Heading) → is_part g h ≡ true → agree g h ≡ true
part_agrees [] h e = refl
part_agrees (a ∷ g) h e =
    let there = has_attribute a.0 h in
    let typed = is_type_or_none a.1 (type_at a.0 h) in
    both_true typed (agree g h) (second_true there typed (first_true (there && typed) (is_part g h) e))
    (part_agrees g h (second_true (there && typed) (is_part g h) e))

-- ---- the new attributes

pub attributes_are : (scope : Scope) (xs : List Summary) → gathered (map (attribute_found scope) xs) ≡ summary_attributes scope (summaries_view xs)
attributes_are scope [] = refl
attributes_are scope (summaries.Count n ∷ xs) =
    first_valued (n, types.integer) (gathered (map (attribute_found scope) xs))
    ∙ ap (λ o. with_value o (λ attributes. Valued ((n, types.integer) ∷ attributes))) (attributes_are scope xs)
attributes_are scope (summaries.Of op value n ∷ xs) =
    let kind = with_value (type_of scope (tree_view value)) (aggregate_type op) in
    named_first n kind (gathered (map (attribute_found scope) xs))
    ∙ ap (λ o. with_both kind o (λ t attributes. Valued ((n, t) ∷ attributes))) (attributes_are scope xs)

-- there are as many as items
pub as_many_attributes : (scope : Scope) (xs : List Summary) (attributes : List Attribute) → summary_attributes scope (summaries_view xs) ≡ Valued attributes
    → length attributes ≡ length xs
as_many_attributes scope xs attributes e =
    as_many (map (attribute_found scope) xs) attributes (attributes_are scope xs ∙ e) ∙ length-map xs (attribute_found scope)

-- ---- what the items are of

module _ (w : World) (s : List Tuple) where
  pub as_many_items : (xs : List Summary) → length (items_in_tuples w s (summaries_view xs)) ≡ length xs
  as_many_items [] = refl
  as_many_items (summaries.Count n ∷ xs) = ap suc (as_many_items xs)
  as_many_items (summaries.Of op value n ∷ xs) = ap suc (as_many_items xs)

  abbrev pub group_found : Summary → Tuple × Relation → Outcome (List Val)
  group_found x g = gathered (map (term_in w s x) g.1.body)

  abbrev pub total_found : List (Tuple × Relation) → Summary → Outcome Total
  total_found gs x = with_value (gathered (map (group_found x) gs)) (λ vss. Valued (asked_by x, vss))

  pub totals_are : (gs : List (Tuple × Relation)) (xs : List Summary) → map (total_found gs) xs ≡ map (total_of gs) (items_in_tuples w s (summaries_view xs))
  totals_are gs [] = refl
  totals_are gs (summaries.Count n ∷ xs) = ap (λ os. total_found gs (summaries.Count n) ∷ os) (totals_are gs xs)
  totals_are gs (summaries.Of op value n ∷ xs) = ap (λ os. total_found gs (summaries.Of op value n) ∷ os) (totals_are gs xs)

pub as_many_totals : (gs : List (Tuple × Relation)) (items : List Summand) (totals : List Total) → gathered (map (total_of gs) items) ≡ Valued totals
    → length totals ≡ length items
as_many_totals gs items totals e = as_many (map (total_of gs) items) totals e ∙ length-map items (total_of gs)

-- ---- columns

-- of an attribute and the total that it is of
abbrev pub total_column : (List ℕ × Ty) × (Agg × Vec (Vec Val)) → Outcome NamedColumn
total_column z = with_values (z.0.0, type_view z.0.1) (total_values (type_view z.0.1) (total_view z.1))

pub total_columns_are : (xs : List (List ℕ × Ty)) (ts : List (Agg × Vec (Vec Val)))
    → map total_column (zip xs ts) ≡ total_columns (pairs_view xs) (map total_view ts)
total_columns_are [] ts = refl
total_columns_are (x ∷ xs) [] = refl
total_columns_are (x ∷ xs) (t ∷ ts) = ap (λ os. total_column (x, t) ∷ os) (total_columns_are xs ts)

-- the values of each group are those that are aggregated in it
values_are : (names : List (List ℕ)) (r : Relation) (a : Agg) (f : Tuple → Outcome Val) (t : Type') (ts : List Tuple) (vss : List (List Val))
    → gathered (map (λ (g : Tuple × Relation). gathered (map f g.1.body)) (groups_on names r ts)) ≡ Valued vss
    → map (λ vs. with_value (aggregate_of a vs) (value_of_type t)) vss
    ≡ map (λ u. with_value (with_value (gathered (map f (restriction (agree_on names u) r).body)) (aggregate_of a)) (value_of_type t)) ts
values_are names r a f t [] vss e = ap (map (λ vs. with_value (aggregate_of a vs) (value_of_type t))) (valued_is vss [] (sym e))
values_are names r a f t (u ∷ us) vss e =
    let group = gathered (map f (restriction (agree_on names u) r).body) in
    let is = values_of_both group (gathered (map (λ (g : Tuple × Relation). gathered (map f g.1.body)) (groups_on names r us))) (λ x xs. Valued (x ∷ xs)) vss e in
    ap (map (λ vs. with_value (aggregate_of a vs) (value_of_type t))) (valued_is vss (is.0 ∷ is.1) (sym is.4))
    ∙ (λ i. with_value (with_value (sym is.2 i) (aggregate_of a)) (value_of_type t) ∷ values_are names r a f t us is.1 is.3 i)

-- so the columns are those of what the items give
pub columns_same : (r p : Relation) (attributes : List Attribute) (items : List Summand) (totals : List Total)
    → gathered (map (total_of (groups r p)) items) ≡ Valued totals
    → total_columns attributes totals ≡ named_columns attributes (map (summary_in r p) items) p.body
columns_same r p [] items totals e = refl
columns_same r p (a ∷ attributes) [] totals e = ap (total_columns (a ∷ attributes)) (valued_is totals [] (sym e))
columns_same r p (a ∷ attributes) (item ∷ items) totals e =
    let is = values_of_both (total_of (groups r p) item) (gathered (map (total_of (groups r p)) items)) (λ x xs. Valued (x ∷ xs)) totals e in
    let here = value_of_with (group_values (groups r p) item) (λ vss. Valued (item.0, vss)) is.0 is.2 in
    let first : is.0 ≡ (item.0, here.0) = valued_is is.0 (item.0, here.0) (sym here.2) in
    let values = values_are (common_names p r) r item.0 item.1 a.1 p.body here.0 here.1 in
    ap (total_columns (a ∷ attributes)) (valued_is totals (is.0 ∷ is.1) (sym is.4))
    ∙ (λ i. with_values a (total_values a.1 (first i)) ∷ columns_same r p attributes items is.1 is.3 i)
    ∙ (λ i. with_values a (gathered (values i)) ∷ named_columns attributes (map (summary_in r p) items) p.body)

-- ---- the totals, and what follows of them

-- an item's total has the causes of its values
total_cause : (gs : List (Tuple × Relation)) (item : Summand) → named_cause (total_of gs item) ≡ named_cause (group_values gs item)
total_cause gs item = by_outcome (group_values gs item)
  where
    by_outcome : (o : Outcome (List (List Val))) → named_cause (with_value {B = Total} o (λ vss. Valued (item.0, vss))) ≡ named_cause o
    by_outcome (Valued vss) = refl
    by_outcome (Refused cs) = refl

totals_cause : (gs : List (Tuple × Relation)) (items : List Summand)
    → named_cause (gathered (map (total_of gs) items)) ≡ named_cause (gathered (map (group_values gs) items))
totals_cause gs [] = refl
totals_cause gs (item ∷ items) =
    named_of_both (total_of gs item) (gathered (map (total_of gs) items)) (λ t ts. t ∷ ts)
    ∙ (λ i. lesser_cause (total_cause gs item i) (totals_cause gs items i))
    ∙ sym (named_of_both (group_values gs item) (gathered (map (group_values gs) items)) (λ vss rest. vss ∷ rest))

module _ (attributes : Outcome (List Attribute)) (items : List Summand) (r p : Relation) (gs : List (Tuple × Relation))
    (parted : value_if (is_part p.heading r.heading) (groups r p) causes.Heading ≡ Valued gs) where
  abbrev after_values : Outcome (List (List (List Val))) → Outcome Val
  after_values o = with_value o (λ values. extended_value attributes (map (summary_in r p) items) p)

  after_groups : summarized_value attributes items r p ≡ after_values (gathered (map (group_values gs) items))
  after_groups = ap (λ o. with_value o (λ hs. after_values (gathered (map (group_values hs) items)))) parted

  -- totals that are refused
  pub totals_refused : {X : Type 0} (view : X → List Total) (f : Fault) → Answers view (Err f) (gathered (map (total_of gs) items))
      → Answers {X = Val} (λ v. v) (Err f) (summarized_value attributes items r p)
  totals_refused view faults.Memory a = tt
  totals_refused view (faults.Refused c) a =
      ap named_cause after_groups
      ∙ refused_still (gathered (map (group_values gs) items)) (λ values. extended_value attributes (map (summary_in r p) items) p) c (sym (totals_cause gs items) ∙ a)

  -- totals that are given
  pub totals_given : (totals : List Total) → gathered (map (total_of gs) items) ≡ Valued totals → (x : Result Val Fault)
      → Answers (λ v. v) x (extended_value attributes (map (summary_in r p) items) p) → Answers (λ v. v) x (summarized_value attributes items r p)
  totals_given totals e x a =
      subst (Answers (λ (v : Val). v) x) (sym after_groups) (by_outcome (gathered (map (group_values gs) items)) (sym (totals_cause gs items) ∙ ap named_cause e))
    where
      by_outcome : (o : Outcome (List (List (List Val)))) → named_cause o ≡ None → Answers (λ v. v) x (after_values o)
      by_outcome (Valued values) none = a
      by_outcome (Refused cs) none = absurd (cc)
