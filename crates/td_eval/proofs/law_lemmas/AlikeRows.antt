-- What WHERE, aggregates and EXTEND give depends only on what is applied to the tuples of the relation.
use Rattle.std.proofs.Common.{◌≡◌, ◌++◌, ℕ, Bool, List, [], ◌∷◌, ap, filter, map, not, refl}
use Rattle.std.specs.Prelude.{if◌then◌else◌, ⊤}
use Rattle.std.specs.List.{Contains}
use Rattle.td_algebra.specs.model.Operators.{added_attributes, added_values, extended_relation, extended_tuple, set_relation, set_tuple}
use Rattle.td_algebra.proofs.Lists.{contains_first, contains_later}
use Rattle.td_check.specs.model.OperatorTypes.{extended_by, set_heading}
use Rattle.td_tree.specs.model.Outcomes.{Outcome, Valued, Refused, gathered, with_value}
use Rattle.td_types.specs.model.Headings.{has_attribute, heading_union, outside}
use Rattle.td_types.specs.model.Types.{Attribute}
use Rattle.td_value.specs.model.Values.{Val, Relation, Tuple, relation_of, tuple_of, relation_view}
use Rattle.td_eval.specs.model.AggregateValues.{aggregate_of, aggregated_value}
use Rattle.td_group.specs.declared.aggregates.Agg.{Agg}
use Rattle.td_eval.specs.model.OperatorValues.{additions_of, columns_values, extended_by_settings, extended_value, is_true, of_relation, restricted_value, truth_value, value_of_type, value_or_false}

-- ---- lists

pub map_alike : {X Y : Type 0} (f g : X → Y) (xs : List X) → ((x : X) → Contains xs x → f x ≡ g x) → map f xs ≡ map g xs
map_alike f g [] same = refl
map_alike f g (x ∷ xs) same =
    let first = same x (contains_first x xs) in
    let rest = map_alike f g xs (λ y c. same y (contains_later x xs y c)) in
    λ i. first i ∷ rest i

filter_alike : {X : Type 0} (p q : X → Bool) (xs : List X) → ((x : X) → Contains xs x → p x ≡ q x) → filter p xs ≡ filter q xs
filter_alike p q [] same = refl
filter_alike p q (x ∷ xs) same =
    let first = same x (contains_first x xs) in
    let rest = filter_alike p q xs (λ y c. same y (contains_later x xs y c)) in
    λ i. if first i then x ∷ rest i else rest i

module _ (r : Relation) where
  -- the same in each tuple
  abbrev pub AlikeIn : (Tuple → Outcome Val) → (Tuple → Outcome Val) → Type 0
  AlikeIn p q = (u : Tuple) → Contains r.body u → p u ≡ q u

  -- ---- WHERE

  pub restricted_alike : (p q : Tuple → Outcome Val) → AlikeIn p q → restricted_value p r ≡ restricted_value q r
  restricted_alike p q same =
      let truths = map_alike (λ t. truth_value (p t)) (λ t. truth_value (q t)) r.body (λ t c. ap truth_value (same t c)) in
      let kept = filter_alike (λ t. is_true (p t)) (λ t. is_true (q t)) r.body (λ t c. ap is_true (same t c)) in
      λ i. with_value (gathered (truths i)) (λ _. of_relation (relation_view r.heading (kept i)))

  -- ---- aggregates

  pub aggregated_alike : (a : Agg) (p q : Tuple → Outcome Val) → AlikeIn p q → aggregated_value a p r ≡ aggregated_value a q r
  aggregated_alike a p q same = ap (λ os. with_value (gathered os) (aggregate_of a)) (map_alike p q r.body same)

  -- ---- EXTEND

  -- as many, each the same in each tuple
  abbrev pub AreAlikeIn : List (Tuple → Outcome Val) → List (Tuple → Outcome Val) → Type 0
  AreAlikeIn [] [] = ⊤
  AreAlikeIn [] (g ∷ gs) = ⊥
  AreAlikeIn (f ∷ fs) [] = ⊥
  AreAlikeIn (f ∷ fs) (g ∷ gs) = AlikeIn f g × AreAlikeIn fs gs

  columns_alike : (attributes : List Attribute) (fs gs : List (Tuple → Outcome Val)) → AreAlikeIn fs gs
      → columns_values attributes fs r.body ≡ columns_values attributes gs r.body
  columns_alike [] fs gs same = refl
  columns_alike (a ∷ attributes) [] [] same = refl
  columns_alike (a ∷ attributes) [] (g ∷ gs) same = absurd same
  columns_alike (a ∷ attributes) (f ∷ fs) [] same = absurd same
  columns_alike (a ∷ attributes) (f ∷ fs) (g ∷ gs) same =
      let first = map_alike (λ u. with_value (f u) (value_of_type a.1)) (λ u. with_value (g u) (value_of_type a.1)) r.body
      (λ u c. ap (λ o. with_value o (value_of_type a.1)) (same.0 u c)) in
      let rest = columns_alike attributes fs gs same.1 in
      λ i. gathered (first i) ∷ rest i

  attributes_alike : (attributes : List Attribute) (fs gs : List (Tuple → Outcome Val)) → AreAlikeIn fs gs
      → added_attributes (additions_of attributes fs) ≡ added_attributes (additions_of attributes gs)
  attributes_alike [] fs gs same = refl
  attributes_alike (a ∷ attributes) [] [] same = refl
  attributes_alike (a ∷ attributes) [] (g ∷ gs) same = absurd same
  attributes_alike (a ∷ attributes) (f ∷ fs) [] same = absurd same
  attributes_alike (a ∷ attributes) (f ∷ fs) (g ∷ gs) same = ap (λ xs. (a.0, a.1) ∷ xs) (attributes_alike attributes fs gs same.1)

  values_alike : (attributes : List Attribute) (fs gs : List (Tuple → Outcome Val)) → AreAlikeIn fs gs → (u : Tuple) → Contains r.body u
      → added_values (additions_of attributes fs) u ≡ added_values (additions_of attributes gs) u
  values_alike [] fs gs same u c = refl
  values_alike (a ∷ attributes) [] [] same u c = refl
  values_alike (a ∷ attributes) [] (g ∷ gs) same u c = absurd same
  values_alike (a ∷ attributes) (f ∷ fs) [] same u c = absurd same
  values_alike (a ∷ attributes) (f ∷ fs) (g ∷ gs) same u c =
      let first = same.0 u c in
      let rest = values_alike attributes fs gs same.1 u c in
      λ i. (a.0, value_or_false (first i)) ∷ rest i

  relation_alike : (attributes : List Attribute) (fs gs : List (Tuple → Outcome Val)) → AreAlikeIn fs gs
      → extended_relation (additions_of attributes fs) r ≡ extended_relation (additions_of attributes gs) r
  relation_alike attributes fs gs same =
      let heading = attributes_alike attributes fs gs same in
      let rows = map_alike (extended_tuple (additions_of attributes fs)) (extended_tuple (additions_of attributes gs)) r.body
      (λ u c. ap (λ xs. tuple_of (u ++ xs)) (values_alike attributes fs gs same u c)) in
      λ i. relation_of (heading_union r.heading (heading i)) (rows i)

  pub extended_alike : (types : Outcome (List Attribute)) (fs gs : List (Tuple → Outcome Val)) → AreAlikeIn fs gs
      → extended_value types fs r ≡ extended_value types gs r
  extended_alike (Refused cs) fs gs same = refl
  extended_alike (Valued attributes) fs gs same =
      let columns = columns_alike attributes fs gs same in
      let result = relation_alike attributes fs gs same in
      λ i. with_value (extended_by r.heading attributes) (λ heading. with_value (gathered (columns i)) (λ _. of_relation (result i)))

  set_alike : (attributes : List Attribute) (fs gs : List (Tuple → Outcome Val)) → AreAlikeIn fs gs
      → set_relation (additions_of attributes fs) r ≡ set_relation (additions_of attributes gs) r
  set_alike attributes fs gs same =
      let heading = attributes_alike attributes fs gs same in
      let rows = map_alike (set_tuple (additions_of attributes fs)) (set_tuple (additions_of attributes gs)) r.body
      (λ u c. let values = values_alike attributes fs gs same u c in
      λ i. tuple_of (filter (λ (e : List ℕ × Val). not (has_attribute e.0 (heading i))) u ++ values i)) in
      λ i. relation_of (heading_union (outside (heading i) r.heading) (heading i)) (rows i)

  pub settings_alike : (types : Outcome (List Attribute)) (fs gs : List (Tuple → Outcome Val)) → AreAlikeIn fs gs
      → extended_by_settings types fs r ≡ extended_by_settings types gs r
  settings_alike (Refused cs) fs gs same = refl
  settings_alike (Valued attributes) fs gs same =
      let columns = columns_alike attributes fs gs same in
      let result = set_alike attributes fs gs same in
      λ i. with_value (set_heading r.heading attributes) (λ heading. with_value (with_value (gathered (columns i)) (λ _. Valued (result i))) of_relation)
