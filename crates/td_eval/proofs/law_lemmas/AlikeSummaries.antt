-- What SUMMARIZE gives depends only on what its items are of in the tuples of the operand.
use Rattle.std.proofs.Common.{◌≡◌, ◌∙◌, Bool, true, false, List, [], ◌∷◌, ap, map, refl}
use Rattle.std.specs.Prelude.{⊤}
use Rattle.td_group.specs.model.Groups.{groups}
use Rattle.td_tree.specs.declared.cause.Cause.TheVariants as causes
use Rattle.td_tree.specs.model.Outcomes.{Outcome, gathered, value_if, with_value}
use Rattle.td_types.specs.model.Headings.{is_part}
use Rattle.td_types.specs.model.Types.{Attribute}
use Rattle.td_value.specs.model.Values.{Relation, Tuple}
use Rattle.td_eval.specs.model.AggregateValues.{Summand, aggregated_value, group_values, group_with, summarized_value, summary_in}
use Rattle.td_eval.specs.model.OperatorValues.{extended_value}
use Rattle.td_eval.proofs.law_lemmas.AlikeRows.{AlikeIn, aggregated_alike, map_alike}
use Rattle.td_eval.proofs.code_lemmas.SummaryParts.{in_group_with, in_groups}

module _ (r : Relation) where
  -- as many, each the same aggregate of the same in each tuple
  abbrev pub SummandsAlikeIn : List Summand → List Summand → Type 0
  SummandsAlikeIn [] [] = ⊤
  SummandsAlikeIn [] (y ∷ ys) = ⊥
  SummandsAlikeIn (x ∷ xs) [] = ⊥
  SummandsAlikeIn (x ∷ xs) (y ∷ ys) = (x.0 ≡ y.0) × AlikeIn r x.1 y.1 × SummandsAlikeIn xs ys

  module _ (p : Relation) where
    -- in each group
    values_alike : (xs ys : List Summand) → SummandsAlikeIn xs ys
        → map (group_values (groups r p)) xs ≡ map (group_values (groups r p)) ys
    values_alike [] [] same = refl
    values_alike [] (y ∷ ys) same = absurd same
    values_alike (x ∷ xs) [] same = absurd same
    values_alike (x ∷ xs) (y ∷ ys) same =
        let first = map_alike (λ (g : Tuple × Relation). gathered (map x.1 g.1.body))
        (λ (g : Tuple × Relation). gathered (map y.1 g.1.body)) (groups r p)
        (λ g c. ap gathered (map_alike x.1 y.1 g.1.body (λ u d. same.1 u (in_groups r p g u c d)))) in
        let rest = values_alike xs ys same.2 in
        λ i. gathered (first i) ∷ rest i

    -- and so is what is given of it
    one_alike : (x y : Summand) → x.0 ≡ y.0 → AlikeIn r x.1 y.1 → summary_in r p x ≡ summary_in r p y
    one_alike x y e same =
        (λ i w. aggregated_alike (group_with r p w) x.0 x.1 y.1 (λ u c. same u (in_group_with r p w u c)) i)
        ∙ (λ i w. aggregated_value (e i) y.1 (group_with r p w))

    summaries_alike : (xs ys : List Summand) → SummandsAlikeIn xs ys → map (summary_in r p) xs ≡ map (summary_in r p) ys
    summaries_alike [] [] same = refl
    summaries_alike [] (y ∷ ys) same = absurd same
    summaries_alike (x ∷ xs) [] same = absurd same
    summaries_alike (x ∷ xs) (y ∷ ys) same =
        let first = one_alike x y same.0 same.1 in
        let rest = summaries_alike xs ys same.2 in
        λ i. first i ∷ rest i

    pub summarized_alike : (attributes : Outcome (List Attribute)) (xs ys : List Summand) → SummandsAlikeIn xs ys
        → summarized_value attributes xs r p ≡ summarized_value attributes ys r p
    summarized_alike attributes xs ys same = by_test (is_part p.heading r.heading)
      where
        by_test : (b : Bool)
            → with_value (value_if b (groups r p) causes.Heading)
            (λ gs. with_value (gathered (map (group_values gs) xs)) (λ values. extended_value attributes (map (summary_in r p) xs) p))
            ≡ with_value (value_if b (groups r p) causes.Heading)
            (λ gs. with_value (gathered (map (group_values gs) ys)) (λ values. extended_value attributes (map (summary_in r p) ys) p))
        by_test true =
            let values = values_alike xs ys same in
            let given = summaries_alike xs ys same in
            λ i. with_value (gathered (values i)) (λ _. extended_value attributes (given i) p)
        by_test false = refl
