-- The values of aggregates and of SUMMARIZE of operands in which each user value has a property: each user value in them has
-- it.
use Rattle.std.proofs.Common.{ℕ, pos, Bool, true, false, List, [], ◌∷◌, length, map}
use Rattle.std.specs.Prelude.{if◌then◌else◌}
use Rattle.std.specs.List.{AllByRecursion, list_all}
use Rattle.std.specs.Ordering.{is_lt}
use Rattle.td_algebra.specs.model.Operators.{common_names}
use Rattle.td_check.proofs.OperatorLaws.{gives_after, gives_all, gives_if, gives_with}
use Rattle.td_eval.proofs.code_lemmas.KeepsGathered.{all_from_members}
use Rattle.td_eval.proofs.law_lemmas.MetOperators.{GivesMet, HasOnly, PartsMeet, extended_value_meets, relations_give}
use Rattle.td_eval.proofs.law_lemmas.MetRelations.{RelationMeets, TupleMeets, restriction_meets}
use Rattle.td_eval.specs.model.AggregateValues.{Summand, aggregate_of, aggregated_value, group_values, group_with, summarized_value, summary_in, summary_value, takes}
use Rattle.td_eval.specs.model.OperatorValues.{extended_value}
use Rattle.td_group.specs.model.Aggregates.{aggregate, greater, greatest_value, least_value, less, sum_of}
use Rattle.td_group.specs.declared.aggregates.Agg.{Agg}
use Rattle.td_group.specs.declared.aggregates.Agg.TheVariants as asked
use Rattle.td_group.specs.model.Groups.{groups}
use Rattle.td_tree.specs.declared.cause.Cause.TheVariants as causes
use Rattle.td_tree.specs.model.Outcomes.{Outcome, gathered, value_if}
use Rattle.td_types.specs.model.Headings.{is_part}
use Rattle.td_types.specs.model.Types.{Attribute, Heading}
use Rattle.td_value.specs.model.Agreement.{agree_on}
use Rattle.td_value.specs.model.Values.{Val, integer, Parts, Relation, Tuple, value_cmp}

module _ (P : List ℕ → Parts → Type 0) where
  -- ---- aggregates

  greatest_meets : (v : Val) (vs : List Val) → HasOnly P v → AllByRecursion (HasOnly P) vs → HasOnly P (greatest_value v vs)
  greatest_meets v [] h k = h
  greatest_meets v (w ∷ ws) h k = greatest_meets (greater v w) ws (by_test (is_lt (value_cmp v w))) k.1
    where
      by_test : (b : Bool) → HasOnly P (if b then w else v)
      by_test true = k.0
      by_test false = h

  least_meets : (v : Val) (vs : List Val) → HasOnly P v → AllByRecursion (HasOnly P) vs → HasOnly P (least_value v vs)
  least_meets v [] h k = h
  least_meets v (w ∷ ws) h k = least_meets (less v w) ws (by_test (is_lt (value_cmp w v))) k.1
    where
      by_test : (b : Bool) → HasOnly P (if b then w else v)
      by_test true = k.0
      by_test false = h

  aggregate_meets : (a : Agg) (vs : List Val) → AllByRecursion (HasOnly P) vs → GivesMet P (aggregate a vs)
  aggregate_meets asked.Count vs k = gives_if (HasOnly P) _ (integer (pos (length vs))) causes.Overflow tt
  aggregate_meets asked.Sum vs k = gives_if (HasOnly P) _ (integer (sum_of vs)) causes.Overflow tt
  aggregate_meets asked.Max [] k = tt
  aggregate_meets asked.Max (v ∷ vs) k = greatest_meets v vs k.0 k.1
  aggregate_meets asked.Min [] k = tt
  aggregate_meets asked.Min (v ∷ vs) k = least_meets v vs k.0 k.1

  -- what has such a value in each such tuple
  abbrev pub MeetsInTuples : (Tuple → Outcome Val) → Type 0
  MeetsInTuples f = (t : Tuple) → TupleMeets P t → GivesMet P (f t)

  pub aggregated_meets : (a : Agg) (f : Tuple → Outcome Val) (r : Relation) → RelationMeets P r → MeetsInTuples f → GivesMet P (aggregated_value a f r)
  aggregated_meets a f r m h =
      gives_with (AllByRecursion (HasOnly P)) (HasOnly P) (gathered (map f r.body)) (aggregate_of a)
      (gives_all (TupleMeets P) (HasOnly P) f r.body (all_from_members (TupleMeets P) r.body m) h)
      (λ vs k. gives_with (AllByRecursion (HasOnly P)) (HasOnly P) (value_if (list_all (takes a) vs) vs causes.TypeMismatch) (aggregate a)
      (gives_if (AllByRecursion (HasOnly P)) (list_all (takes a) vs) vs causes.TypeMismatch k) (aggregate_meets a))

  -- ---- SUMMARIZE

  abbrev pub ItemsMeet : List Summand → Type 0
  ItemsMeet = AllByRecursion (λ (item : Summand). MeetsInTuples item.1)

  -- what the items give of the group of a tuple
  summaries_meet : (r p : Relation) (items : List Summand) → RelationMeets P r → ItemsMeet items → (t : Tuple)
      → PartsMeet P (map (summary_in r p) items) t
  summaries_meet r p [] m h t = tt
  summaries_meet r p (item ∷ items) m h t = (
    aggregated_meets item.0 item.1 (group_with r p t) (restriction_meets P (agree_on (common_names p r) t) r m) h.0,
    summaries_meet r p items m h.1 t,
  )

  pub summary_meets : (attributes : Heading → Outcome (List Attribute)) (items : List Summand) (v u : Val) → HasOnly P v → HasOnly P u → ItemsMeet items
      → GivesMet P (summary_value attributes items v u)
  summary_meets attributes items v u m n h =
      relations_give P v u (λ r p. summarized_value (attributes r.heading) items r p) m n
      (λ r p a b. gives_after (HasOnly P) (value_if (is_part p.heading r.heading) (groups r p) causes.Heading) _
      (λ gs. gives_after (HasOnly P) (gathered (map (group_values gs) items)) (λ values. extended_value (attributes r.heading) (map (summary_in r p) items) p)
      (λ values. extended_value_meets P (attributes r.heading) (map (summary_in r p) items) p b (λ t c. summaries_meet r p items a h t))))
