-- Aggregates give values of their static types, or are refused by dynamic causes alone.
use Rattle.std.proofs.Common.{◌≡◌, ◌∙◌, pos, Bool, true, false, List, [], ◌∷◌, length, ap, map, refl, subst, sym, true≢false}
use Rattle.std.specs.Prelude.{◌||◌, if◌then◌else◌}
use Rattle.std.specs.List.{AllByRecursion, Contains, list_all}
use Rattle.std.specs.Ordering.{is_lt}
use Rattle.td_algebra.proofs.Members.{both_true}
use Rattle.td_check.specs.model.OperatorTypes.{aggregate_type, over_relation, same_type}
use Rattle.td_eval.proofs.code_lemmas.KeepsGathered.{gathered_map_keeps, keeps_type, one_dynamic, type_keeps, with_value_keeps}
use Rattle.td_eval.proofs.code_lemmas.TypedRows.{parts_typed, rows_typed}
use Rattle.td_eval.proofs.code_lemmas.TypedValues.{in_range_keeps, integer_of, relation_keeps, text_of, type_is}
use Rattle.td_eval.specs.model.AggregateValues.{aggregate_of, aggregated_value, asked_of, is_number, is_number_or_text, takes}
use Rattle.td_eval.specs.model.OperatorValues.{on_relation}
use Rattle.td_eval.specs.laws.ValueTypes.{IsOfType, IsTypedTuple, KeepsType}
use Rattle.td_group.specs.model.Aggregates.{aggregate, greater, greatest_value, least_value, less, sum_of}
use Rattle.td_group.specs.declared.aggregates.Agg.{Agg}
use Rattle.td_group.specs.declared.aggregates.Agg.TheVariants as asked
use Rattle.td_tree.specs.declared.cause.Cause.TheVariants as causes
use Rattle.td_tree.specs.declared.operator.Aggregate.{Aggregate}
use Rattle.td_tree.specs.declared.operator.Aggregate.TheVariants as aggregates
use Rattle.td_tree.specs.model.Outcomes.{Outcome, Valued, Refused, gathered, value_if, with_value}
use Rattle.td_types.proofs.OutcomeLaws.{value_of_test}
use Rattle.td_types.specs.model.TypeLists.{DeclaredType}
use Rattle.td_types.specs.model.Types.{Heading, Type', unpack}
use Rattle.td_types.specs.model.Types as types
use Rattle.td_value.specs.model.KnownValues.{HasType}
use Rattle.td_value.specs.model.Values.{Val, of_number, relation, Relation, Rows, Tuple, heading_of, unpack_rows, value_cmp, relation_view}

-- ---- the type of an aggregate of values of a type

abbrev pub GivesOf : Agg → Type' → Type' → Type 0
GivesOf asked.Count t s = s ≡ types.integer
GivesOf asked.Sum t s = (t ≡ types.integer) × (s ≡ types.integer)
GivesOf asked.Max t s = (s ≡ t) × ((same_type t types.integer || same_type t types.char) ≡ true)
GivesOf asked.Min t s = (s ≡ t) × ((same_type t types.integer || same_type t types.char) ≡ true)

pub gives_of : (op : Aggregate) (t s : Type') → aggregate_type op t ≡ Valued s → GivesOf (asked_of op) t s
gives_of aggregates.Sum t s e =
    let x = value_of_test (same_type t types.integer) types.integer s causes.TypeMismatch e in (type_is t types.integer x.0, sym x.1)
gives_of aggregates.Max t s e =
    let x = value_of_test (same_type t types.integer || same_type t types.char) t s causes.TypeMismatch e in (sym x.1, x.0)
gives_of aggregates.Min t s e =
    let x = value_of_test (same_type t types.integer || same_type t types.char) t s causes.TypeMismatch e in (sym x.1, x.0)

module _ (ds : List DeclaredType) where
  -- ---- the values are such that it is of them

  number_taken : (v : Val) → HasType ds v types.integer → is_number v ≡ true
  number_taken v k = ap is_number (integer_of ds v k).1

  ordered_taken : (t : Type') (v : Val) → (same_type t types.integer || same_type t types.char) ≡ true → HasType ds v t → is_number_or_text v ≡ true
  ordered_taken t v test k = by_tests (same_type t types.integer) (same_type t types.char) refl refl test
    where
      by_tests : (a b : Bool) → same_type t types.integer ≡ a → same_type t types.char ≡ b → (a || b) ≡ true → is_number_or_text v ≡ true
      by_tests true b e f x = ap is_number_or_text (integer_of ds v (subst (HasType ds v) (type_is t types.integer e) k)).1
      by_tests false true e f x = ap is_number_or_text (text_of ds v (subst (HasType ds v) (type_is t types.char f) k)).1
      by_tests false false e f x = absurd (true≢false (sym x))

  one_taken : (a : Agg) (t s : Type') → GivesOf a t s → (v : Val) → IsOfType ds v t → takes a v ≡ true
  one_taken asked.Count t s g v k = refl
  one_taken asked.Sum t s g v k = number_taken v (subst (HasType ds v) g.0 k.1)
  one_taken asked.Max t s g v k = ordered_taken t v g.1 k.1
  one_taken asked.Min t s g v k = ordered_taken t v g.1 k.1

  all_taken : (a : Agg) (t s : Type') → GivesOf a t s → (vs : List Val) → AllByRecursion (λ v. IsOfType ds v t) vs → list_all (takes a) vs ≡ true
  all_taken a t s g [] k = refl
  all_taken a t s g (v ∷ vs) k = both_true (takes a v) (list_all (takes a) vs) (one_taken a t s g v k.0) (all_taken a t s g vs k.1)

  -- ---- it is of its type

  greatest_is : (t : Type') (v : Val) (vs : List Val) → IsOfType ds v t → AllByRecursion (λ w. IsOfType ds w t) vs → IsOfType ds (greatest_value v vs) t
  greatest_is t v [] h k = h
  greatest_is t v (w ∷ ws) h k = greatest_is t (greater v w) ws (by_test (is_lt (value_cmp v w))) k.1
    where
      by_test : (b : Bool) → IsOfType ds (if b then w else v) t
      by_test true = k.0
      by_test false = h

  least_is : (t : Type') (v : Val) (vs : List Val) → IsOfType ds v t → AllByRecursion (λ w. IsOfType ds w t) vs → IsOfType ds (least_value v vs) t
  least_is t v [] h k = h
  least_is t v (w ∷ ws) h k = least_is t (less v w) ws (by_test (is_lt (value_cmp w v))) k.1
    where
      by_test : (b : Bool) → IsOfType ds (if b then w else v) t
      by_test true = k.0
      by_test false = h

  own_keeps : (a : Agg) (t s : Type') → GivesOf a t s → (vs : List Val) → AllByRecursion (λ v. IsOfType ds v t) vs → KeepsType ds (Valued s) (aggregate a vs)
  own_keeps asked.Count t s g vs k = subst (λ u. KeepsType ds (Valued u) (of_number (pos (length vs)))) (sym g) (in_range_keeps ds (pos (length vs)))
  own_keeps asked.Sum t s g vs k = subst (λ u. KeepsType ds (Valued u) (of_number (sum_of vs))) (sym g.1) (in_range_keeps ds (sum_of vs))
  own_keeps asked.Max t s g [] k = one_dynamic causes.EmptyAggregate tt
  own_keeps asked.Max t s g (v ∷ vs) k = subst (IsOfType ds (greatest_value v vs)) (sym g.0) (greatest_is t v vs k.0 k.1)
  own_keeps asked.Min t s g [] k = one_dynamic causes.EmptyAggregate tt
  own_keeps asked.Min t s g (v ∷ vs) k = subst (IsOfType ds (least_value v vs)) (sym g.0) (least_is t v vs k.0 k.1)

  aggregate_keeps : (a : Agg) (t s : Type') → GivesOf a t s → (vs : List Val) → AllByRecursion (λ v. IsOfType ds v t) vs
      → KeepsType ds (Valued s) (aggregate_of a vs)
  aggregate_keeps a t s g vs k =
      subst (λ b. KeepsType ds (Valued s) (with_value (value_if b vs causes.TypeMismatch) (aggregate a))) (sym (all_taken a t s g vs k)) (own_keeps a t s g vs k)

  -- over the tuples of a relation
  pub aggregated_keeps : (a : Agg) (t s : Type') → GivesOf a t s → (f : Tuple → Outcome Val) (r : Relation)
      → ((u : Tuple) → Contains r.body u → KeepsType ds (Valued t) (f u)) → KeepsType ds (Valued s) (aggregated_value a f r)
  aggregated_keeps a t s g f r h =
      keeps_type ds s (aggregated_value a f r)
      (with_value_keeps (AllByRecursion (λ v. IsOfType ds v t)) (λ v. IsOfType ds v s) (gathered (map f r.body)) (aggregate_of a)
      (gathered_map_keeps (λ v. IsOfType ds v t) f r.body (λ u c. type_keeps ds t (f u) (h u c)))
      (λ vs k. type_keeps ds s (aggregate_of a vs) (aggregate_keeps a t s g vs k)))

  -- ---- SUM(r, e) and its kin

  by_type : (op : Aggregate) (f : Tuple → Outcome Val) (r : Relation) (t : Type') → ((u : Tuple) → Contains r.body u → KeepsType ds (Valued t) (f u))
      → (x : Outcome Type') → aggregate_type op t ≡ x → KeepsType ds x (aggregated_value (asked_of op) f r)
  by_type op f r t h (Valued s) e = aggregated_keeps (asked_of op) t s (gives_of op t s e) f r h
  by_type op f r t h (Refused cs) e = tt

  pub aggregation_keeps : (op : Aggregate) (kind : Heading → Outcome Type') (f : Tuple → Outcome Val) (t : Type') (v : Val) → IsOfType ds v t
      → ((u : Tuple) → IsTypedTuple ds u → KeepsType ds (kind (heading_of u)) (f u))
      → KeepsType ds (over_relation t (λ h. with_value (kind h) (aggregate_type op))) (on_relation v (aggregated_value (asked_of op) f))
  aggregation_keeps op kind f (types.relation h) v q k =
      relation_keeps ds (with_value (kind (unpack h)) (aggregate_type op)) v h (aggregated_value (asked_of op) f) q (λ rs w. of_parts rs w (kind (unpack h)) refl)
    where
      of_parts : (rs : Rows) → IsOfType ds (relation h rs) (types.relation h) → (o : Outcome Type') → kind (unpack h) ≡ o
          → KeepsType ds (with_value o (aggregate_type op)) (aggregated_value (asked_of op) f (relation_view (unpack h) (unpack_rows rs)))
      of_parts rs w (Refused cs) e = tt
      of_parts rs w (Valued t) e =
          let r = relation_view (unpack h) (unpack_rows rs) in
          by_type op f r t
          (λ u c. let at = rows_typed ds r (parts_typed ds h rs w) u c in subst (λ o. KeepsType ds o (f u)) (ap kind at.1 ∙ e) (k u at.0))
          (aggregate_type op t) refl
  aggregation_keeps op kind f _ v q k = tt
