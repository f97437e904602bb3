-- The tuples for which a condition is TRUE are as many as the TRUEs of its truth values.
use Rattle.std.proofs.Common.{◌≡◌, ◌∙◌, ℕ, Bool, true, false, List, [], ◌∷◌, ap, filter, length, map, refl, suc, sym}
use Rattle.std.proofs.lemmas.List.Sums.{length-filter}
use Rattle.std.specs.Prelude.{cond, count_by, nat_eq, pos}
use Rattle.td_algebra.specs.model.Operators.{restriction}
use Rattle.td_eval.proofs.code_lemmas.OpTuples.{truths_are}
use Rattle.td_eval.proofs.code_lemmas.OpValues.{relation_unpacked}
use Rattle.td_eval.specs.model.OperatorValues.{is_true, measure_value, of_truth, restricted_value, truth_value}
use Rattle.td_plan.specs.code.Counted.{number_measured}
use Rattle.td_tree.specs.declared.operator.Measure.{Measure}
use Rattle.td_tree.specs.declared.operator.Measure.TheVariants as measures
use Rattle.td_tree.specs.model.Outcomes.{Outcome, Valued, gathered, with_value}
use Rattle.td_value.specs.model.Values.{Relation, Tuple, Val, of_number, relation_value}

-- as many elements pass a test as its values are true
kept_count : {X : Type 0} (q : X → Bool) (xs : List X) → length (filter q xs) ≡ length (filter (λ b. b) (map q xs))
kept_count q [] = refl
kept_count {X} q (x ∷ xs) = by_test (q x) (kept_count q xs)
  where
    by_test : (b : Bool) → length (filter q xs) ≡ length (filter (λ b. b) (map q xs))
        → length (cond b (x ∷ filter q xs) (filter q xs)) ≡ length (cond b (b ∷ filter (λ b. b) (map q xs)) (filter (λ b. b) (map q xs)))
    by_test true rest = ap suc rest
    by_test false rest = rest

-- what is asked of a relation is asked of the number of its tuples
pub measured_number : (op : Measure) (r : Relation) → measure_value op (relation_value r) ≡ number_measured op (length r.body)
measured_number measures.Count r = relation_unpacked r (λ r. of_number (pos (length r.body)))
measured_number measures.IsEmpty r = relation_unpacked r (λ r. of_truth (nat_eq (length r.body) 0))

pub truths_counted : (op : Measure) (p : Tuple → Outcome Val) (r : Relation) (bs : List Bool) (n : ℕ) → n ≡ count_by (λ b. b) bs
    → gathered (map (λ t. truth_value (p t)) r.body) ≡ Valued bs → number_measured op n ≡ with_value (restricted_value p r) (measure_value op)
truths_counted op p r bs n is given =
    let q : Tuple → Bool = λ t. is_true (p t) in
    let many : n ≡ length (restriction q r).body =
    is ∙ sym (length-filter (λ b. b) bs) ∙ ap (λ bs. length (filter (λ b. b) bs)) (truths_are p r.body bs given) ∙ sym (kept_count q r.body) in
    rw (given) (ap (number_measured op) many ∙ sym (measured_number op (restriction q r)))
