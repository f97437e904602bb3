-- What INSERT, DELETE and UPDATE are of, without the trees that they stand for.
use Rattle.std.proofs.Common.{◌≡◌, ◌∙◌, ◌∷◌, ℕ, Bool, true, false, List, [], Result, Ok, Err, ap, refl, sym, map, true≢false}
use Rattle.std.specs.Prelude.{IfOk, not}
use Rattle.td_algebra.specs.model.Operators.{difference, is_disjoint, is_subset, restriction, union}
use Rattle.td_catalog.specs.model.Database.{Database}
use Rattle.td_check.specs.model.OperatorTypes.{same_heading}
use Rattle.td_engine.specs.model.Assignments.{combined_with, of_heading, relation_for, source_world}
use Rattle.td_engine.specs.code.AssignedRelations.{restricted_relation}
use Rattle.td_eval.proofs.code_lemmas.OpValues.{relation_unpacked}
use Rattle.td_eval.specs.model.OperatorValues.{disjoint_union, included_difference, is_true, of_relation, on_relation, on_relations, operator_value, over_one_heading, prefix_value, relation_where, restricted_value, truth_value}
use Rattle.td_eval.specs.model.TreeValues.{value_of}
use Rattle.td_eval.specs.model.Worlds.{World, name_value}
use Rattle.td_tree.specs.declared.cause.Cause.TheVariants as causes
use Rattle.td_tree.specs.declared.operator.Operator.{Operator}
use Rattle.td_tree.specs.declared.operator.Operator.TheVariants as operators
use Rattle.td_tree.specs.declared.operator.Prefix.TheVariants as prefixes
use Rattle.td_tree.specs.declared.fault.Fault.{Fault}
use Rattle.td_tree.specs.model.Outcomes.{Answers, Outcome, Valued, Refused, gathered, value_if, with_both, with_value}
use Rattle.td_tree.specs.model.Trees.{Tree, name}
use Rattle.td_tree.specs.model.Trees as trees
use Rattle.td_types.proofs.HeadingLaws.{same_name-itself}
use Rattle.td_types.proofs.OutcomeLaws.{value_of_test, valued_is}
use Rattle.td_types.specs.code.TypeOrder.{heading_eq-Decides}
use Rattle.td_types.specs.model.Types.{Heading, unpack}
use Rattle.td_value.specs.model.Values.{Val, boolean, integer, char, relation_value, user, tuple, relation, Relation, Tuple, unpack_rows, relation_view}

-- ---- headings

pub itself : (h : Heading) → same_heading h h ≡ true
itself h = (heading_eq-Decides h h).1 refl

other_way : (g h : Heading) → same_heading g h ≡ same_heading h g
other_way g h = by_tests (same_heading g h) (same_heading h g) refl refl
  where
    by_tests : (b c : Bool) → same_heading g h ≡ b → same_heading h g ≡ c → same_heading g h ≡ same_heading h g
    by_tests true true e f = e ∙ sym f
    by_tests false false e f = e ∙ sym f
    by_tests true false e f = absurd (true≢false (sym ((heading_eq-Decides h g).1 (sym ((heading_eq-Decides g h).0 e))) ∙ f))
    by_tests false true e f = absurd (true≢false (sym ((heading_eq-Decides g h).1 (sym ((heading_eq-Decides h g).0 f))) ∙ e))

-- ---- truth values

truth_negated : (o : Outcome Val) → with_value (truth_value o) (λ b. Valued (not b)) ≡ truth_value (with_value o (prefix_value prefixes.Not))
truth_negated (Valued (boolean b)) = refl
truth_negated (Valued (integer z)) = refl
truth_negated (Valued (char s)) = refl
truth_negated (Valued (user n ps)) = refl
truth_negated (Valued (tuple fs)) = refl
truth_negated (Valued (relation h rs)) = refl
truth_negated (Refused cs) = refl

-- those of NOT are those of its operand the other way round
pub truths_negated : (p : Tuple → Outcome Val) (ts : List Tuple)
    → with_value (gathered (map (λ t. truth_value (p t)) ts)) (λ m. Valued (map not m))
    ≡ gathered (map (λ t. truth_value (with_value (p t) (prefix_value prefixes.Not))) ts)
truths_negated p [] = refl
truths_negated p (t ∷ ts) =
    first (truth_value (p t)) (gathered (map (λ t. truth_value (p t)) ts))
    ∙ (λ i. with_both (truth_negated (p t) i) (truths_negated p ts i) (λ b bs. Valued (b ∷ bs)))
  where
    first : (o : Outcome Bool) (os : Outcome (List Bool))
        → with_value (with_both o os (λ b bs. Valued (b ∷ bs))) (λ m. Valued (map not m))
        ≡ with_both (with_value o (λ b. Valued (not b))) (with_value os (λ m. Valued (map not m))) (λ b bs. Valued (b ∷ bs))
    first (Valued b) (Valued bs) = refl
    first (Valued b) (Refused ds) = refl
    first (Refused cs) (Valued bs) = refl
    first (Refused cs) (Refused ds) = refl

-- ---- restrictions

-- what is left of a relation has its heading
pub restricted_headed : (p : Tuple → Outcome Val) (r : Relation) (q : Result Relation Fault) → Answers (λ q. q) q (restricted_relation p r)
    → IfOk q (λ q. q.heading ≡ r.heading)
restricted_headed p r (Err f) h = tt
restricted_headed p r (Ok q) h = by_truths (gathered (map (λ t. truth_value (p t)) r.body)) h
  where
    by_truths : (o : Outcome (List Bool)) → with_value o (λ truths. Valued (restriction (λ t. is_true (p t)) r)) ≡ Valued q → q.heading ≡ r.heading
    by_truths (Valued bs) e = ap (λ (s : Relation). s.heading) (sym (valued_is (restriction (λ t. is_true (p t)) r) q e))
    by_truths (Refused cs) e = absurd (cc)

module _ (db : Database) (n : List ℕ) (cur : Relation) where
  abbrev w : World
  w = source_world db n cur

  -- the name of the target means its relation so far
  target_value : name_value w [] n ≡ Valued (relation_value cur)
  target_value = rw (same_name-itself n) refl

  -- INSERT gives the tuples of either
  pub inserted_is : (x : Tree) → relation_for cur w (combined_with n operators.Union x) ≡ with_value (relation_for cur w x) (λ r. Valued (union cur r))
  inserted_is x =
      ap (λ o. with_value (with_both o (value_of w [] x) (operator_value operators.Union)) (λ v. on_relation v (of_heading cur))) target_value
      ∙ by_source (value_of w [] x)
    where
      by_test : (s : Relation) (b c : Bool) → c ≡ b
          → with_value (value_if b (relation_value (union cur s)) causes.Heading) (λ v. on_relation v (of_heading cur))
          ≡ with_value (value_if c s causes.Heading) (λ r. Valued (union cur r))
      by_test s true true e = relation_unpacked (union cur s) (of_heading cur) ∙ rw (itself cur.heading) refl
      by_test s true false e = absurd (true≢false (sym e))
      by_test s false true e = absurd (true≢false e)
      by_test s false false e = refl

      by_source : (o : Outcome Val)
          → with_value (with_both (Valued (relation_value cur)) o (operator_value operators.Union)) (λ v. on_relation v (of_heading cur))
          ≡ with_value (with_value o (λ v. on_relation v (of_heading cur))) (λ r. Valued (union cur r))
      by_source (Refused cs) = refl
      by_source (Valued (boolean b)) = refl
      by_source (Valued (integer z)) = refl
      by_source (Valued (char s)) = refl
      by_source (Valued (user m ps)) = refl
      by_source (Valued (tuple fs)) = refl
      by_source (Valued (relation g rs)) =
          let s = relation_view (unpack g) (unpack_rows rs) in
          ap (λ o. with_value o (λ v. on_relation v (of_heading cur)))
          (relation_unpacked cur (λ r. relation_where (same_heading r.heading s.heading) (union r s)))
          ∙ by_test s (same_heading cur.heading s.heading) (same_heading s.heading cur.heading) (other_way s.heading cur.heading)

  -- what an operator that may refuse two relations of one heading gives of the target
  module _ (op : Operator) (f : Relation → Relation → Outcome Relation)
      (operates : (v u : Val) → operator_value op v u ≡ on_relations v u (over_one_heading f))
      (keeps : (s q : Relation) → f cur s ≡ Valued q → q.heading ≡ cur.heading) where
    of_target : (o : Outcome Relation) → ((q : Relation) → o ≡ Valued q → q.heading ≡ cur.heading)
        → with_value (with_value o of_relation) (λ v. on_relation v (of_heading cur)) ≡ o
    of_target (Refused cs) k = refl
    of_target (Valued q) k = relation_unpacked q (of_heading cur) ∙ ap (λ b. value_if b q causes.Heading) (ap (λ h. same_heading h cur.heading) (k q refl) ∙ itself cur.heading)

    by_heading : (s : Relation) (b c : Bool) → c ≡ b
        → with_value (with_value (value_if b s causes.Heading) (λ q. with_value (f cur q) of_relation)) (λ v. on_relation v (of_heading cur))
        ≡ with_value (value_if c s causes.Heading) (f cur)
    by_heading s true true e = of_target (f cur s) (keeps s)
    by_heading s true false e = absurd (true≢false (sym e))
    by_heading s false true e = absurd (true≢false e)
    by_heading s false false e = refl

    abbrev operated : Val → Outcome Relation
    operated u = with_value (on_relations (relation_value cur) u (over_one_heading f)) (λ v. on_relation v (of_heading cur))

    by_value : (o : Outcome Val)
        → with_value (with_both (Valued (relation_value cur)) o (operator_value op)) (λ v. on_relation v (of_heading cur))
        ≡ with_value (with_value o (λ v. on_relation v (of_heading cur))) (f cur)
    by_value (Refused cs) = refl
    by_value (Valued u) = ap (λ o. with_value o (λ v. on_relation v (of_heading cur))) (operates (relation_value cur) u) ∙ by_kind u
      where
        by_kind : (u : Val) → operated u ≡ with_value (on_relation u (of_heading cur)) (f cur)
        by_kind (boolean b) = refl
        by_kind (integer z) = refl
        by_kind (char s) = refl
        by_kind (user m ps) = refl
        by_kind (tuple fs) = refl
        by_kind (relation g rs) =
            let s = relation_view (unpack g) (unpack_rows rs) in
            ap (λ o. with_value o (λ v. on_relation v (of_heading cur))) (relation_unpacked cur (λ r. over_one_heading f r s))
            ∙ by_heading s (same_heading cur.heading s.heading) (same_heading s.heading cur.heading) (other_way s.heading cur.heading)

    combined_is : (x : Tree) → relation_for cur w (combined_with n op x) ≡ with_value (relation_for cur w x) (f cur)
    combined_is x =
        ap (λ o. with_value (with_both o (value_of w [] x) (operator_value op)) (λ v. on_relation v (of_heading cur))) target_value
        ∙ by_value (value_of w [] x)

  -- D_INSERT gives the tuples of either, where none is in both
  pub put_apart_is : (x : Tree) → relation_for cur w (combined_with n operators.DisjointUnion x) ≡ with_value (relation_for cur w x) (disjoint_union cur)
  put_apart_is = combined_is operators.DisjointUnion disjoint_union (λ v u. refl)
      (λ s q e. ap (λ (r : Relation). r.heading) (sym (value_of_test (is_disjoint cur s) (union cur s) q causes.NotDisjoint e).1))

  -- I_DELETE gives the other tuples, where those that go are there
  pub taken_out_is : (x : Tree) → relation_for cur w (combined_with n operators.IncludedMinus x) ≡ with_value (relation_for cur w x) (included_difference cur)
  taken_out_is = combined_is operators.IncludedMinus included_difference (λ v u. refl)
      (λ s q e. ap (λ (r : Relation). r.heading) (sym (value_of_test (is_subset s cur) (difference cur s) q causes.NotIncluded e).1))

  -- R WHERE p, of the target
  pub restricted_is : (p : Tree) → relation_for cur w (trees.restriction (name n) p) ≡ restricted_relation (λ t. value_of w (t ∷ []) p) cur
  restricted_is p =
      ap (λ o. with_value (with_value o (λ v. on_relation v (restricted_value f))) (λ v. on_relation v (of_heading cur))) target_value
      ∙ ap (λ o. with_value o (λ v. on_relation v (of_heading cur))) (relation_unpacked cur (restricted_value f))
      ∙ by_truths (gathered (map (λ t. truth_value (f t)) cur.body))
    where
      f : Tuple → Outcome Val
      f t = value_of w (t ∷ []) p

      kept : Relation
      kept = restriction (λ t. is_true (value_of w (t ∷ []) p)) cur

      by_truths : (o : Outcome (List Bool))
          → with_value (with_value o (λ truths. of_relation kept)) (λ v. on_relation v (of_heading cur)) ≡ with_value o (λ truths. Valued kept)
      by_truths (Refused cs) = refl
      by_truths (Valued bs) = relation_unpacked kept (of_heading cur) ∙ rw (itself cur.heading) refl
