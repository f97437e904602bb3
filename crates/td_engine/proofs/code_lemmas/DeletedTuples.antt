-- What first assignments see, and what DELETE takes out.
use Rattle.std.proofs.Common.{◌≡◌, ◌∙◌, ◌∷◌, ℕ, Bool, true, false, List, [], Option, Some, None, ap, filter, refl, subst, sym}
use Rattle.std.specs.Cmp.Lexicographic.{same_text}
use Rattle.std.specs.List.{AllByRecursion}
use Rattle.std.specs.Prelude.{if◌then◌else◌, map, not}
use Rattle.td_algebra.specs.model.Operators.{difference, restriction}
use Rattle.td_algebra.proofs.Relations.{IsRelation-restriction}
use Rattle.td_body.proofs.Differences.{replaced}
use Rattle.td_body.specs.model.Bodies.{after_change}
use Rattle.td_catalog.specs.model.Database.{BaseRelvar, Database, base_named}
use Rattle.td_engine.proofs.code_lemmas.LeftTuples.{agreed, nothing_in, without_chosen}
use Rattle.td_engine.proofs.law_lemmas.Sources.{restricted_is, truths_negated}
use Rattle.td_engine.specs.model.Assignments.{assignment_value, chosen_for, source_world}
use Rattle.td_engine.specs.code.AssignedRelations.{restricted_relation}
use Rattle.td_eval.proofs.code_lemmas.WorldParts.{base_value}
use Rattle.td_eval.specs.model.DatabaseWorlds.{world_of}
use Rattle.td_eval.specs.model.OperatorValues.{is_true, prefix_value, truth_value}
use Rattle.td_eval.specs.model.TreeValues.{value_of}
use Rattle.td_tree.specs.model.Outcomes.{Outcome, Valued, Refused, gathered, with_value}
use Rattle.td_tree.specs.model.Trees.{Tree, delete, parentheses, prefix}
use Rattle.td_tree.specs.declared.operator.Prefix.TheVariants as prefixes
use Rattle.td_types.proofs.OutcomeLaws.{values_of_both}
use Rattle.td_types.specs.model.Types.{same_name}
use Rattle.td_value.specs.model.Values.{Val, boolean, integer, char, relation_value, user, tuple, relation, IsRelation, Relation, Tuple, relation_view}

-- where a target holds what it held, its name means what it means anyway
pub same_world : (db : Database) (n : List ℕ) (b : BaseRelvar) → base_named n db ≡ Some b → source_world db n b.relation ≡ world_of db
same_world db n b is = λ i. record { scope = (world_of db).scope; relvar = λ m. same m i; selector = (world_of db).selector }
  where
    same : (m : List ℕ) → (if same_name n m then Some (Valued (relation_value b.relation)) else (world_of db).relvar m) ≡ (world_of db).relvar m
    same m = by_test (same_name n m) refl
      where
        by_test : (t : Bool) → same_name n m ≡ t → (if t then Some (Valued (relation_value b.relation)) else (world_of db).relvar m) ≡ (world_of db).relvar m
        by_test true e = sym (base_value db n b is) ∙ ap (world_of db).relvar (same_text n m (sym e))
        by_test false e = refl

-- ---- DELETE

-- a relation without tuples
none_left : (ts : List Tuple) → filter (λ t. false) ts ≡ []
none_left [] = refl
none_left (t ∷ ts) = none_left ts

none_is : (r : Relation) → IsRelation r → IsRelation (relation_view r.heading [])
none_is r is = subst (λ ts. IsRelation (relation_view r.heading ts)) (none_left r.body) (IsRelation-restriction (λ t. false) r is)

-- where a truth value is, NOT is the other one
one_other : (o : Outcome Val) (b : Bool) → truth_value o ≡ Valued b → is_true (with_value o (prefix_value prefixes.Not)) ≡ not (is_true o)
one_other (Valued (boolean true)) b e = refl
one_other (Valued (boolean false)) b e = refl
one_other (Valued (integer z)) b e = absurd (cc)
one_other (Valued (char s)) b e = absurd (cc)
one_other (Valued (user n ps)) b e = absurd (cc)
one_other (Valued (tuple fs)) b e = absurd (cc)
one_other (Valued (relation h rs)) b e = absurd (cc)
one_other (Refused cs) b e = absurd (cc)

module _ (f : Tuple → Outcome Val) where
  abbrev other : Tuple → Outcome Val
  other t = with_value (f t) (prefix_value prefixes.Not)

  each_other : (ts : List Tuple) (m : List Bool) → gathered (map (λ t. truth_value (f t)) ts) ≡ Valued m
      → AllByRecursion (λ t. is_true (other t) ≡ not (is_true (f t))) ts
  each_other [] m e = tt
  each_other (t ∷ ts) m e =
      let is = values_of_both (truth_value (f t)) (gathered (map (λ t. truth_value (f t)) ts)) (λ b bs. Valued (b ∷ bs)) m e in
      (one_other (f t) is.0 is.2, each_other ts is.1 is.3)

  -- those for which it is TRUE, and those for which its NOT is
  abbrev chosen : Relation → Relation
  chosen r = restriction (λ t. is_true (f t)) r

  abbrev rest : Relation → Relation
  rest r = restriction (λ t. is_true (other t)) r

  abbrev taken : Relation → Relation → Outcome Relation
  taken r out = Valued (after_change out (relation_view out.heading []) r)

  -- those for which the condition is TRUE go out, where it has a truth value in each
  pub deleted_is : (r : Relation) → IsRelation r → restricted_relation other r ≡ with_value (restricted_relation f r) (taken r)
  deleted_is r is = by_truths (gathered (map (λ t. truth_value (f t)) r.body)) refl
    where
      negated : (o : Outcome (List Bool)) → gathered (map (λ t. truth_value (f t)) r.body) ≡ o
          → restricted_relation other r ≡ with_value (with_value o (λ m. Valued (map not m))) (λ truths. Valued (rest r))
      negated o e =
          ap (λ p. with_value p (λ truths. Valued (rest r))) (sym (truths_negated f r.body))
          ∙ ap (λ p. with_value (with_value p (λ m. Valued (map not m))) (λ truths. Valued (rest r))) e

      by_truths : (o : Outcome (List Bool)) → gathered (map (λ t. truth_value (f t)) r.body) ≡ o
          → restricted_relation other r ≡ with_value (restricted_relation f r) (taken r)
      by_truths (Refused cs) e =
          negated (Refused cs) e ∙ ap (λ p. with_value (with_value p (λ truths. Valued (chosen r))) (taken r)) (sym e)
      by_truths (Valued m) e =
          let left : rest r ≡ after_change (chosen r) (relation_view r.heading []) r =
          ap (relation_view r.heading) (agreed (λ t. is_true (other t)) (λ t. not (is_true (f t))) r.body (each_other r.body m e))
          ∙ sym (without_chosen (λ t. is_true (f t)) r is) ∙ sym (nothing_in r.heading (difference r (chosen r)) (IsRelation-restriction _ r is)) in
          negated (Valued m) e ∙ ap Valued left ∙ ap (λ p. with_value (with_value p (λ truths. Valued (chosen r))) (taken r)) (sym e)

-- DELETE takes out the tuples that are chosen
pub delete_is : (db : Database) (n : List ℕ) (cur : Relation) (condition : Option Tree) → IsRelation cur
    → assignment_value (source_world db n cur) cur (delete n condition)
    ≡ with_value (chosen_for cur (source_world db n cur) n condition) (λ out. Valued (after_change out (relation_view out.heading []) cur))
delete_is db n cur None is = ap Valued (sym (replaced cur (relation_view cur.heading []) (is, none_is cur is, refl)))
delete_is db n cur (Some p) is =
    restricted_is db n cur (prefix prefixes.Not (parentheses p))
    ∙ deleted_is (λ t. value_of (source_world db n cur) (t ∷ []) p) cur is
    ∙ ap (λ o. with_value o (λ out. Valued (after_change out (relation_view out.heading []) cur))) (sym (restricted_is db n cur (parentheses p)))
