-- The values of operators between relations and relvars, by partners.
use Rattle.std.proofs.Common.{◌≡◌, ◌∙◌, ap, sym, refl, subst, ℕ, Bool, List, Option, Some, None, Result, Ok, Err, true}
use Rattle.std.specs.Prelude.{IfOk, IfSome, IsTrue, length}
use Rattle.std.specs.List.{All, list_all}
use Rattle.td_algebra.proofs.Members.{first_true}
use Rattle.td_algebra.specs.model.Operators.{common_names, is_subset, projected_relation}
use Rattle.td_eval.proofs.code_lemmas.OpComparisons.{at_most_relations}
use Rattle.td_eval.proofs.code_lemmas.OpValues.{relation_unpacked}
use Rattle.td_eval.proofs.code_lemmas.TypedValues.{same_is}
use Rattle.td_eval.specs.model.OperatorValues.{comparison_value, measure_value, of_relation, of_truth, on_relation, on_relations, postfix_value, relation_where}
use Rattle.td_plan.proofs.CountedTruths.{measured_number}
use Rattle.td_plan.proofs.PartnerLaws.{asked_alike, member_by_partner, partners_on_part}
use Rattle.td_plan.specs.declared.running.partners.Asked.{Asked}
use Rattle.td_plan.specs.code.Partners.{IsPartOn, asked_value, has_partner}
use Rattle.td_plan.specs.code.Counted.{number_measured}
use Rattle.td_plan.specs.code.Plans.{Dyadic, dyadic_value}
use Rattle.td_tree.specs.declared.cause.Cause.TheVariants as causes
use Rattle.td_tree.specs.declared.operator.Comparison.TheVariants as comparisons
use Rattle.td_tree.specs.declared.operator.Measure.{Measure}
use Rattle.td_tree.specs.model.Outcomes.{Outcome, Valued, Refused, value_if, with_both, with_value}
use Rattle.td_tree.specs.model.Trees.{only, project}
use Rattle.td_types.proofs.Meanings.{pack_unpack}
use Rattle.td_types.proofs.OutcomeLaws.{value_of_test, valued_is}
use Rattle.td_types.specs.model.Headings.{agree, are_distinct, common_heading, common_part, has_attributes, has_projection, projected_heading, projection}
use Rattle.td_types.specs.model.Types.{Heading, attribute_names}
use Rattle.td_value.proofs.Packed.{pack_unpack_rows}
use Rattle.td_value.specs.model.Sets.{has}
use Rattle.td_value.specs.model.Values.{IsRelation, IsTupleOf, Relation, Val, boolean, char, integer, relation, relation_value, tuple, tuple_cmp, user}

-- ---- operands

-- a value that is a relation is the value of that relation
pub value_of_related : (v : Val) (r : Relation) → on_relation v Valued ≡ Valued r → v ≡ relation_value r
value_of_related (boolean b) r e = absurd (cc)
value_of_related (integer z) r e = absurd (cc)
value_of_related (char t) r e = absurd (cc)
value_of_related (user n ps) r e = absurd (cc)
value_of_related (tuple fs) r e = absurd (cc)
value_of_related (relation h rs) r e =
    sym (λ i. relation (pack_unpack h i) (pack_unpack_rows rs i)) ∙ ap relation_value (valued_is _ _ e)

-- where the first operand has a value
pub with_first : {A B C : Type 0} (o : Outcome A) (p : Outcome B) (f : A → B → Outcome C) (v : A) → o ≡ Valued v
    → with_both o p f ≡ with_value p (f v)
with_first o p f v e = ap (λ o. with_both o p f) e ∙ by_second p
  where
    by_second : (q : Outcome _) → with_both (Valued v) q f ≡ with_value q (f v)
    by_second (Valued u) = refl
    by_second (Refused cs) = refl

-- the number of tuples tells what is measured
pub measured : (op : Measure) (o : Outcome Val) (r : Relation) → o ≡ of_relation r → with_value o (measure_value op) ≡ number_measured op (length r.body)
measured op o r e = ap (λ o. with_value o (measure_value op)) e ∙ measured_number op r

-- what is found
pub found_then : {A E : Type 0} (P Q : A → Type 0) (x : Result (Option A) E) → ((a : A) → P a → Q a) → IfOk x (λ o. IfSome o P) → IfOk x (λ o. IfSome o Q)
found_then P Q (Ok (Some a)) f h = f a h
found_then P Q (Ok None) f h = tt
found_then P Q (Err e) f h = tt

-- ---- what operators give

-- inclusion asks whether all tuples are members
pub included_members : (r s : Relation) → r.heading ≡ s.heading
    → comparison_value comparisons.LessOrEqual (relation_value r) (relation_value s) ≡ of_truth (list_all (λ t. has tuple_cmp t s.body) r.body)
included_members r s e =
    ap (λ o. with_value o of_truth) (at_most_relations r s ∙ ap (λ fits. value_if fits (is_subset r s) causes.Heading) (same_is r.heading s.heading e))

-- the relation that an operator makes where the headings fit
pub made_where : (fits : Relation → Relation → Bool) (made : Relation → Relation → Relation) (r s : Relation) → fits r s ≡ true
    → on_relations (relation_value r) (relation_value s) (λ r s. relation_where (fits r s) (made r s)) ≡ of_relation (made r s)
made_where fits made r s e =
    relation_unpacked r (λ q. on_relation (relation_value s) (λ s. relation_where (fits q s) (made q s)))
    ∙ relation_unpacked s (λ s. relation_where (fits r s) (made r s))
    ∙ ap (λ b. relation_where b (made r s)) e

-- ---- beside relvars

-- what an operator asks of the members of another relation of the heading
abbrev pub AsksOfMembers : Dyadic → Asked → Type 0
AsksOfMembers op asked =
    (r s : Relation) → r.heading ≡ s.heading → dyadic_value op (relation_value r) (relation_value s) ≡ asked_value asked (λ t. has tuple_cmp t s.body) r

-- and of partners on the common attributes
abbrev pub AsksOfPartners : Dyadic → Asked → Type 0
AsksOfPartners op asked =
    (r s : Relation) → IsTrue (agree r.heading s.heading)
    → dyadic_value op (relation_value r) (relation_value s) ≡ asked_value asked (has_partner (common_names r s) s) r

module _ (op : Dyadic) (asked : Asked) (r b : Relation) (o : Outcome Val) (part : Heading) (v : Val) (known : o ≡ of_relation b)
    (found : asked_value asked (has_partner (attribute_names part) b) r ≡ Valued v) where
  -- the projection of the relvar on names
  pub beside_projection : (names : List (List ℕ)) → AsksOfMembers op asked → IsRelation b → All (IsTupleOf r.heading) r.body
      → projected_heading names b.heading ≡ Valued part → part ≡ r.heading
      → with_value (with_value o (postfix_value (project (only names)))) (dyadic_value op (relation_value r)) ≡ Valued v
  beside_projection names asks valid headed projected same =
      let test = value_of_test (has_projection names b.heading) (projection names b.heading) part causes.Heading projected in
      let on : IsPartOn names b.heading part = (first_true (has_attributes names b.heading) (are_distinct names) test.0, test.1) in
      let heading : r.heading ≡ projection names b.heading = sym (test.1 ∙ same) in
      let operand : with_value o (postfix_value (project (only names))) ≡ of_relation (projected_relation names b) =
      ap (λ o. with_value o (postfix_value (project (only names)))) known
      ∙ relation_unpacked b (λ q. relation_where (has_projection names q.heading) (projected_relation names q))
      ∙ ap (λ fits. relation_where fits (projected_relation names b)) test.0 in
      ap (λ o. with_value o (dyadic_value op (relation_value r))) operand
      ∙ asks r (projected_relation names b) heading
      ∙ asked_alike asked (IsTupleOf r.heading) (λ t. has tuple_cmp t (projected_relation names b).body) (has_partner (attribute_names part) b) r
      (λ t h. member_by_partner names b t valid (subst (λ g. IsTupleOf g t) heading h) ∙ sym (partners_on_part names b.heading part on b t)) headed
      ∙ found

  -- the relvar itself
  pub beside_relvar : AsksOfPartners op asked → common_heading r.heading b.heading ≡ Valued part
      → with_value o (dyadic_value op (relation_value r)) ≡ Valued v
  beside_relvar asks common =
      let test = value_of_test (agree r.heading b.heading) (common_part r.heading b.heading) part causes.Heading common in
      ap (λ o. with_value o (dyadic_value op (relation_value r))) known
      ∙ asks r b test.0
      ∙ ap (λ g. asked_value asked (has_partner (attribute_names g) b) r) test.1
      ∙ found
