-- What D_INSERT and I_DELETE change of a relation, where they are not refused.
use Rattle.std.proofs.Common.{◌≡◌, ◌∙◌, Bool, true, false, [], ap, refl, sym, true≢false}
use Rattle.td_algebra.proofs.Members.{divided, divides}
use Rattle.td_algebra.proofs.Relations.{IsRelation-restriction}
use Rattle.td_algebra.specs.model.Operators.{difference, is_disjoint, is_subset, union}
use Rattle.td_engine.proofs.code_lemmas.LeftTuples.{nothing_in, nothing_out}
use Rattle.td_engine.specs.code.Changes.{changed_by}
use Rattle.td_engine.specs.declared.change.Change.{Change}
use Rattle.td_eval.specs.model.OperatorValues.{disjoint_union, included_difference}
use Rattle.td_tree.specs.declared.cause.Cause.TheVariants as causes
use Rattle.td_tree.specs.model.Outcomes.{Outcome, Only, Refused, Valued, value_if, with_value}
use Rattle.td_value.specs.model.Values.{IsRelation, Relation, relation_view}

-- ---- none is in both

pub other_way : (r s : Relation) → is_disjoint r s ≡ is_disjoint s r
other_way r s = by_tests (is_disjoint r s) (is_disjoint s r) refl refl
  where
    turned : (r s : Relation) → is_disjoint r s ≡ true → is_disjoint s r ≡ true
    turned r s h = divides s.body r.body (λ t c d. divided r.body s.body h t d c)

    by_tests : (b c : Bool) → is_disjoint r s ≡ b → is_disjoint s r ≡ c → is_disjoint r s ≡ is_disjoint s r
    by_tests true c e f = e ∙ sym (turned r s e)
    by_tests false true e f = absurd (true≢false (sym (turned s r f) ∙ e))
    by_tests false false e f = e ∙ sym f

-- ---- tuples that come in, where none is there

module _ (r add : Relation) (o : Outcome Relation) (told : o ≡ Valued add) where
  pub put_apart : (d : Change) → is_disjoint r add ≡ true → d.out ≡ relation_view add.heading [] → d.add ≡ add
      → with_value o (disjoint_union r) ≡ Valued (changed_by d r)
  put_apart d apart out is =
      ap (λ p. with_value p (disjoint_union r)) told ∙ ap (λ b. value_if b (union r add) causes.NotDisjoint) apart
      ∙ ap Valued (sym (ap (λ q. union (difference r q) d.add) out ∙ ap (union (difference r (relation_view add.heading []))) is ∙ ap (λ q. union q add) (nothing_out add.heading r)))

  pub not_apart : is_disjoint r add ≡ false → with_value o (disjoint_union r) ≡ Refused (Only causes.NotDisjoint)
  not_apart overlap = ap (λ p. with_value p (disjoint_union r)) told ∙ ap (λ b. value_if b (union r add) causes.NotDisjoint) overlap

-- ---- tuples that go out, where each is there

module _ (r out : Relation) (o : Outcome Relation) (told : o ≡ Valued out) where
  pub taken_out : (d : Change) → IsRelation r → is_subset out r ≡ true → d.out ≡ out → d.add ≡ relation_view out.heading []
      → with_value o (included_difference r) ≡ Valued (changed_by d r)
  taken_out d valid within is add =
      ap (λ p. with_value p (included_difference r)) told ∙ ap (λ b. value_if b (difference r out) causes.NotIncluded) within
      ∙ ap Valued (sym (ap (λ q. union (difference r q) d.add) is ∙ ap (union (difference r out)) add ∙ nothing_in out.heading (difference r out) (IsRelation-restriction _ r valid)))

  pub not_within : is_subset out r ≡ false → with_value o (included_difference r) ≡ Refused (Only causes.NotIncluded)
  not_within without = ap (λ p. with_value p (included_difference r)) told ∙ ap (λ b. value_if b (difference r out) causes.NotIncluded) without
