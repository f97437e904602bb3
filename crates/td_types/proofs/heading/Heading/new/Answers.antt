use Rattle.std.proofs.Common.{◌≡◌, ◌∙◌, sym, ap, refl, subst, true, false, Bool, List, ℕ, map}
use Rattle.std.specs.Prelude.{not}
use Rattle.std.specs.List.Sorted.{IsPermutation, IsStrictlySortedBy}
use Rattle.std.proofs.lemmas.List.Sorted.{IsPermutation-map}
use Rattle.td_types.specs.declared.ty.Ty.{Ty}
use Rattle.td_tree.specs.declared.cause.Cause.TheVariants as causes
use Rattle.td_types.specs.model.Headings.{are_distinct, heading_from}
use Rattle.td_types.proofs.HeadingLaws.{name_cmp}
use Rattle.td_types.specs.code.TypeOrder.{ty_cmp}
use Rattle.td_types.specs.model.Types.{IsAscending, attribute_names, type_at}
use Rattle.td_types.specs.code.Views.{pairs_view, type_view}
use Rattle.td_types.proofs.Made.{names_of_pairs, sorted_is_heading_from, type_at-heading_from}
use Rattle.td_types.proofs.DistinctNames.{Sorted, distinct_permuted, rising, sorted_by_names}
use Rattle.td_types.proofs.Valued.{answers_cause, answers_value}
use Rattle.td_types.proofs.heading.Heading.new.Goals as goal

-- the pairs as they are given and as they are sorted, and whether a name comes twice
module _ (given sorted lent : List (List ℕ × Ty)) (p : IsPermutation given sorted) (is : lent ≡ sorted) (repeats b : Bool)
    (e : repeats ≡ not (are_distinct (map (λ e. e.0) lent))) (tested : repeats ≡ b) where
  distinct : not (are_distinct (attribute_names (pairs_view given))) ≡ b
  distinct =
      ap (λ ns. not (are_distinct ns)) (names_of_pairs given) ∙ ap not (distinct_permuted (map (λ e. e.0) given) (map (λ e. e.0) sorted) (IsPermutation-map (λ e. e.0) given sorted p))
      ∙ sym (ap (λ es. not (are_distinct (map (λ e. e.0) es))) is) ∙ sym e ∙ tested

is_true : (b : Bool) → not b ≡ false → b ≡ true
is_true true e = refl
is_true false e = cc

ascends : (sorted : List (List ℕ × Ty)) → Sorted (λ e. e.0) sorted → are_distinct (map (λ e. e.0) sorted) ≡ true → IsAscending (pairs_view sorted)
ascends sorted up d = subst (IsStrictlySortedBy name_cmp) (sym (names_of_pairs sorted)) (rising (λ e. e.0) sorted up d)

pub repeats_a_name-requires : goal.repeats_a_name-requires
repeats_a_name-requires c = rw c.deref.ensures.value (sorted_by_names (λ e. e.0) (λ x y. ty_cmp x.1 y.1) c.sort_unstable.new.self.items c.sort_unstable.ensures.sorted)

is_false : (b : Bool) → not b ≡ true → b ≡ false
is_false true e = cc
is_false false e = refl

pub returns-then-repeats_a_name-clause-answer : goal.returns-then-repeats_a_name-clause-answer
returns-then-repeats_a_name-clause-answer c =
    answers_cause (heading_from (pairs_view c.args.attributes.items)) _ causes.Heading
    (is_false _ (distinct c.args.attributes.items c.sort_unstable.new.self.items _ c.sort_unstable.ensures.permutation c.deref.ensures.value _ _ c.repeats_a_name.ensures c.if-repeats_a_name.true))

pub from_sorted-requires : goal.from_sorted-requires
from_sorted-requires c =
    ascends c.sort_unstable.new.self.items (sorted_by_names (λ e. e.0) (λ x y. ty_cmp x.1 y.1) c.sort_unstable.new.self.items c.sort_unstable.ensures.sorted)
    (is_true _ (sym (ap (λ es. not (are_distinct (map (λ e. e.0) es))) c.deref.ensures.value) ∙ sym c.repeats_a_name.ensures ∙ c.if-repeats_a_name.false))

module _ (c : goal.In_ok-from_sorted) where
  given_distinct : are_distinct (attribute_names (pairs_view c.args.attributes.items)) ≡ true
  given_distinct =
      is_true _ (distinct c.args.attributes.items c.sort_unstable.new.self.items _ c.sort_unstable.ensures.permutation c.deref.ensures.value _ _ c.repeats_a_name.ensures c.if-repeats_a_name.false)

  made : c.in_ok-from_sorted.field-0 ≡ heading_from (pairs_view c.args.attributes.items)
  made =
      let given = c.args.attributes.items in
      let sorted = c.sort_unstable.new.self.items in
      c.in_ok-from_sorted.ensures ∙ sorted_is_heading_from (pairs_view given) (pairs_view sorted) (IsPermutation-map (λ a. (a.0, type_view a.1)) given sorted c.sort_unstable.ensures.permutation) given_distinct
      (ascends sorted (sorted_by_names (λ e. e.0) (λ x y. ty_cmp x.1 y.1) sorted c.sort_unstable.ensures.sorted)
      (is_true _ (sym (ap (λ es. not (are_distinct (map (λ e. e.0) es))) c.deref.ensures.value) ∙ sym c.repeats_a_name.ensures ∙ c.if-repeats_a_name.false)))

pub returns-in_ok-from_sorted-clause-answer : goal.returns-in_ok-from_sorted-clause-answer
returns-in_ok-from_sorted-clause-answer c =
    answers_value _ (heading_from (pairs_view c.args.attributes.items)) _ causes.Heading (given_distinct c) (made c)

pub returns-in_ok-from_sorted-clause-types : goal.returns-in_ok-from_sorted-clause-types
returns-in_ok-from_sorted-clause-types c = λ n. ap (type_at n) (made c) ∙ type_at-heading_from n (pairs_view c.args.attributes.items) (given_distinct c)
