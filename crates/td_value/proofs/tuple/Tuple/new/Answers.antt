use Rattle.std.proofs.Common.{◌≡◌, ◌∙◌, sym, ap, refl, true, false, Bool}
use Rattle.std.specs.Prelude.{not}
use Rattle.std.specs.declared.cmp.Ordering.{Ordering}
use Rattle.std.specs.declared.cmp.Ordering.TheVariants.{Less, Equal, Greater}
use Rattle.std.specs.Ordering.{is_lt, ordering_then}
use Rattle.std.specs.List.Sorted.{IsPermutation, IsSorted}
use Rattle.std.proofs.lemmas.List.Sorted.{IsPermutation-map}
use Rattle.td_tree.specs.declared.cause.Cause.TheVariants as causes
use Rattle.td_types.specs.model.Headings.{are_distinct}
use Rattle.td_types.proofs.Valued.{answers_cause, answers_value}
use Rattle.td_value.specs.model.Values.{Tuple, entry_cmp, tuple_names, tuple_of, value_at}
use Rattle.td_value.proofs.Maps.{sorted_is_tuple_of, value_at-tuple_of}
use Rattle.td_types.proofs.DistinctNames.{Sorted, distinct_permuted, rising}
use Rattle.td_value.proofs.tuple.Tuple.new.Goals as goal

same_distinct : (es fs : Tuple) → IsPermutation es fs → are_distinct (tuple_names es) ≡ are_distinct (tuple_names fs)
same_distinct es fs p = distinct_permuted (tuple_names es) (tuple_names fs) (IsPermutation-map (λ e. e.0) es fs p)

first_not_less : (o p : Ordering) → is_lt (ordering_then o p) ≡ false → is_lt o ≡ false
first_not_less Less p h = h
first_not_less Equal p h = refl
first_not_less Greater p h = refl

by_names : (es : Tuple) → IsSorted entry_cmp es → Sorted (λ e. e.0) es
by_names es h = λ k d l u. first_not_less _ _ (h k d l u)

is_true : (b : Bool) → not b ≡ false → b ≡ true
is_true true e = refl
is_true false e = cc

is_false : (b : Bool) → not b ≡ true → b ≡ false
is_false true e = cc
is_false false e = refl

pub returns-then-repeats_a_name-clause-answer : goal.returns-then-repeats_a_name-clause-answer
returns-then-repeats_a_name-clause-answer c =
    answers_cause (tuple_of c.args.entries.items) _ causes.Heading
    (is_false _ (ap not (same_distinct c.args.entries.items _ c.sort_unstable.ensures.permutation)
    ∙ ap (λ es. not (are_distinct (tuple_names es))) (sym c.deref.ensures.value) ∙ sym c.repeats_a_name.ensures ∙ c.if-repeats_a_name.true))

pub from_sorted-requires : goal.from_sorted-requires
from_sorted-requires c =
    rising (λ e. e.0) c.sort_unstable.new.self.items (by_names _ c.sort_unstable.ensures.sorted)
    (is_true _ (ap (λ es. not (are_distinct (tuple_names es))) (sym c.deref.ensures.value) ∙ sym c.repeats_a_name.ensures ∙ c.if-repeats_a_name.false))

module _ (c : goal.In_ok-from_sorted) where
  given_distinct : are_distinct (tuple_names c.args.entries.items) ≡ true
  given_distinct =
      is_true _ (ap not (same_distinct c.args.entries.items _ c.sort_unstable.ensures.permutation)
      ∙ ap (λ es. not (are_distinct (tuple_names es))) (sym c.deref.ensures.value) ∙ sym c.repeats_a_name.ensures ∙ c.if-repeats_a_name.false)

  made : c.in_ok-from_sorted.field-0 ≡ tuple_of c.args.entries.items
  made =
      c.in_ok-from_sorted.ensures ∙ sorted_is_tuple_of c.sort_unstable.new.self.items c.args.entries.items c.sort_unstable.ensures.permutation
      (rising (λ e. e.0) c.sort_unstable.new.self.items (by_names _ c.sort_unstable.ensures.sorted)
      (is_true _ (ap (λ es. not (are_distinct (tuple_names es))) (sym c.deref.ensures.value) ∙ sym c.repeats_a_name.ensures ∙ c.if-repeats_a_name.false)))

pub returns-clause-answer : goal.returns-clause-answer
returns-clause-answer c =
    answers_value _ (tuple_of c.args.entries.items) _ causes.Heading (given_distinct c) (made c)

pub returns-clause-values : goal.returns-clause-values
returns-clause-values c = λ n. ap (value_at n) (made c) ∙ value_at-tuple_of n c.args.entries.items (given_distinct c)
