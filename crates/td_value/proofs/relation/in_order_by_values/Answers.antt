use Rattle.std.proofs.Common.{rules, ◌∙◌, ap}
use Rattle.std.specs.Ordering.{eq_by_cmp, is_lt}
use Rattle.std.proofs.lemmas.List.Filters.{dedup_is}
use Rattle.std.proofs.lemmas.List.Sorted.{answers_always, ranks_by}
use Rattle.td_value.specs.model.Values.{tuple_cmp}
use Rattle.td_value.specs.code.ValueOrder.{tuple_order_total, tuple_order_same}
use Rattle.td_value.proofs.Rows.{HaveSameNames-permuted, by_values, by_values_total, sorted_from_values}
use Rattle.td_value.proofs.SetLaws.{sorted_is_set_of}
use Rattle.td_value.proofs.relation.in_order_by_values.Goals as goal

pub returns : goal.returns
returns c =
    let given = c.args.rows.items in
    let sorted = c.sort_unstable_by.new.self.items in
    let permuted = c.sort_unstable_by.ensures.permutation in
    let up = c.sort_unstable_by.ensures.sorted (λ s t. is_lt (by_values s t)) (ranks_by by_values_total (λ s. s)) (answers_always _ _ _ (λ f a r q k. ap is_lt (search rules))) in
    let in_order = sorted_from_values sorted (HaveSameNames-permuted given sorted permuted c.requires) up in
    c.shrink_to_fit.ensures.items ∙ dedup_is (eq_by_cmp tuple_cmp) _ _ c.dedup.ensures.filtered
    ∙ sorted_is_set_of tuple_cmp tuple_order_total tuple_order_same sorted given permuted in_order
