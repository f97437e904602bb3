use Rattle.std.proofs.Common.{rules, ap, subst, ◌∙◌}
use Rattle.std.specs.List.Sorted.{IsPermutation}
use Rattle.std.specs.Ordering.{is_lt}
use Rattle.std.proofs.lemmas.Fn.{always_returns_same}
use Rattle.std.proofs.lemmas.List.Sorted.{ranks_by}
use Rattle.td_value.specs.model.Values.{Relation}
use Rattle.td_body.specs.code.KeyParts.{by_places, tuple_values_at}
use Rattle.td_body.proofs.KeyParts.{found_order_total}
use Rattle.td_body.proofs.keys.sorted_at.Goals as goal

pub returns-clause-permutation : goal.returns-clause-permutation
returns-clause-permutation c =
    subst (λ ts. IsPermutation ts c.sort_unstable_by.new.self.items) (c.in_ok-tuples.ensures.rows ∙ ap (λ (r : Relation). r.body) c.in_ok-try_clone.ensures) c.sort_unstable_by.ensures.permutation

pub returns-clause-sorted : goal.returns-clause-sorted
returns-clause-sorted c =
    c.sort_unstable_by.ensures.sorted (λ s t. is_lt (by_places c.args.places.now s t)) (ranks_by found_order_total (tuple_values_at c.args.places.now))
    (always_returns_same _ _ _ (λ a r q k. (ap is_lt (search rules), search rules)))
