use Rattle.std.proofs.Common.{subst, sym}
use Rattle.std.proofs.lemmas.List.Elements.{All-filter}
use Rattle.std.proofs.lemmas.List.Kept.{IsStrictlySortedBy-filter}
use Rattle.td_value.specs.model.Agreement.{agree_on}
use Rattle.td_value.specs.model.Values.{IsAscendingBody, IsTupleOf, tuple_cmp}
use Rattle.td_body.proofs.keys.agreeing.Goals as goal

pub of_ascending-requires-clause-headed : goal.of_ascending-requires-clause-headed
of_ascending-requires-clause-headed c =
    let r = c.args.relation.now in
    rw (c.in_ok-kept.ensures, c.in_ok-heading.ensures, c.heading.ensures) (All-filter (agree_on c.args.key.now c.args.part.now) (IsTupleOf r.heading) r.body c.reveal.ensures.headed)

pub of_ascending-requires-clause-ascending : goal.of_ascending-requires-clause-ascending
of_ascending-requires-clause-ascending c =
    let r = c.args.relation.now in
    subst IsAscendingBody (sym c.in_ok-kept.ensures) (IsStrictlySortedBy-filter tuple_cmp (agree_on c.args.key.now c.args.part.now) r.body c.reveal.ensures.ascending)
