use Rattle.td_value.proofs.Changes.{relation_from}
use Rattle.td_value.proofs.relation.Rel.of_ascending.Goals as goal

pub invariant_of-result : goal.invariant_of-result
invariant_of-result c =
    let own = relation_from c.args.heading c.args.rows.items c.requires.headed c.requires.ascending c.reveal.ensures.heading in
    rw (c.in_ok-heading.ensures.ok, c.in_ok-rows.ensures.ok) own
