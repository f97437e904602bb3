use Rattle.td_types.proofs.heading.Heading.empty.Goals as goal

pub invariant_of-result : goal.invariant_of-result
invariant_of-result c = rw c.new.ensures.items tt
