use Rattle.td_value.proofs.Places.{searched}
use Rattle.td_value.proofs.relation.place_of.Goals as goal

pub returns-clause-there : goal.returns-clause-there
returns-clause-there c = (searched c.args.tuple.now c.args.rows.now c.binary_search.result c.requires c.binary_search.ensures.bound c.binary_search.ensures.position).0

pub returns-clause-none : goal.returns-clause-none
returns-clause-none c = (searched c.args.tuple.now c.args.rows.now c.binary_search.result c.requires c.binary_search.ensures.bound c.binary_search.ensures.position).1
