use Rattle.std.proofs.Common.{arith}
use Rattle.std.proofs.lemmas.Slice.Zip.{length-zip}
use Rattle.td_plan.proofs.running.items.item_count.Goals as goal

pub returns-clause-count : goal.returns-clause-count
returns-clause-count c = let many = length-zip c.args.aggregates.now c.args.steps.now in omega arith
