use Rattle.std.proofs.Common.{rules}
use Rattle.td_types.specs.code.TypeOrder.{heading_eq-Decides}
use Rattle.td_eval.proofs.operators.comparisons.is_part.Goals as goal

pub subset-requires : goal.subset-requires
subset-requires c = (heading_eq-Decides c.args.rel.now.heading c.args.other.now.heading).0 (search rules)
