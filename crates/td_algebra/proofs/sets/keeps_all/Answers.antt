use Rattle.td_algebra.proofs.Merges.{all_wanted, no_rows}
use Rattle.td_algebra.proofs.sets.keeps_all.Goals as goal

pub returns-else-is_empty : goal.returns-else-is_empty
returns-else-is_empty c = λ e.
    all_wanted c.args.wanted c.args.other.now.body c.args.rel.now.body c.if-wanted.false
    (no_rows c.rows-else-is_empty.result.now c.args.other.now.body c.is_empty-else-is_empty.result c.rows-else-is_empty.ensures.rows c.is_empty-else-is_empty.ensures e)
