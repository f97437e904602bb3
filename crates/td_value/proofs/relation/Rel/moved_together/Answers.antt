use Rattle.std.proofs.Common.{subst, sym}
use Rattle.td_value.specs.model.Values.{HaveSameNames}
use Rattle.td_value.proofs.Rows.{HaveSameNames-from}
use Rattle.td_value.proofs.relation.Rel.moved_together.Goals as goal

pub moved_together-requires : goal.moved_together-requires
moved_together-requires c =
    subst HaveSameNames (sym c.rows.ensures.rows) (HaveSameNames-from c.args.self.heading c.args.self.body c.rows.ensures.headed)
