use Rattle.std.proofs.Common.{subst}
use Rattle.td_value.specs.model.Values.{IsRelation, IsAscendingBody}
use Rattle.td_value.specs.code.ValueCode.{unpack_pack_rows}
use Rattle.td_value.proofs.Rows.{All-from_rows}
use Rattle.td_value.proofs.relation.Rel.rows.Goals as goal

pub returns-clause-headed : goal.returns-clause-headed
returns-clause-headed c = All-from_rows c.args.self.now.heading c.args.self.now.body (subst IsRelation c.self.view_is c.self.invariant).0

pub returns-clause-ascending : goal.returns-clause-ascending
returns-clause-ascending c = subst IsAscendingBody (unpack_pack_rows c.args.self.now.body) (subst IsRelation c.self.view_is c.self.invariant).1
