use Rattle.std.proofs.Common.{ap}
use Rattle.td_tree.specs.model.Outcomes.{Valued}
use Rattle.td_types.specs.code.TypeCode.{unpack_pack}
use Rattle.td_check.proofs.rules.requirements.relation_heading.Goals as goal

pub returns-in-Rel : goal.returns-in-Rel
returns-in-Rel c = rw c.in-Rel.is (ap Valued (unpack_pack c.in-Rel.heading))
