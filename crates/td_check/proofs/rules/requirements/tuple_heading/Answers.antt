use Rattle.std.proofs.Common.{ap}
use Rattle.td_tree.specs.model.Outcomes.{Valued}
use Rattle.td_types.specs.code.TypeCode.{unpack_pack}
use Rattle.td_check.proofs.rules.requirements.tuple_heading.Goals as goal

pub returns-in-Tup : goal.returns-in-Tup
returns-in-Tup c = rw c.in-Tup.is (ap Valued (unpack_pack c.in-Tup.heading))
