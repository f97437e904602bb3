use Rattle.std.proofs.Common.{arith, refl}
use Rattle.td_eval.proofs.lent_world.LentWorld.in_constraint.Goals as goal

pub returns : goal.returns
returns g c = record { lent = record { within = omega (arith, c.requires.place, c.requires.lent.within); catalog = tt }; exact = refl }
