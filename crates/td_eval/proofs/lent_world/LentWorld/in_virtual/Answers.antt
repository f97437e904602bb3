use Rattle.std.proofs.Common.{refl}
use Rattle.td_eval.proofs.lent_world.LentWorld.in_virtual.Goals as goal

pub returns : goal.returns
returns g c = record { lent = record { within = c.requires.within; catalog = c.requires.catalog }; exact = refl }
