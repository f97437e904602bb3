use Rattle.std.proofs.Common.{refl}
use Rattle.std.specs.Cmp.Lexicographic.{texts_ties}
use Rattle.td_plan.proofs.running.quick.texts_compared.Goals as goal

pub returns-in-Equal : goal.returns-in-Equal
returns-in-Equal c = rw (c.in-Equal.is, c.eq.ensures, texts_ties c.args.s.now c.args.t.now) refl

pub returns-in-NotEqual : goal.returns-in-NotEqual
returns-in-NotEqual c = rw (c.in-NotEqual.is, c.ne.ensures, texts_ties c.args.s.now c.args.t.now) refl
