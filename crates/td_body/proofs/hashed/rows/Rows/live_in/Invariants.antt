use Rattle.std.proofs.Common.{◌≡◌, ◌++◌, take}
use Rattle.td_body.specs.code.Numbered.{live}
use Rattle.td_body.proofs.hashed.rows.Rows.live_in.Given as goal

abbrev pub invariant-loop-number : goal.invariant-loop-number
invariant-loop-number l = live (take l.from l.self.rows) (take l.from l.self.gone) ++ l.tuples.items ≡ live (take l.number l.self.rows) (take l.number l.self.gone)
