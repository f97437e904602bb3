use Rattle.std.proofs.Common.{◌≡◌, ◌≤◌, length, take}
use Rattle.td_body.specs.code.Numbered.{live}
use Rattle.td_body.proofs.hashed.rows.Rows.are.Given as goal

abbrev pub invariant-loop-number : goal.invariant-loop-number
invariant-loop-number l = record {
  few : l.seen ≤ length l.tuples;
  seen : live (take l.number l.self.rows) (take l.number l.self.gone) ≡ take l.seen l.tuples;
}
