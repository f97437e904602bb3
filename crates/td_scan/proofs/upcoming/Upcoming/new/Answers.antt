use Rattle.td_scan.proofs.ReadLaws.{next_is}
use Rattle.td_scan.proofs.upcoming.Upcoming.new.Goals as goal

pub invariant_of-result : goal.invariant_of-result
invariant_of-result c = record {
  room = c.requires.room;
  few = c.requires.few;
  enough = c.requires.enough;
  next = λ some. next_is c.args.bytes.now c.in-Some.first c.in-Some.ensures;
}
