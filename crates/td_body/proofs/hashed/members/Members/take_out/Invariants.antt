use Rattle.std.proofs.Common.{◌≡◌, [], drop}
use Rattle.td_body.specs.code.Members.{changed_set}
use Rattle.td_body.proofs.hashed.members.Members.take_out.Given as goal

abbrev pub invariant-loop-tuple : goal.invariant-loop-tuple
invariant-loop-tuple l = record {
  heading : l.self.relation.heading ≡ l.initial.self.relation.heading;
  body : changed_set (drop l.tuple-index l.out) [] l.self.relation.body ≡ changed_set l.out [] l.initial.self.relation.body;
  kept : l.self.kept ≡ l.initial.self.kept;
  places : l.self.places ≡ l.initial.self.places;
}
