use Rattle.std.proofs.Common.{◌≡◌, [], take}
use Rattle.td_body.specs.code.Members.{changed_set}
use Rattle.td_body.proofs.hashed.members.Members.put_all_in.Given as goal

abbrev pub invariant-loop-place : goal.invariant-loop-place
invariant-loop-place l = record {
  heading : l.self.relation.heading ≡ l.initial.self.relation.heading;
  body : l.self.relation.body ≡ changed_set [] (take l.place l.add) l.initial.self.relation.body;
  kept : l.self.kept ≡ l.initial.self.kept;
  places : l.self.places ≡ l.initial.self.places;
}
