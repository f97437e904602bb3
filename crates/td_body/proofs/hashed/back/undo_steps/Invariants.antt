use Rattle.std.proofs.Common.{◌≡◌, length, true}
use Rattle.std.specs.List.{All}
use Rattle.td_body.specs.code.KeyIndexes.{IsLinked}
use Rattle.td_body.specs.code.Logs.{is_proper, kept_by}
use Rattle.td_body.specs.code.Members.{IsBefore, places_in, tuples_of}
use Rattle.td_body.proofs.hashed.back.undo_steps.Given as goal

abbrev pub invariant-steps : goal.invariant-steps
invariant-steps l = record {
  counts : kept_by length l.initial.log.items l.initial.rows.rows l.initial.rows.gone ≡ kept_by length l.log.items l.rows.rows l.rows.gone;
  sets : kept_by tuples_of l.initial.log.items l.initial.rows.rows l.initial.rows.gone ≡ kept_by tuples_of l.log.items l.rows.rows l.rows.gone;
  proper : is_proper l.rows.fixed l.log.items l.rows.rows l.rows.gone ≡ true;
  linked : All (IsLinked l.rows.rows l.rows.gone) l.indexes.items;
  clashes : All (IsBefore l.log.items l.rows.rows l.rows.gone) l.indexes.items;
  heading : l.rows.heading ≡ l.initial.rows.heading;
  places : places_in l.indexes.items ≡ places_in l.initial.indexes.items;
}

abbrev pub decreases-steps : goal.decreases-steps
decreases-steps l = length l.log.items
