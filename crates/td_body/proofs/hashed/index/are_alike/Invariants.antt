use Rattle.std.proofs.Common.{◌≡◌, map, take}
use Rattle.td_body.specs.code.KeyParts.{tuple_values_at}
use Rattle.td_body.proofs.hashed.index.are_alike.Given as goal

abbrev pub invariant-loop-number : goal.invariant-loop-number
invariant-loop-number l = record {
  values : map (tuple_values_at l.places) (take l.number l.rows.rows) ≡ map (tuple_values_at l.places) (take l.number l.old.rows);
  gone : take l.number l.rows.gone ≡ take l.number l.old.gone;
}
