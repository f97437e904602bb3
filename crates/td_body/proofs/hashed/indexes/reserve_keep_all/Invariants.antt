use Rattle.std.proofs.Common.{◌<◌, ℕ, get_or}
use Rattle.td_body.specs.declared.hashed.index.KeyIndex.{KeyIndex}
use Rattle.td_body.specs.code.KeyIndexes.{CanKeep}
use Rattle.td_body.specs.code.Turns.{Stays, TurnedBelow}
use Rattle.td_body.proofs.hashed.indexes.reserve_keep_all.Given as goal

abbrev pub invariant-loop-place : goal.invariant-loop-place
invariant-loop-place l = record {
  turned : TurnedBelow Stays l.place l.initial.indexes l.indexes;
  room : (k : ℕ) (d : KeyIndex) → k < l.place → CanKeep (get_or l.indexes k d);
}
