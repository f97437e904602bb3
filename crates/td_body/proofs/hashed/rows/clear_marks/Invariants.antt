use Rattle.std.proofs.Common.{◌≡◌, ◌<◌, ℕ, Bool, false, get_or, length}
use Rattle.td_body.proofs.hashed.rows.clear_marks.Given as goal

abbrev pub invariant-loop-i : goal.invariant-loop-i
invariant-loop-i l = record {
  many : length l.marks.items ≡ l._i;
  clear : (k : ℕ) (d : Bool) → k < l._i → get_or l.marks.items k d ≡ false;
}
