use Rattle.std.proofs.Common.{length, drop, false, string_bytes}
use Rattle.std.specs.List.{slice_split}
use Rattle.td_tree.specs.code.Fronts.{IsBegun}
use Rattle.td_tree.proofs.code_lemmas.Doubling.{joined, is_quote}
use Rattle.td_tree.proofs.quoted.put_doubled.Given as goal

abbrev pub invariant-loop-piece : goal.invariant-loop-piece
invariant-loop-piece l =
    IsBegun (string_bytes l.initial.out) (string_bytes l.out) (joined l.later (drop (length l.yielded) (slice_split is_quote l.said))) (joined false (slice_split is_quote l.said))
