use Rattle.std.proofs.Common.{◌≡◌, drop}
use Rattle.td_catalog.proofs.marked_names.name_marks.Given as goal
use Rattle.td_catalog.specs.code.NameMarks.{name_marks}

abbrev pub invariant-loop-name : goal.invariant-loop-name
invariant-loop-name l = name_marks l.marks (drop l.name-index l.names) ≡ name_marks 0 l.names
