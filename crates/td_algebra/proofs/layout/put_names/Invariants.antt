use Rattle.std.proofs.Common.{◌≡◌, ◌+◌, ◌++◌, drop}
use Rattle.td_algebra.specs.code.Layouts.{numbered_sources}
use Rattle.td_algebra.proofs.layout.put_names.Given as goal

abbrev pub invariant-loop-index : goal.invariant-loop-index
invariant-loop-index l = l.sources.items ++ numbered_sources (l.start + l.index) (drop l.index l.names) ≡ l.initial.sources.items ++ numbered_sources l.start l.names
