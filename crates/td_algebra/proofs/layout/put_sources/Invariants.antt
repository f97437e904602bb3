use Rattle.std.proofs.Common.{◌≡◌, ◌+◌, ◌++◌, drop}
use Rattle.td_algebra.specs.code.Layouts.{sources_outside}
use Rattle.td_algebra.proofs.layout.put_sources.Given as goal

abbrev pub invariant-loop-index : goal.invariant-loop-index
invariant-loop-index l = l.sources.items ++ sources_outside l.part (l.start + l.index) (drop l.index l.heading) ≡ l.initial.sources.items ++ sources_outside l.part l.start l.heading
