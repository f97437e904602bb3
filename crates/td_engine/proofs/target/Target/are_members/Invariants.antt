use Rattle.std.proofs.Common.{◌≡◌, drop}
use Rattle.std.specs.List.{list_all}
use Rattle.td_algebra.specs.code.Merges.{is_wanted}
use Rattle.td_engine.specs.code.Targets.{so_far}
use Rattle.td_engine.proofs.target.Target.are_members.Given as goal

abbrev pub invariant-loop-tuple : goal.invariant-loop-tuple
invariant-loop-tuple g l =
    let p = is_wanted l.wanted (so_far g.B.Body.relation l.self).body in list_all p (drop l.tuple-index l.tuples.body) ≡ list_all p l.tuples.body
