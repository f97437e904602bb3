use Rattle.std.proofs.Common.{◌≡◌, map, take}
use Rattle.td_group.specs.code.Successors.{AreSeen, all_added}
use Rattle.td_group.proofs.closure.put_all_unseen.Given as goal

abbrev pub invariant-loop-value : goal.invariant-loop-value
invariant-loop-value l =
    (map (λ v. v.now) l.found.items ≡ all_added (map (λ v. v.now) l.fn.found.items) (take l.value-index (map (λ v. v.now) l.values)))
    × AreSeen l.seen (map (λ v. v.now) l.found.items)
