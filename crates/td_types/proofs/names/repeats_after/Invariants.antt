use Rattle.std.proofs.Common.{◌≡◌, ◌∷◌, drop, map}
use Rattle.td_types.specs.model.Headings.{are_distinct}
use Rattle.td_types.proofs.DistinctNames.{Sorted}
use Rattle.td_types.proofs.names.repeats_after.Given as goal

abbrev pub invariant-loop-entry : goal.invariant-loop-entry
invariant-loop-entry g l =
    Sorted (λ e. e.0) (l.before ∷ drop l.entry-index l.rest)
    × (are_distinct (map (λ e. e.0) (l.before ∷ drop l.entry-index l.rest)) ≡ are_distinct (map (λ e. e.0) (l.first ∷ l.rest)))
