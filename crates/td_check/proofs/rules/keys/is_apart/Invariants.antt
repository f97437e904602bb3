use Rattle.std.proofs.Common.{◌≡◌, drop, map}
use Rattle.std.specs.List.{list_all}
use Rattle.std.specs.Prelude.{◌||◌, not}
use Rattle.td_check.specs.model.StatementTypes.{is_included}
use Rattle.td_check.proofs.rules.keys.is_apart.Given as goal

abbrev pub invariant-loop-other : goal.invariant-loop-other
invariant-loop-other l =
    list_all (λ other. not (is_included l.key other || is_included other l.key)) (map (λ other. other.items) (drop l.other-index l.others))
    ≡ list_all (λ other. not (is_included l.key other || is_included other l.key)) (map (λ other. other.items) l.others)
