-- Which of the causes is named: a law (this project's own).
use Rattle.std.specs.Prelude.{◌≤◌}
use Rattle.td_tree.specs.model.Causes.{number_of}
use Rattle.td_tree.specs.declared.cause.Cause.{Cause}
use Rattle.td_tree.specs.model.Outcomes.{Causes, Has, least}

-- the cause that is named is one of the set, and none of the set has a lesser number
abbrev pub LeastIsNamed : Type 0
LeastIsNamed =
    (cs : Causes) → Has cs (least cs)
    × ((c : Cause) → Has cs c → number_of (least cs) ≤ number_of c)
