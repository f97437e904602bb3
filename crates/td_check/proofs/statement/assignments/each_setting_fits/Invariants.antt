use Rattle.std.proofs.Common.{map, take}
use Rattle.td_check.specs.model.StatementTypes.{setting_fits}
use Rattle.td_check.proofs.StatementAnswers.{asked_of}
use Rattle.td_tree.specs.code.Gatherings.{IsGathered}
use Rattle.td_types.specs.code.Pairs.{pair_view}
use Rattle.td_check.proofs.statement.assignments.each_setting_fits.Given as goal

abbrev pub invariant-loop-name : goal.invariant-loop-name
invariant-loop-name l =
    IsGathered l.causes (asked_of (take l.name-index l.settings)) (map (λ s. setting_fits l.heading (pair_view s)) (take l.name-index l.settings))
