use Rattle.std.proofs.Common.{◌≡◌, map, take}
use Rattle.td_eval.specs.code.Totals.{asked_by}
use Rattle.td_plan.proofs.making.summaries.aggregates_of.Given as goal

abbrev pub invariant-loop-item : goal.invariant-loop-item
invariant-loop-item l = l.aggregates.items ≡ map asked_by (take l.item-index l.items)
