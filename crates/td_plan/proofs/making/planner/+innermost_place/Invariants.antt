use Rattle.std.proofs.Common.{length}
use Rattle.td_plan.proofs.making.planner.+innermost_place.Given as goal

abbrev pub decreases-innermost_place : goal.decreases-innermost_place
decreases-innermost_place l = length l.headings.now
