use Rattle.std.proofs.Common.{◌≡◌, map, take}
use Rattle.td_plan.specs.code.Partners.{has_partner}
use Rattle.td_plan.proofs.running.partners.have_partners.Given as goal

abbrev pub invariant-loop-row : goal.invariant-loop-row
invariant-loop-row g l = l.truths.items ≡ map (has_partner l.key (g.B.Body.relation l.entry.body)) (take l.row-index l.rows)
