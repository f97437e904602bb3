use Rattle.std.proofs.Common.{◌≡◌, filter, take}
use Rattle.td_algebra.specs.code.Lookups.{has_partner_in, wanted_answer}
use Rattle.td_algebra.proofs.semijoins.rows_by_partners.Given as goal

abbrev pub invariant-loop-row : goal.invariant-loop-row
invariant-loop-row l =
    l.kept.items ≡ filter (λ t. wanted_answer l.there (has_partner_in l.lookup l.places t)) (take l.row-index l.rows)
