use Rattle.std.proofs.Common.{◌≡◌, drop}
use Rattle.td_catalog.specs.code.CatalogViews.{entry_keys}
use Rattle.td_engine.specs.model.Checks.{keys_hold}
use Rattle.td_engine.proofs.checks.entry_keys_hold.Given as goal

abbrev pub invariant-loop-place : goal.invariant-loop-place
invariant-loop-place g l =
    keys_hold (drop l.place (entry_keys l.entry)) (g.B.Body.relation l.entry.body).body ≡ keys_hold (entry_keys l.entry) (g.B.Body.relation l.entry.body).body
