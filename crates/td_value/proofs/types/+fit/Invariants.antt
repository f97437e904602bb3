use Rattle.std.proofs.Common.{◌≡◌, drop}
use Rattle.td_value.specs.code.Zipped.{entries_fit}
use Rattle.td_value.proofs.types.+fit.Given as goal

abbrev pub invariant-entries_have_heading-loop-v : goal.invariant-entries_have_heading-loop-v
invariant-entries_have_heading-loop-v l =
    (l.place ≡ l.v-index)
    × (entries_fit (drop l.place l.names) (drop l.place l.values) (drop l.place l.heading) ≡ entries_fit l.names l.values l.heading)
