use Rattle.std.proofs.Common.{◌≡◌, take}
use Rattle.td_value.specs.model.Values.{heading_of}
use Rattle.td_value.specs.code.Views.{tuple_view}
use Rattle.td_value.proofs.types.+find.Given as goal

abbrev pub invariant-entries_heading-loop-v : goal.invariant-entries_heading-loop-v
invariant-entries_heading-loop-v l =
    (l.place ≡ l.v-index) × (l.heading ≡ heading_of (tuple_view (take l.place l.names) (take l.place l.values)))
