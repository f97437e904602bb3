use Rattle.std.proofs.Common.{◌≡◌, ◌++◌, length, drop, filter}
use Rattle.td_types.specs.model.Headings.{has_name}
use Rattle.td_value.specs.code.Views.{tuple_view}
use Rattle.td_value.proofs.tuple.keep_entries.Given as goal

abbrev pub invariant-loop-v : goal.invariant-loop-v
invariant-loop-v l =
    (l.place ≡ l.v-index) × (length l.kept_names.items ≡ length l.kept_values.items)
    × (tuple_view l.kept_names.items l.kept_values.items ++ filter (λ e. has_name e.0 l.wanted) (tuple_view (drop l.place l.names) (drop l.place l.values))
    ≡ filter (λ e. has_name e.0 l.wanted) (tuple_view l.names l.values))
