use Rattle.std.proofs.Common.{◌≡◌, ◌++◌, drop, false, string_bytes}
use Rattle.td_value.specs.model.Literal.{parts_literal, fields_literal, rows_literal}
use Rattle.td_value.specs.model.Values.{pack_fields, pack_rows, pack_parts}
use Rattle.td_value.specs.code.Views.{tuple_view}
use Rattle.td_value.proofs.literal.+write.Given as goal

abbrev pub invariant-write_user-loop-v : goal.invariant-write_user-loop-v
invariant-write_user-loop-v l = string_bytes l.out ++ parts_literal l.later (pack_parts (drop l.v-index l.v-items)) ≡ string_bytes l.initial.out ++ parts_literal false (pack_parts l.v-items)

abbrev pub invariant-write_entries-loop-v : goal.invariant-write_entries-loop-v
invariant-write_entries-loop-v l =
    (l.place ≡ l.v-index)
    × (string_bytes l.out ++ fields_literal l.later (pack_fields (tuple_view (drop l.place l.names) (drop l.place l.values))) ≡ string_bytes l.initial.out ++ fields_literal false (pack_fields (tuple_view l.names l.values)))

abbrev pub invariant-write_rows-loop-t : goal.invariant-write_rows-loop-t
invariant-write_rows-loop-t l = string_bytes l.out ++ rows_literal l.later (pack_rows (drop l.t-index l.rows)) ≡ string_bytes l.initial.out ++ rows_literal false (pack_rows l.rows)
