-- Tuples by the list of their names and the list of their values.
use Rattle.std.specs.Prelude.{ℕ, Bool, List}
use Rattle.std.specs.Cmp.Lexicographic.{slice_cmp}
use Rattle.std.specs.List.{All}
use Rattle.std.specs.List.Sorted.{IsStrictlySortedBy}
use Rattle.std.specs.Ordering.{is_eq, nat_cmp}
use Rattle.td_tree.specs.model.Names.{IsName}
use Rattle.td_types.specs.model.Types.{Heading, attrs_cmp, pack}
use Rattle.td_value.specs.model.Values.{Val, fields_type, pack_fields}
use Rattle.td_value.specs.code.Views.{tuple_view}

-- whether the entries have the heading
abbrev pub entries_fit : List (List ℕ) → List Val → Heading → Bool
entries_fit ns vs h = is_eq (attrs_cmp (fields_type (pack_fields (tuple_view ns vs))) (pack h))

-- they are names, and ascend
abbrev pub AreNames : List (List ℕ) → Type 0
AreNames ns = IsStrictlySortedBy (slice_cmp nat_cmp) ns × All IsName ns
