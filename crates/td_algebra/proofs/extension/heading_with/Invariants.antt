use Rattle.std.proofs.Common.{◌≡◌, drop}
use Rattle.td_types.specs.model.Headings.{heading_union}
use Rattle.td_algebra.specs.code.Columns.{column_attributes, columns_view}
use Rattle.td_algebra.proofs.extension.heading_with.Given as goal

abbrev pub invariant-loop-name : goal.invariant-loop-name
invariant-loop-name l =
    heading_union l.extended (column_attributes (columns_view (drop l.name-index l.columns))) ≡ heading_union l.heading (column_attributes (columns_view l.columns))
