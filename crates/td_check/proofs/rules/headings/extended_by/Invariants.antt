use Rattle.std.proofs.Common.{◌≡◌, length}
use Rattle.std.specs.Vec.Iter.{into_iter_items, into_iter_len}
use Rattle.td_check.specs.model.OperatorTypes.{extended_by}
use Rattle.td_types.specs.code.Views.{pairs_view}
use Rattle.td_check.proofs.rules.headings.extended_by.Given as goal

abbrev pub invariant-loop-name : goal.invariant-loop-name
invariant-loop-name l =
    (extended_by l.extended (pairs_view (into_iter_items l.name-iterator)) ≡ extended_by l.fn.heading (pairs_view l.fn.attributes.items))
    × (into_iter_len l.name-iterator ≡ length (into_iter_items l.name-iterator))
