use Rattle.std.proofs.Common.{subst, sym}
use Rattle.std.specs.List.{All}
use Rattle.std.proofs.lemmas.List.Elements.{All-filter}
use Rattle.std.proofs.lemmas.List.Kept.{IsStrictlySortedBy-filter}
use Rattle.td_value.specs.model.Values.{IsAscendingBody, IsTupleOf, tuple_cmp}
use Rattle.td_algebra.specs.code.Merges.{is_wanted}
use Rattle.td_algebra.proofs.sets.wanted_part.Goals as goal

pub with_rows-requires-clause-headed : goal.with_rows-requires-clause-headed
with_rows-requires-clause-headed c =
    subst (All (IsTupleOf c.args.rel.now.heading)) (sym c.in_ok-rows.ensures)
    (All-filter (is_wanted c.args.wanted c.args.other.now.body) (IsTupleOf c.args.rel.now.heading) c.args.rel.now.body c.reveal.ensures.headed)

pub with_rows-requires-clause-ascending : goal.with_rows-requires-clause-ascending
with_rows-requires-clause-ascending c =
    subst IsAscendingBody (sym c.in_ok-rows.ensures)
    (IsStrictlySortedBy-filter tuple_cmp (is_wanted c.args.wanted c.args.other.now.body) c.args.rel.now.body c.reveal.ensures.ascending)
