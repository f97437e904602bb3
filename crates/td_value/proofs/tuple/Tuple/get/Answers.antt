use Rattle.std.proofs.Common.{◌∙◌, ap, sym, subst}
use Rattle.std.specs.Ordering.{nat_cmp}
use Rattle.std.specs.Cmp.Lexicographic.{slice_cmp}
use Rattle.std.specs.List.Sorted.{IsStrictlySortedBy}
use Rattle.td_value.specs.model.Values.{tuple_names, value_at}
use Rattle.td_value.specs.code.Views.{tuple_view}
use Rattle.td_value.proofs.Cut.{names_of_tuple}
use Rattle.td_value.proofs.Zips.{unzipped}
use Rattle.td_value.proofs.tuple.Tuple.get.Goals as goal

pub value_named-requires-clause-ascending : goal.value_named-requires-clause-ascending
value_named-requires-clause-ascending c =
    subst (IsStrictlySortedBy (slice_cmp nat_cmp)) (sym c.names.ensures.names) (names_of_tuple c.args.self.now c.names.ensures.valid).0

pub returns : goal.returns
returns c =
    let own = ap (λ ns. tuple_view ns c.values.result.now) c.names.ensures.names ∙ ap (tuple_view (tuple_names c.args.self.now)) c.values.ensures.values ∙ unzipped c.args.self.now in
    c.value_named.ensures ∙ ap (value_at c.args.name.now) own
