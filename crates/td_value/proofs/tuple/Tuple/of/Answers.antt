use Rattle.std.proofs.Common.{◌∙◌, ap, arith, length, subst, sym}
use Rattle.td_value.specs.model.Values.{AreValues, pack_parts}
use Rattle.td_value.specs.code.Zipped.{AreNames}
use Rattle.td_value.proofs.Cut.{cut_tuple}
use Rattle.td_value.proofs.tuple.Tuple.of.Goals as goal

pub lone_row-requires-clause-same : goal.lone_row-requires-clause-same
lone_row-requires-clause-same c = ap (λ v. length v.items) c.in_ok-clone.ensures.cases ∙ ap length c.names.view_is ∙ c.requires

pub lone_row-requires-clause-valid : goal.lone_row-requires-clause-valid
lone_row-requires-clause-valid c =
    let same = ap (λ v. v.items) c.in_ok-clone.ensures.cases in
    let values = subst (λ vs. AreValues (pack_parts vs)) c.deref.ensures.value c.know_values.ensures in
    cut_tuple c.in_ok-clone.field-0.value.items c.args.values.items (omega (arith, ap length (same ∙ c.names.view_is), c.requires)) (subst AreNames (sym same) c.names.invariant) values

pub returns : goal.returns
returns c =
    let same = ap (λ v. v.items) c.in_ok-clone.ensures.cases ∙ c.names.view_is in
    rw same at c.lone_row.ensures
