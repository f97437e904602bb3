use Rattle.std.proofs.Common.{◌∙◌, ap, length, sym}
use Rattle.std.proofs.lemmas.List.{length-map}
use Rattle.td_value.specs.model.Values.{Tuple, tuple_names}
use Rattle.td_value.proofs.Zips.{unzipped, IsTuple-from}
use Rattle.td_value.proofs.tuple.from_sorted.Goals as goal

pub lone_row-requires-clause-same : goal.lone_row-requires-clause-same
lone_row-requires-clause-same c =
    let es : Tuple = c.args.entries.items in
    let names = ap (λ v. v.items) c.in_ok-names.ensures.ok ∙ c.in_ok-names_of.ensures ∙ ap tuple_names c.deref.ensures.value in
    ap length names ∙ length-map es (λ e. e.0) ∙ sym (length-map es (λ e. e.1)) ∙ sym (ap length c.in_ok-values.ensures.values)

pub lone_row-requires-clause-valid : goal.lone_row-requires-clause-valid
lone_row-requires-clause-valid c =
    let es : Tuple = c.args.entries.items in
    let names = ap (λ v. v.items) c.in_ok-names.ensures.ok ∙ c.in_ok-names_of.ensures ∙ ap tuple_names c.deref.ensures.value in
    rw (names, c.in_ok-values.ensures.values, unzipped es) (IsTuple-from es c.in_ok-values.ensures.valid c.requires)

pub returns : goal.returns
returns c =
    let es : Tuple = c.args.entries.items in
    let names = ap (λ v. v.items) c.in_ok-names.ensures.ok ∙ c.in_ok-names_of.ensures ∙ ap tuple_names c.deref.ensures.value in
    rw (names, c.in_ok-values.ensures.values, unzipped es) at c.lone_row.ensures
