use Rattle.std.proofs.Common.{◌≡◌, ◌∙◌, ap, sym}
use Rattle.std.specs.Ordering.{ordering_then}
use Rattle.std.specs.declared.cmp.Ordering.TheVariants.{Equal}
use Rattle.std.proofs.lemmas.Cmp.{tied_itself}
use Rattle.td_types.specs.model.Types.{attrs_cmp, pack, tuple}
use Rattle.td_types.specs.code.TypeOrder.{type_cmp_total}
use Rattle.td_value.specs.model.Values.{pack_rows, rows_cmp}
use Rattle.td_value.proofs.Rows.{rows_order-lists}
use Rattle.td_value.proofs.laws.relations_compare_by_rows.Goals as goal

pub returns : goal.returns
returns c = λ r s h.
    let tied : attrs_cmp (pack r.heading) (pack s.heading) ≡ Equal = ap (λ g. attrs_cmp (pack r.heading) (pack g)) (sym h) ∙ tied_itself type_cmp_total (tuple (pack r.heading)) in
    ap (λ o. ordering_then o (rows_cmp (pack_rows r.body) (pack_rows s.body))) tied ∙ rows_order-lists r.body s.body
