use Rattle.std.proofs.Common.{◌∙◌, ap}
use Rattle.std.specs.Ordering.{ordering_then}
use Rattle.std.proofs.lemmas.Cmp.{nat_list_cmp_total, tied_itself}
use Rattle.td_value.specs.model.Values.{pack_parts, parts_cmp}
use Rattle.td_value.proofs.Rows.{parts_order-lists}
use Rattle.td_value.proofs.laws.user_values_compare_by_components.Goals as goal

pub returns : goal.returns
returns c = λ n vs ws. ap (λ o. ordering_then o (parts_cmp (pack_parts vs) (pack_parts ws))) (tied_itself nat_list_cmp_total n) ∙ parts_order-lists vs ws
