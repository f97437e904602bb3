use Rattle.std.proofs.Common.{◌≡◌, ◌∙◌, suc, arith, ap, sym}
use Rattle.td_value.proofs.Made.{values_depth}
use Rattle.td_value.specs.model.Values.{Tuple, pack_parts}
use Rattle.td_value.specs.code.Depths.{depth, parts_depth, tuple_depth}
use Rattle.td_value.specs.code.Views.{node_view}
use Rattle.td_value.proofs.value.Value.level.Goals as goal

pub returns-in-Tup : goal.returns-in-Tup
returns-in-Tup c = λ found.
    let t : Tuple = c.deref-in-Tup.result.now in
    let own : suc (tuple_depth t) ≡ depth c.args.self.now = ap (λ t. suc (tuple_depth t)) c.deref-in-Tup.ensures ∙ ap depth (sym (ap node_view c.in-Tup.is) ∙ c.self.view_is) in
    let values : parts_depth (pack_parts c.values.result.now) ≡ tuple_depth t = ap (λ vs. parts_depth (pack_parts vs)) c.values.ensures.values ∙ values_depth t in
    omega (arith, own, values, c.level_of_parts-in-Tup.ensures found)
