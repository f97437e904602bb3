use Rattle.std.proofs.Common.{ℕ, List}
use Rattle.std.specs.Global.{Vec}
use Rattle.td_eval.proofs.code_lemmas.WalkedLists.{walked}
use Rattle.td_eval.proofs.code_lemmas.WalkedTotals.{attributes_are}
use Rattle.td_eval.specs.code.Totals.{attribute_found}
use Rattle.td_types.specs.declared.ty.Ty.{Ty}
use Rattle.td_types.specs.code.Pairs.{pair_view}
use Rattle.td_types.specs.code.Views.{pairs_view}
use Rattle.td_tree.proofs.code_lemmas.Gatherings.{collected_next}
use Rattle.td_eval.proofs.operators.summaries.item_attributes.Goals as goal

pub loop-item-preserved : goal.loop-item-preserved
loop-item-preserved c =
    collected_next pair_view (attribute_found c.args.scope.now) c.args.items.now c.loop-item.item-index c.loop-item-test.true c.item-item.is
    c.loop-item.invariant c.item_attribute.ensures c.in_ok-collect.ensures

pub returns : goal.returns
returns c =
    walked (λ (v : Vec (List ℕ × Ty)). pairs_view v.items) (attribute_found c.args.scope.now) c.args.items.now c.loop-item.item-index c.loop-item-test.false
    c.loop-item.causes c.loop-item.attributes c.finish.result c.finish.ensures c.loop-item.invariant _ (attributes_are c.args.scope.now c.args.items.now)
