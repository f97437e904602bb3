use Rattle.std.proofs.Common.{◌∙◌, ap, subst}
use Rattle.td_check.specs.code.Alike.{AreLike}
use Rattle.td_tree.specs.code.TreeViews.{named_view, tree_view}
use Rattle.td_tree.proofs.code_lemmas.Rows.{tuple_is}
use Rattle.td_check.proofs.alike.is_like_tuple.Goals as goal

pub returns-in-Tuple : goal.returns-in-Tuple
returns-in-Tuple c like =
    let is = ap tree_view c.in-Tuple.is ∙ tuple_is c.in-Tuple.parts in
    (named_view c.in-Tuple.parts.items, is, subst (λ ps. AreLike (named_view c.args.first.now) (named_view ps)) c.deref.ensures.value (c.are_like.ensures like))
