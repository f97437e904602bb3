use Rattle.std.proofs.Common.{◌∙◌, ap, not, sym}
use Rattle.td_plan.proofs.Pushed.{names_kept}
use Rattle.td_tree.specs.code.TreeViews.{tree_view}
use Rattle.td_plan.proofs.rewriting.push.names_only.Goals as goal

pub returns : goal.returns
returns c = λ e.
    names_kept c.args.heading.now c.args.other.now (tree_view c.args.expr.now) c.deref.result.now (c.deref.ensures.value ∙ c.in_ok-names.ensures.names)
    (ap not (sym c.one_is_missing.ensures) ∙ e)
