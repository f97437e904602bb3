use Rattle.std.proofs.Common.{subst}
use Rattle.td_engine.proofs.code_lemmas.ImageForms.{extension_is_image}
use Rattle.td_engine.specs.laws.Additions.{IsImageOf, NameNone}
use Rattle.td_tree.specs.code.TreeViews.{named_view, tree_view}
use Rattle.td_engine.proofs.added.+is_image.Goals as goal

pub returns-then-name_none : goal.returns-then-name_none
returns-then-name_none t c = λ e.
    let relvar = c.args.relvar.now in
    let reached = c.args.reached.now in
    extension_is_image relvar reached c.args.expr.now c.in-Extend.operand c.in-Extend.parts c.in-Extend.is
    (subst (λ x. IsImageOf relvar reached (tree_view x)) c.deref-then-name_none.ensures (c.is_image-then-name_none.ensures e))
    (subst (λ ps. NameNone reached (named_view ps)) c.deref-in-Extend.ensures.value (c.name_none.ensures c.if-name_none.true))
