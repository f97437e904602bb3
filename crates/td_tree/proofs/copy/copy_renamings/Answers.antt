use Rattle.std.proofs.Common.{◌∙◌, ap, [], ◌∷◌, ◌++◌, map}
use Rattle.std.proofs.lemmas.List.{map_push}
use Rattle.td_tree.proofs.code_lemmas.Pushes.{one_more}
use Rattle.td_tree.specs.code.TreeViews.{renaming_view}
use Rattle.td_tree.proofs.copy.copy_renamings.Goals as goal

pub loop-renaming-preserved : goal.loop-renaming-preserved
loop-renaming-preserved c =
    ap (map renaming_view) c.in_ok-push.ensures.items
    ∙ one_more (map renaming_view) (λ r. renaming_view r ∷ []) ◌++◌ (map_push renaming_view) c.deref-renaming-items.result.now c.loop-renaming.copy.items c.loop-renaming.renaming-index
    c.renaming-item.result _ c.loop-renaming.invariant c.loop-renaming-test.true c.renaming-item.is (cc (c.in_ok-old.ensures, c.in_ok-new.ensures))
