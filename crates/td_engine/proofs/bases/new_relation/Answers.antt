use Rattle.std.proofs.Common.{subst, sym}
use Rattle.td_check.proofs.StatementAnswers.{given_is}
use Rattle.td_engine.specs.code.Plannable.{IsPlannableIf}
use Rattle.td_tree.specs.code.TreeViews.{tree_view}
use Rattle.td_engine.proofs.bases.new_relation.Goals as goal

pub init_relation-requires : goal.init_relation-requires
init_relation-requires g c =
    subst (IsPlannableIf c.args.catalog.now.database)
    (sym (given_is tree_view c.as_ref.result c.args.definition.now.init c.as_ref.ensures.value)) c.requires
