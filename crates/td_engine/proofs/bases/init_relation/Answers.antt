use Rattle.std.proofs.Common.{option_map, subst}
use Rattle.td_engine.specs.code.Plannable.{IsPlannableIf}
use Rattle.td_tree.specs.code.TreeViews.{tree_view}
use Rattle.td_engine.proofs.bases.init_relation.Goals as goal

pub value-requires : goal.value-requires
value-requires g c = subst (λ o. IsPlannableIf c.args.catalog.now.database (option_map (λ e. tree_view e.now) o)) c.in-Some.is c.requires
