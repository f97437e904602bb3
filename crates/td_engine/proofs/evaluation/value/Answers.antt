use Rattle.td_engine.proofs.code_lemmas.Environments.{valued_there}
use Rattle.td_eval.specs.model.DatabaseWorlds.{world_of}
use Rattle.td_tree.specs.code.TreeViews.{tree_view}
use Rattle.td_engine.proofs.evaluation.value.Goals as goal

pub returns : goal.returns
returns g c =
    let db = c.args.catalog.now.database in
    valued_there db (world_of db) c.env_with.result c.env_with.ensures c.requires.gives (tree_view c.args.expr.now) c.requires.typed c.value_in.result c.value_in.ensures
