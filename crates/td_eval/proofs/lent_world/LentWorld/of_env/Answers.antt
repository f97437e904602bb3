use Rattle.td_eval.proofs.code_lemmas.VirtualValues.{all_known}
use Rattle.td_eval.specs.code.LentWorlds.{other_in}
use Rattle.td_eval.proofs.lent_world.LentWorld.of_env.Goals as goal

pub returns-clause-exact : goal.returns-clause-exact
returns-clause-exact g c =
    let env = c.args.env.now in
    all_known (other_in env) env.catalog.now.database c.virtual_count.result c.virtual_count.ensures
