use Rattle.std.proofs.Common.{sym, subst}
use Rattle.td_engine.proofs.code_lemmas.Turning.{ok_map}
use Rattle.td_engine.specs.model.Machine.{effect_in, step_of}
use Rattle.td_engine.specs.code.Steps.{Does}
use Rattle.td_engine.specs.code.Transactions.{transaction_view}
use Rattle.td_tree.specs.code.TreeViews.{statement_view}
use Rattle.td_engine.proofs.engine.Engine.execute.Goals as goal

pub returns-in-Some-clause-done : goal.returns-in-Some-clause-done
returns-in-Some-clause-done g c =
    let s = statement_view c.args.statement in
    let old = c.args.self.now in
    let new = c.transact.new.self in
    let t = c.in-Some.transaction in
    ok_map (λ a. Does (step_of old (effect_in old (transaction_view t))) a new) (λ a. Does (step_of old (effect_in old s)) a new)
    (λ a d. subst (λ v. Does (step_of old (effect_in old v)) a new) (sym c.in-Some.ensures.some) d) c.transact.result c.transact.ensures.done
