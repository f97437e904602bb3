use Rattle.std.proofs.Common.{refl, rules}
use Rattle.td_eval.proofs.code_lemmas.WalkedLists.{walked_values}
use Rattle.td_plan.specs.code.Hands.{slots_in}
use Rattle.td_plan.specs.code.Runs.{value_in}
use Rattle.td_tree.proofs.code_lemmas.Gatherings.{collected_next}
use Rattle.td_value.specs.model.Values.{Tuple}
use Rattle.td_eval.specs.model.OperatorValues.{truth_value}
use Rattle.td_plan.proofs.MemoLaws.{ready_still}
use Rattle.td_plan.proofs.running.evaluator.Evaluator.truths_by_row.Goals as goal

pub truth_in_row-requires-clause-ready : goal.truth_in_row-requires-clause-ready
truth_in_row-requires-clause-ready g c = ready_still c.loop-row.invariant c.requires.ready

pub loop-row-preserved : goal.loop-row-preserved
loop-row-preserved g c = λ ps sound m.
    let found = value_in (g.A.InWorld.world c.args.self.now.around.now) (slots_in c.args.inside.now.outer.items) c.args.inside.now.slot c.args.condition.now in
    let a = c.loop-row.invariant ps sound m in
    let b = c.truth_in_row.ensures ps sound a.1 in (
      collected_next (λ v. v) (λ (t : Tuple). truth_value (found t)) c.args.rows.now c.loop-row.row-index c.loop-row-test.true c.row-item.is
          a.0 b.0 c.in_ok-collect.ensures,
      b.1,
    )

pub returns-in_err-collect : goal.returns-in_err-collect
returns-in_err-collect g c = λ ps sound m. (search rules, (c.truth_in_row.ensures ps sound (c.loop-row.invariant ps sound m).1).1)

pub returns : goal.returns
returns g c = λ ps sound m.
    let found = value_in (g.A.InWorld.world c.args.self.now.around.now) (slots_in c.args.inside.now.outer.items) c.args.inside.now.slot c.args.condition.now in
    let a = c.loop-row.invariant ps sound m in (
      walked_values (λ (t : Tuple). truth_value (found t)) c.args.rows.now c.loop-row.row-index c.loop-row-test.false c.loop-row.causes c.loop-row.truths c.finish.result c.finish.ensures
          a.0 _ refl,
      a.1,
    )
