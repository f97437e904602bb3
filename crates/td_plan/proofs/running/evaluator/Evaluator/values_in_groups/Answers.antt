use Rattle.std.proofs.Common.{map, refl, rules, subst}
use Rattle.std.specs.Global.{Vec}
use Rattle.td_eval.proofs.code_lemmas.WalkedLists.{walked}
use Rattle.td_plan.proofs.SummaryLaws.{group_found}
use Rattle.td_plan.specs.code.Hands.{slots_in}
use Rattle.td_plan.specs.code.Runs.{value_in}
use Rattle.td_tree.proofs.code_lemmas.Gatherings.{collected_next}
use Rattle.td_tree.specs.model.Outcomes.{Answers, gathered}
use Rattle.td_value.specs.model.Values.{Val}
use Rattle.td_plan.proofs.MemoLaws.{ready_still}
use Rattle.td_plan.proofs.running.evaluator.Evaluator.values_in_groups.Goals as goal

pub values_in_rows-found-requires-clause-ready : goal.values_in_rows-found-requires-clause-ready
values_in_rows-found-requires-clause-ready g c = ready_still c.loop-group.invariant c.requires.ready

pub loop-group-preserved : goal.loop-group-preserved
loop-group-preserved g c = λ ps sound m.
    let w = g.A.InWorld.world c.args.self.now.around.now in
    let s = slots_in c.args.inside.now.outer.items in
    let a = c.loop-group.invariant ps sound m in
    let b = c.values_in_rows-found.ensures ps sound a.1 in
    let answers = subst (λ ts. Answers (λ (vs : Vec Val). vs.items) c.values_in_rows-found.result (gathered (map (value_in w s c.args.inside.now.slot c.args.step.now) ts))) c.rows.ensures.rows b.0 in (
      collected_next (λ (vs : Vec Val). vs.items) (group_found w s c.args.inside.now.slot c.args.step.now) c.args.groups.now c.loop-group.group-index c.loop-group-test.true c.loop-group-item.is
          a.0 answers c.in_ok-collect.ensures,
      b.1,
    )

pub returns-in_err-collect : goal.returns-in_err-collect
returns-in_err-collect g c = λ ps sound m. (search rules, (c.values_in_rows-found.ensures ps sound (c.loop-group.invariant ps sound m).1).1)

pub returns : goal.returns
returns g c = λ ps sound m.
    let a = c.loop-group.invariant ps sound m in (
      walked (λ (vss : Vec (Vec Val)). map (λ vs. vs.items) vss.items) (group_found (g.A.InWorld.world c.args.self.now.around.now) (slots_in c.args.inside.now.outer.items) c.args.inside.now.slot c.args.step.now) c.args.groups.now
          c.loop-group.group-index c.loop-group-test.false c.loop-group.causes c.loop-group.values c.finish.result c.finish.ensures a.0 _ refl,
      a.1,
    )
