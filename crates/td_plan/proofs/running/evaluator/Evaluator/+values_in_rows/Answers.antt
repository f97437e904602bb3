use Rattle.std.proofs.Common.{arith, refl, rules}
use Rattle.td_eval.proofs.code_lemmas.WalkedLists.{walked_values}
use Rattle.td_plan.proofs.Hoisting.{kept_hoisted, ready_hoisted}
use Rattle.td_plan.proofs.MemoLaws.{ready_still}
use Rattle.td_plan.proofs.ValuedBelow.{lower}
use Rattle.td_plan.specs.code.Hands.{slots_in}
use Rattle.td_plan.specs.code.Runs.{all_of_type, of_type_asked, type_asked, value_in}
use Rattle.td_tree.proofs.code_lemmas.Gatherings.{collected_next}
use Rattle.td_tree.specs.model.Outcomes.{Answers}
use Rattle.td_value.specs.model.Values.{Tuple}
use Rattle.td_plan.proofs.running.evaluator.Evaluator.+values_in_rows.Goals as goal

pub values_in_rows-requires : goal.values_in_rows-requires
values_in_rows-requires g t c =
    let w = g.A.InWorld.world c.args.self.now.around.now in
    let r = c.requires.ready in
    let a = c.in-Some.ensures.kept r.parts r.sound r.memo in
    λ κs o. (
      omega (arith, c.decreases, c.in-Some.ensures.height),
      (
        o.0,
        (
          o.1,
          (
            lower (omega (arith, c.in-Some.ensures.height)) c.requires.below,
            ready_hoisted w c.args.inside.now c.in-Some.hoisted.inside c.args.step.now c.in-Some.hoisted.step.now c.hoisted_loop.new.memo a.0 c.in-Some.ensures.sound
                (ready_still c.hoisted_loop.ensures.kept r),
          ),
        ),
      ),
    )

pub returns-in-Some : goal.returns-in-Some
returns-in-Some g t c = λ ps sound m.
    let w = g.A.InWorld.world c.args.self.now.around.now in
    let a = c.in-Some.ensures.kept ps sound m in
    kept_hoisted w c.args.inside.now c.in-Some.hoisted.inside c.args.step.now c.in-Some.hoisted.step.now c.hoisted_loop.new.memo c.values_in_rows.new.memo
    (λ f. Answers (λ vs. vs.items) c.values_in_rows.result (all_of_type (type_asked c.args.ty) f c.args.rows.now))
    ps a.0 (c.in-Some.ensures.sound ps sound) c.values_in_rows.ensures a.1

pub value_in_row-value-requires-clause-ready : goal.value_in_row-value-requires-clause-ready
value_in_row-value-requires-clause-ready g t c = ready_still {old = c.hoisted_loop.new.memo} c.loop-row.invariant (ready_still c.hoisted_loop.ensures.kept c.requires.ready)

pub returns-in_err-values : goal.returns-in_err-values
returns-in_err-values g t c = λ ps sound m. (search rules, (c.hoisted_loop.ensures.kept ps sound m).1)

pub loop-row-preserved : goal.loop-row-preserved
loop-row-preserved g t c = λ ps sound m.
    let found = value_in (g.A.InWorld.world c.args.self.now.around.now) (slots_in c.args.inside.now.outer.items) c.args.inside.now.slot c.args.step.now in
    let a = c.loop-row.invariant ps sound m in
    let b = c.value_in_row-value.ensures ps sound a.1 in (
      collected_next (λ v. v) (λ (t : Tuple). of_type_asked (type_asked c.args.ty) (found t)) c.args.rows.now c.loop-row.row-index c.loop-row-test.true c.row-item.is
          a.0 (c.of_type_asked.ensures _ b.0) c.in_ok-collect.ensures,
      b.1,
    )

pub returns-in_err-collect : goal.returns-in_err-collect
returns-in_err-collect g t c = λ ps sound m.
    (search rules, (c.value_in_row-value.ensures ps sound (c.loop-row.invariant ps sound (c.hoisted_loop.ensures.kept ps sound m).1).1).1)

pub returns : goal.returns
returns g t c = λ ps sound m.
    let found = value_in (g.A.InWorld.world c.args.self.now.around.now) (slots_in c.args.inside.now.outer.items) c.args.inside.now.slot c.args.step.now in
    let a = c.loop-row.invariant ps sound (c.hoisted_loop.ensures.kept ps sound m).1 in (
      walked_values (λ (t : Tuple). of_type_asked (type_asked c.args.ty) (found t)) c.args.rows.now c.loop-row.row-index c.loop-row-test.false c.loop-row.causes c.loop-row.values c.finish.result c.finish.ensures
          a.0 _ refl,
      a.1,
    )
