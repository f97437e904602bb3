use Rattle.std.proofs.Common.{List, ap, rules, ℕ}
use Rattle.std.specs.Global.{Vec}
use Rattle.std.specs.List.{zip}
use Rattle.td_algebra.specs.code.Columns.{columns_view}
use Rattle.td_algebra.specs.declared.extension.Column.{Column}
use Rattle.td_eval.proofs.code_lemmas.WalkedColumns.{beside_at, beside_past, beside_within}
use Rattle.td_eval.proofs.code_lemmas.WalkedLists.{walked}
use Rattle.td_eval.specs.code.NewColumns.{column_view}
use Rattle.td_plan.proofs.RunLaws.{column_found, columns_are}
use Rattle.td_plan.proofs.SoundSteps.{sound_at}
use Rattle.td_plan.proofs.StepHeights.{height_part}
use Rattle.td_plan.proofs.ValuedBelow.{lower}
use Rattle.td_plan.specs.code.Hands.{slots_in}
use Rattle.td_plan.specs.declared.plan.step.Step.{Step}
use Rattle.td_tree.proofs.code_lemmas.Gatherings.{collected_next}
use Rattle.td_tree.specs.model.Outcomes.{gathered}
use Rattle.td_types.specs.declared.ty.Ty.{Ty}
use Rattle.td_plan.proofs.running.evaluator.Evaluator.columns.Goals as goal

pub values_in_rows-values-requires-clause-ready : goal.values_in_rows-values-requires-clause-ready
values_in_rows-values-requires-clause-ready g c =
    let r = c.requires.ready in record {
      parts = r.parts;
      sound = sound_at r.parts c.args.steps.now c.loop-place.place c.index-steps-place.result c.loop-place-test.true c.index-steps-place.is r.sound;
      memo = (c.loop-place.invariant r.parts r.sound r.memo).1;
    }

pub values_in_rows-values-requires-clause-below : goal.values_in_rows-values-requires-clause-below
values_in_rows-values-requires-clause-below g c = lower (height_part c.args.steps.now c.loop-place.place c.index-steps-place.result c.loop-place-test.true c.index-steps-place.is) c.requires.below

pub loop-place-preserved : goal.loop-place-preserved
loop-place-preserved g c = λ ps sound m.
    let l = c.loop-place in
    let w = g.A.InWorld.world c.args.self.now.around.now in
    let s = slots_in c.args.inside.now.outer.items in
    let z : (List ℕ × Ty) × Step = (c.index-attributes-place.result, c.index-steps-place.result) in
    let a = l.invariant ps sound m in
    let b = c.values_in_rows-values.ensures ps (sound_at ps c.args.steps.now l.place z.1 c.loop-place-test.true c.index-steps-place.is sound) a.1 in (
      collected_next column_view (column_found w s c.args.inside.now.slot c.args.rows.now) (zip c.args.attributes.now c.args.steps.now) l.place
          (beside_within c.args.attributes.now c.args.steps.now l.place c.requires.lengths c.loop-place-test.true)
          (beside_at c.args.attributes.now c.args.steps.now l.place z.0 z.1 c.requires.lengths c.loop-place-test.true c.index-attributes-place.is c.index-steps-place.is)
          a.0 (c.named_column.ensures _ b.0) c.in_ok-collect.ensures,
      b.1,
    )

pub returns-in_err-collect : goal.returns-in_err-collect
returns-in_err-collect g c = λ ps sound m.
    let a = c.loop-place.invariant ps sound m in
    (search rules, (c.values_in_rows-values.ensures ps (sound_at ps c.args.steps.now c.loop-place.place c.index-steps-place.result c.loop-place-test.true c.index-steps-place.is sound) a.1).1)

pub returns : goal.returns
returns g c = λ ps sound m.
    let w = g.A.InWorld.world c.args.self.now.around.now in
    let s = slots_in c.args.inside.now.outer.items in
    let a = c.loop-place.invariant ps sound m in (
      walked (λ (cs : Vec (List ℕ × Column)). columns_view cs.items) (column_found w s c.args.inside.now.slot c.args.rows.now) (zip c.args.attributes.now c.args.steps.now) c.loop-place.place
          (beside_past c.args.attributes.now c.args.steps.now c.loop-place.place c.requires.lengths c.loop-place-test.false)
          c.loop-place.causes c.loop-place.columns c.finish.result c.finish.ensures a.0 _
          (ap gathered (columns_are w s c.args.inside.now.slot c.args.rows.now c.args.attributes.now c.args.steps.now)),
      a.1,
    )
