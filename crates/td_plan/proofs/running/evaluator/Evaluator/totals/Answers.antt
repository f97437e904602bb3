use Rattle.std.proofs.Common.{arith, length, map, refl, rules, sym, ◌<◌}
use Rattle.std.proofs.lemmas.Option.{get_or_from_slice_get}
use Rattle.std.specs.Global.{Vec}
use Rattle.std.specs.List.{zip}
use Rattle.td_eval.proofs.code_lemmas.WalkedLists.{walked}
use Rattle.td_eval.specs.code.Totals.{total_of, total_view}
use Rattle.td_group.specs.declared.aggregates.Agg.{Agg}
use Rattle.td_plan.proofs.SoundSteps.{sound_at}
use Rattle.td_plan.proofs.StepHeights.{height_part}
use Rattle.td_plan.proofs.SummaryLaws.{as_many_items, item_at}
use Rattle.td_plan.proofs.ValuedBelow.{lower}
use Rattle.td_plan.specs.code.Hands.{slots_in}
use Rattle.td_plan.specs.code.Runs.{values_in}
use Rattle.td_tree.proofs.code_lemmas.Gatherings.{collected_next}
use Rattle.td_value.specs.model.Values.{Val}
use Rattle.td_plan.proofs.running.evaluator.Evaluator.totals.Goals as goal

pub values_in_groups-values-requires-clause-ready : goal.values_in_groups-values-requires-clause-ready
values_in_groups-values-requires-clause-ready g c =
    let r = c.requires.ready in record {
      parts = r.parts;
      sound = sound_at r.parts c.args.steps.now c.loop-place.place c.index-steps-place.result (omega (arith, c.item_count-count.ensures.steps)) c.index-steps-place.is r.sound;
      memo = (c.loop-place.invariant r.parts r.sound r.memo).1;
    }

pub values_in_groups-values-requires-clause-below : goal.values_in_groups-values-requires-clause-below
values_in_groups-values-requires-clause-below g c = lower (height_part c.args.steps.now c.loop-place.place c.index-steps-place.result (omega (arith, c.item_count-count.ensures.steps)) c.index-steps-place.is) c.requires.below

pub loop-place-preserved : goal.loop-place-preserved
loop-place-preserved g c = λ ps sound m.
    let l = c.loop-place in
    let w = g.A.InWorld.world c.args.self.now.around.now in
    let s = slots_in c.args.inside.now.outer.items in
    let k = c.args.inside.now.slot in
    let items = zip c.args.aggregates.now (values_in w s k c.args.steps.now) in
    let count = as_many_items w c.args.aggregates.now c.args.steps.now s k in
    let inside : l.place < length (zip c.args.aggregates.now c.args.steps.now) = omega (arith, c.item_count-count.ensures.count) in
    let a = l.invariant ps sound m in
    let b = c.values_in_groups-values.ensures ps (sound_at ps c.args.steps.now l.place c.index-steps-place.result (omega (arith, c.item_count-count.ensures.steps)) c.index-steps-place.is sound) a.1 in (
      collected_next total_view (total_of c.args.groups.now) items l.place
          (omega (arith, count, inside))
          (item_at w c.args.aggregates.now c.args.steps.now s k l.place c.aggregate_at-asked.result c.index-steps-place.result inside (sym (get_or_from_slice_get c.args.aggregates.now l.place c.aggregate_at-asked.result c.aggregate_at-asked.result c.aggregate_at-asked.ensures)) c.index-steps-place.is)
          a.0 (c.with_aggregate.ensures _ b.0) c.in_ok-collect.ensures,
      b.1,
    )

pub returns-in_err-collect : goal.returns-in_err-collect
returns-in_err-collect g c = λ ps sound m.
    let a = c.loop-place.invariant ps sound m in
    (search rules, (c.values_in_groups-values.ensures ps (sound_at ps c.args.steps.now c.loop-place.place c.index-steps-place.result (omega (arith, c.item_count-count.ensures.steps)) c.index-steps-place.is sound) a.1).1)

pub returns : goal.returns
returns g c = λ ps sound m.
    let w = g.A.InWorld.world c.args.self.now.around.now in
    let s = slots_in c.args.inside.now.outer.items in
    let count = as_many_items w c.args.aggregates.now c.args.steps.now s c.args.inside.now.slot in
    let a = c.loop-place.invariant ps sound m in (
      walked (λ (ts : Vec (Agg × Vec (Vec Val))). map total_view ts.items) (total_of c.args.groups.now) (zip c.args.aggregates.now (values_in w s c.args.inside.now.slot c.args.steps.now))
          c.loop-place.place (omega (arith, count, c.item_count-count.ensures.count)) c.loop-place.causes c.loop-place.totals c.finish.result c.finish.ensures a.0 _ refl,
      a.1,
    )
