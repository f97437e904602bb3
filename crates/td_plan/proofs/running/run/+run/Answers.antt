use Rattle.std.proofs.Common.{◌∙◌, ap, arith, subst, sym}
use Rattle.td_plan.proofs.StepParts.{bound_made, by_made, extend_made, made_ready, made_run, per_made, select_made}
use Rattle.td_plan.specs.code.Hands.{IsPlanWorld, slots_of, world_around}
use Rattle.td_plan.specs.code.Memos.{AreSound, Keeps}
use Rattle.td_plan.specs.code.Runs.{step_values}
use Rattle.td_tree.specs.model.Outcomes.{Answers, gathered}
use Rattle.td_plan.proofs.running.run.+run.Goals as goal

pub values_of-requires-clause-below : goal.values_of-requires-clause-below
values_of-requires-clause-below g t c =
    let made = select_made c.args.step.now c.in-Select.parts c.deref-in-Select.result.now c.deref-in-Select.ensures.value c.in-Select.selector c.in-Select.is in
    let h = made.height in
    record { callable = λ memo hand step low ready. (omega (arith, c.decreases, h, low), (λ a m. m, (subst (λ a. IsPlanWorld a) (sym c.new-inner.ensures.around) c.requires.around, ready))); values = λ memo hand step answer after p. p }

pub values_of-requires-clause-ready : goal.values_of-requires-clause-ready
values_of-requires-clause-ready g t c =
    let made = select_made c.args.step.now c.in-Select.parts c.deref-in-Select.result.now c.deref-in-Select.ensures.value c.in-Select.selector c.in-Select.is in
    made_ready made (ap world_around c.new-inner.ensures.around) c.requires.ready

pub returns-in-Select : goal.returns-in-Select
returns-in-Select g t c = λ ps sound m.
    let made = select_made c.args.step.now c.in-Select.parts c.deref-in-Select.result.now c.deref-in-Select.ensures.value c.in-Select.selector c.in-Select.is in
    let s = slots_of c.args.hand.now in
    let parts = c.deref-in-Select.result.now in
    let here = subst (λ a. Keeps (world_around a) s c.args.memo.now c.values_of.new.memo (λ ps. AreSound ps parts) (Answers (λ vs. vs.items) c.values_of.result (gathered (step_values (world_around a) s parts)))) c.new-inner.ensures.around c.values_of.ensures in
    let a = here ps (made.sound ps sound) m in
    (rw made.view (c.value_of_selector.ensures _ a.0), a.1)

pub extension-requires-clause-below : goal.extension-requires-clause-below
extension-requires-clause-below g t c =
    let made = extend_made c.args.step.now c.in-Extend.values c.deref-in-Extend-3.result.now c.deref-in-Extend-3.ensures.value c.in-Extend.operand c.deref-in-Extend.result.now c.in-Extend.attributes c.deref-in-Extend-2.result.now c.in-Extend.slot
    c.in-Extend.is c.deref-in-Extend.ensures c.deref-in-Extend-2.ensures.value in
    let h = made.height in
    record { callable = λ memo hand step low ready. (omega (arith, c.decreases, h, low), (λ a m. m, (subst (λ a. IsPlanWorld a) (sym c.new-inner.ensures.around) c.requires.around, ready))); values = λ memo hand step answer after p. p }

pub extension-requires-clause-ready : goal.extension-requires-clause-ready
extension-requires-clause-ready g t c =
    let made = extend_made c.args.step.now c.in-Extend.values c.deref-in-Extend-3.result.now c.deref-in-Extend-3.ensures.value c.in-Extend.operand c.deref-in-Extend.result.now c.in-Extend.attributes c.deref-in-Extend-2.result.now c.in-Extend.slot
    c.in-Extend.is c.deref-in-Extend.ensures c.deref-in-Extend-2.ensures.value in
    made_ready made (ap world_around c.new-inner.ensures.around) c.requires.ready

pub returns-in-Extend : goal.returns-in-Extend
returns-in-Extend g t c =
    let made = extend_made c.args.step.now c.in-Extend.values c.deref-in-Extend-3.result.now c.deref-in-Extend-3.ensures.value c.in-Extend.operand c.deref-in-Extend.result.now c.in-Extend.attributes c.deref-in-Extend-2.result.now c.in-Extend.slot
    c.in-Extend.is c.deref-in-Extend.ensures c.deref-in-Extend-2.ensures.value in
    made_run c.args.step.now _ _ _ (world_around c.new-inner.result.around.now) (world_around c.args.around.now) (slots_of c.args.hand.now) c.args.memo.now c.extension.new.memo c.extension.result made
    (ap world_around c.new-inner.ensures.around) c.extension.ensures

pub summary_per-requires-clause-below : goal.summary_per-requires-clause-below
summary_per-requires-clause-below g t c =
    let made = per_made c.args.step.now c.in-SummarizePer.values c.new-items.result.values.now (c.new-items.ensures.values ∙ c.deref-in-SummarizePer-3.ensures.value)
    c.in-SummarizePer.operand c.in-SummarizePer.per c.deref-in-SummarizePer-4.result.now c.deref-in-SummarizePer-5.result.now c.in-SummarizePer.attributes c.new-items.result.attributes.now
    c.in-SummarizePer.aggregates c.new-items.result.aggregates.now c.in-SummarizePer.slot c.new-items.result.slot c.in-SummarizePer.is c.deref-in-SummarizePer-4.ensures c.deref-in-SummarizePer-5.ensures
    (c.new-items.ensures.attributes ∙ c.deref-in-SummarizePer.ensures.value) (c.new-items.ensures.aggregates ∙ c.deref-in-SummarizePer-2.ensures.value) c.new-items.ensures.slot in
    let h = made.height in
    record { callable = λ memo hand step low ready. (omega (arith, c.decreases, h, low), (λ a m. m, (subst (λ a. IsPlanWorld a) (sym c.new-inner.ensures.around) c.requires.around, ready))); values = λ memo hand step answer after p. p }

pub summary_per-requires-clause-ready : goal.summary_per-requires-clause-ready
summary_per-requires-clause-ready g t c =
    let made = per_made c.args.step.now c.in-SummarizePer.values c.new-items.result.values.now (c.new-items.ensures.values ∙ c.deref-in-SummarizePer-3.ensures.value)
    c.in-SummarizePer.operand c.in-SummarizePer.per c.deref-in-SummarizePer-4.result.now c.deref-in-SummarizePer-5.result.now c.in-SummarizePer.attributes c.new-items.result.attributes.now
    c.in-SummarizePer.aggregates c.new-items.result.aggregates.now c.in-SummarizePer.slot c.new-items.result.slot c.in-SummarizePer.is c.deref-in-SummarizePer-4.ensures c.deref-in-SummarizePer-5.ensures
    (c.new-items.ensures.attributes ∙ c.deref-in-SummarizePer.ensures.value) (c.new-items.ensures.aggregates ∙ c.deref-in-SummarizePer-2.ensures.value) c.new-items.ensures.slot in
    made_ready made (ap world_around c.new-inner.ensures.around) c.requires.ready

pub returns-in-SummarizePer : goal.returns-in-SummarizePer
returns-in-SummarizePer g t c =
    let made = per_made c.args.step.now c.in-SummarizePer.values c.new-items.result.values.now (c.new-items.ensures.values ∙ c.deref-in-SummarizePer-3.ensures.value)
    c.in-SummarizePer.operand c.in-SummarizePer.per c.deref-in-SummarizePer-4.result.now c.deref-in-SummarizePer-5.result.now c.in-SummarizePer.attributes c.new-items.result.attributes.now
    c.in-SummarizePer.aggregates c.new-items.result.aggregates.now c.in-SummarizePer.slot c.new-items.result.slot c.in-SummarizePer.is c.deref-in-SummarizePer-4.ensures c.deref-in-SummarizePer-5.ensures
    (c.new-items.ensures.attributes ∙ c.deref-in-SummarizePer.ensures.value) (c.new-items.ensures.aggregates ∙ c.deref-in-SummarizePer-2.ensures.value) c.new-items.ensures.slot in
    made_run c.args.step.now _ _ _ (world_around c.new-inner.result.around.now) (world_around c.args.around.now) (slots_of c.args.hand.now) c.args.memo.now c.summary_per.new.memo c.summary_per.result made
    (ap world_around c.new-inner.ensures.around) c.summary_per.ensures

pub summary_by-requires-clause-below : goal.summary_by-requires-clause-below
summary_by-requires-clause-below g t c =
    let made = by_made c.args.step.now c.in-SummarizeBy.values c.new-items-in-SummarizeBy.result.values.now (c.new-items-in-SummarizeBy.ensures.values ∙ c.deref-in-SummarizeBy-3.ensures.value)
    c.in-SummarizeBy.operand c.deref-in-SummarizeBy-4.result.now c.in-SummarizeBy.by c.in-SummarizeBy.attributes c.new-items-in-SummarizeBy.result.attributes.now
    c.in-SummarizeBy.aggregates c.new-items-in-SummarizeBy.result.aggregates.now c.in-SummarizeBy.slot c.new-items-in-SummarizeBy.result.slot c.in-SummarizeBy.is c.deref-in-SummarizeBy-4.ensures
    (c.new-items-in-SummarizeBy.ensures.attributes ∙ c.deref-in-SummarizeBy.ensures.value) (c.new-items-in-SummarizeBy.ensures.aggregates ∙ c.deref-in-SummarizeBy-2.ensures.value) c.new-items-in-SummarizeBy.ensures.slot in
    let h = made.height in
    record { callable = λ memo hand step low ready. (omega (arith, c.decreases, h, low), (λ a m. m, (subst (λ a. IsPlanWorld a) (sym c.new-inner.ensures.around) c.requires.around, ready))); values = λ memo hand step answer after p. p }

pub summary_by-requires-clause-ready : goal.summary_by-requires-clause-ready
summary_by-requires-clause-ready g t c =
    let made = by_made c.args.step.now c.in-SummarizeBy.values c.new-items-in-SummarizeBy.result.values.now (c.new-items-in-SummarizeBy.ensures.values ∙ c.deref-in-SummarizeBy-3.ensures.value)
    c.in-SummarizeBy.operand c.deref-in-SummarizeBy-4.result.now c.in-SummarizeBy.by c.in-SummarizeBy.attributes c.new-items-in-SummarizeBy.result.attributes.now
    c.in-SummarizeBy.aggregates c.new-items-in-SummarizeBy.result.aggregates.now c.in-SummarizeBy.slot c.new-items-in-SummarizeBy.result.slot c.in-SummarizeBy.is c.deref-in-SummarizeBy-4.ensures
    (c.new-items-in-SummarizeBy.ensures.attributes ∙ c.deref-in-SummarizeBy.ensures.value) (c.new-items-in-SummarizeBy.ensures.aggregates ∙ c.deref-in-SummarizeBy-2.ensures.value) c.new-items-in-SummarizeBy.ensures.slot in
    made_ready made (ap world_around c.new-inner.ensures.around) c.requires.ready

pub returns-in-SummarizeBy : goal.returns-in-SummarizeBy
returns-in-SummarizeBy g t c =
    let made = by_made c.args.step.now c.in-SummarizeBy.values c.new-items-in-SummarizeBy.result.values.now (c.new-items-in-SummarizeBy.ensures.values ∙ c.deref-in-SummarizeBy-3.ensures.value)
    c.in-SummarizeBy.operand c.deref-in-SummarizeBy-4.result.now c.in-SummarizeBy.by c.in-SummarizeBy.attributes c.new-items-in-SummarizeBy.result.attributes.now
    c.in-SummarizeBy.aggregates c.new-items-in-SummarizeBy.result.aggregates.now c.in-SummarizeBy.slot c.new-items-in-SummarizeBy.result.slot c.in-SummarizeBy.is c.deref-in-SummarizeBy-4.ensures
    (c.new-items-in-SummarizeBy.ensures.attributes ∙ c.deref-in-SummarizeBy.ensures.value) (c.new-items-in-SummarizeBy.ensures.aggregates ∙ c.deref-in-SummarizeBy-2.ensures.value) c.new-items-in-SummarizeBy.ensures.slot in
    made_run c.args.step.now _ _ _ (world_around c.new-inner.result.around.now) (world_around c.args.around.now) (slots_of c.args.hand.now) c.args.memo.now c.summary_by.new.memo c.summary_by.result made
    (ap world_around c.new-inner.ensures.around) c.summary_by.ensures

pub bound-requires-clause-below : goal.bound-requires-clause-below
bound-requires-clause-below g t c =
    let made = bound_made c.args.step.now c.in-Bound.items c.deref-in-Bound.result.now c.deref-in-Bound.ensures.value c.in-Bound.slot _ c.in-Bound.value c.deref-in-Bound-2.result.now c.in-Bound.is c.deref-in-Bound-2.ensures in
    let h = made.height in
    record { callable = λ memo hand step low ready. (omega (arith, c.decreases, h, low), (λ a m. m, (subst (λ a. IsPlanWorld a) (sym c.new-inner.ensures.around) c.requires.around, ready))); values = λ memo hand step answer after p. p }

pub bound-requires-clause-ready : goal.bound-requires-clause-ready
bound-requires-clause-ready g t c =
    let made = bound_made c.args.step.now c.in-Bound.items c.deref-in-Bound.result.now c.deref-in-Bound.ensures.value c.in-Bound.slot _ c.in-Bound.value c.deref-in-Bound-2.result.now c.in-Bound.is c.deref-in-Bound-2.ensures in
    made_ready made (ap world_around c.new-inner.ensures.around) c.requires.ready

pub returns-in-Bound : goal.returns-in-Bound
returns-in-Bound g t c =
    let made = bound_made c.args.step.now c.in-Bound.items c.deref-in-Bound.result.now c.deref-in-Bound.ensures.value c.in-Bound.slot _ c.in-Bound.value c.deref-in-Bound-2.result.now c.in-Bound.is c.deref-in-Bound-2.ensures in
    made_run c.args.step.now _ _ _ (world_around c.new-inner.result.around.now) (world_around c.args.around.now) (slots_of c.args.hand.now) c.args.memo.now c.bound.new.memo c.bound.result made
    (ap world_around c.new-inner.ensures.around) c.bound.ensures
