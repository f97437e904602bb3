use Rattle.std.proofs.Common.{◌≡◌, ◌∙◌, ◌<◌, ◌≤◌, ◌+◌, ◌++◌, ◌∷◌, [], List, ap, arith, length, map, refl, slice_set, subst, sym, take, ℕ}
use Rattle.std.proofs.lemmas.List.{length-map, map_push}
use Rattle.std.proofs.lemmas.Result.{IfOk-weaker}
use Rattle.std.specs.Global.{Vec}
use Rattle.td_plan.proofs.EachStep.{each_all, each_next}
use Rattle.td_plan.proofs.Remembering.{all_made, all_remembered, among_but_more, bound_made, bound_remembered, inside_both_made, inside_both_remembered, inside_made, inside_remembered, kept_view, leaf_remembered, listed, ok_by_both, one_remembered, three_made, three_remembered, two_placed, two_remembered}
use Rattle.td_plan.proofs.RememberedRows.{part_deep, parts_deep, parts_sound}
use Rattle.td_plan.proofs.StepRows.{select_is, steps_are}
use Rattle.td_plan.proofs.Withins.{aggregate_on, attribute_on, bound_on, choice_on, dyadic_on, extend_on, look_up_on, monadic_on, on_more, restriction_on, select_on, summarize_by_on, summarize_per_on}
use Rattle.td_plan.specs.code.Plans as plans
use Rattle.td_plan.specs.code.Memos.{AreWithinReach, IsOn}
use Rattle.td_plan.specs.code.Remembered.{AreAllAmong, AreAmong, AreAmongBut, AreBoundNames, AreEachKept, AreEachRemembered, IsRemembered, KeepsPart}
use Rattle.td_plan.specs.code.StepHeights.{step_height}
use Rattle.td_plan.specs.code.StepViews.{dyadic_view, monadic_view, selector_view, step_view}
use Rattle.td_tree.specs.code.TreeViews.{attributes_view}
use Rattle.td_types.specs.code.Views.{pairs_view}
use Rattle.td_plan.proofs.making.remember.+remember.Goals as goal

pub both-returns : goal.both-returns
both-returns t c =
    let h = c.in_ok-first.ensures in
    let i = c.in_ok-second.ensures in
    let first = c.in_ok-first.first.items in
    let second = c.in_ok-second.second.items in
    let j = subst (λ ns. KeepsPart c.remember-2.new.places c.keep_part.new.places ns c.remember.new.step c.keep_part.new.step) c.deref-3.ensures.value c.in_ok-keep_part.ensures in
    let k = subst (λ ns. KeepsPart c.keep_part.new.places c.keep_part-2.new.places ns c.remember-2.new.step c.keep_part-2.new.step) c.deref-4.ensures.value c.in_ok-keep_part-2.ensures in
    ok_by_both c.joined.result _ _ _
    (λ names x y. record {
      left = kept_view c.remember-2.new.places c.keep_part.new.places first c.remember.new.step c.keep_part.new.step j ∙ h.view;
      right = kept_view c.keep_part.new.places c.keep_part-2.new.places second c.remember-2.new.step c.keep_part-2.new.step k ∙ i.view;
      on = (first, second, h.on, i.on, (x, subst (λ ns. AreAmong ns names.items) c.deref-5.ensures.value y));
      placed = two_placed _ _ _ _ _ first second _ _ _ _ _ _ h i j k;
    })
    c.joined.ensures.first c.joined.ensures.second

pub inside-returns : goal.inside-returns
inside-returns t c =
    let h = c.in_ok-first.ensures in
    let i = c.in_ok-second.ensures in
    let first = c.in_ok-first.first.items in
    let second = c.in_ok-second.second.items in
    let outer = c.in_ok-outer.outer.items in
    let but : AreAmongBut c.args.slot second outer = subst (λ ns. AreAmongBut c.args.slot ns outer) c.deref.ensures.value c.in_ok-outer.ensures in
    let j = subst (λ ns. KeepsPart c.remember-2.new.places c.keep_part.new.places ns c.remember.new.step c.keep_part.new.step) c.deref-2.ensures.value c.in_ok-keep_part.ensures in
    let k = subst (λ ns. KeepsPart c.keep_part.new.places c.keep_part-2.new.places ns c.remember-2.new.step c.keep_part-2.new.step) c.deref-4.ensures.value c.in_ok-keep_part-2.ensures in
    ok_by_both c.joined.result _ _ _
    (λ names x y. record {
      left = kept_view c.remember-2.new.places c.keep_part.new.places first c.remember.new.step c.keep_part.new.step j ∙ h.view;
      right = kept_view c.keep_part.new.places c.keep_part-2.new.places second c.remember-2.new.step c.keep_part-2.new.step k ∙ i.view;
      on = (first, second, h.on, i.on, (x, among_but_more c.args.slot second outer names.items but (subst (λ ns. AreAmong ns names.items) c.deref-5.ensures.value y)));
      placed = two_placed _ _ _ _ _ first second _ _ _ _ _ _ h i j k;
    })
    c.joined.ensures.first c.joined.ensures.second

pub three-returns : goal.three-returns
three-returns t c =
    let own = c.in_ok-own.own.items in
    let names = c.in_ok-names.names.items in
    let j = subst (λ ns. KeepsPart c.remember.new.places c.keep_part.new.places ns c.remember.new.step c.keep_part.new.step) c.deref-2.ensures.value c.in_ok-keep_part.ensures in
    let k = subst (λ ns. KeepsPart c.keep_part.new.places c.keep_part-2.new.places ns c.both.new.left c.keep_part-2.new.step) c.deref-4.ensures.value c.in_ok-keep_part-2.ensures in
    let l = subst (λ ns. KeepsPart c.keep_part-2.new.places c.keep_part-3.new.places ns c.both.new.right c.keep_part-3.new.step) c.deref-5.ensures.value c.in_ok-keep_part-3.ensures in
    ok_by_both c.joined.result _ _ _
    (λ all x y. three_remembered _ _ _ _ _ _ names own all.items _ _ _ _ _ _ _ _ _ c.in_ok-names.ensures c.in_ok-own.ensures j k l x
    (subst (λ ns. AreAmong ns all.items) c.deref-6.ensures.value y))
    c.joined.ensures.first c.joined.ensures.second

pub remember_all-remember-requires : goal.remember_all-remember-requires
remember_all-remember-requires t c =
    let within = c.loop-step-test.true in
    let inside : c.loop-step.step-index < length c.loop-step.step-items = omega (arith, within, c.loop-step.auto.step-items) in
    let deep = part_deep c.loop-step.step-items c.args.steps.now.items c.loop-step.step-index c.step-item.result inside c.step-item.is c.loop-step.invariant.1 in
    let same = ap step_height c.step-item.is in
    (omega (arith, c.decreases, deep, same), tt)

pub remember_all-loop-step-preserved : goal.remember_all-loop-step-preserved
remember_all-loop-step-preserved t c =
    let i = c.loop-step.step-index in
    let cur = c.loop-step.step-items in
    let old = c.args.steps.now.items in
    let items = λ (ns : Vec ℕ). ns.items in
    let names = c.in_ok-remember.field-0 in
    let so_far = map items c.loop-step.all.items in
    let lengths : length cur ≡ length old = c.loop-step.auto.step-items ∙ ap length c.deref_mut-step-items.ensures.value in
    let within = c.loop-step-test.true in
    let inside : i < length cur = omega (arith, within, c.loop-step.auto.step-items) in
    let more : map items c.push.new.self.items ≡ so_far ++ (items names ∷ []) = ap (map items) c.in_ok-push.ensures.items ∙ map_push items c.loop-step.all.items names in
    let done : IsRemembered c.loop-step.places c.remember.new.places (items names) c.step-item.result c.remember.new.step =
    subst (λ o. IsRemembered c.loop-step.places c.remember.new.places (items names) o c.remember.new.step) (sym c.step-item.is) c.in_ok-remember.ensures in
    let next =
    each_next (λ a b ns o x. IsRemembered a b ns o x) c.args.places.now c.loop-step.places c.remember.new.places so_far old cur i (items names) c.step-item.result c.remember.new.step
    inside lengths c.step-item.is c.loop-step.invariant.1 c.loop-step.invariant.0 done in
    (subst (λ nss. AreEachRemembered c.args.places.now c.remember.new.places nss (take (i + 1) old) (take (i + 1) (slice_set cur i c.remember.new.step))) (sym more) next.0, next.1)

pub remember_all-returns : goal.remember_all-returns
remember_all-returns t c =
    let cur = c.loop-step.step-items in
    let old = c.args.steps.now.items in
    let i = c.loop-step.step-index in
    let items = λ (ns : Vec ℕ). ns.items in
    let lengths : length cur ≡ length old = c.loop-step.auto.step-items ∙ ap length c.deref_mut-step-items.ensures.value in
    let past = c.loop-step-test.false in
    let far : length cur ≤ i = omega (arith, past, c.loop-step.auto.step-items) in
    each_all (λ a b ns o x. IsRemembered a b ns o x) c.args.places.now c.loop-step.places (map items c.loop-step.all.items) old cur i c.args.steps.now.len lengths
    (sym (ap length c.deref_mut-step-items.ensures.value) ∙ c.deref_mut-step-items.ensures.len) far c.loop-step.invariant.0

pub all-keep_all-requires : goal.all-keep_all-requires
all-keep_all-requires t c =
    ap length c.deref-2.ensures.value ∙ sym (length-map c.in_ok-each.each.items (λ (ns : Vec ℕ). ns.items)) ∙ (listed _ _ _ _ _ c.in_ok-each.ensures).lengths

pub all-returns : goal.all-returns
all-returns t c =
    let items = λ (ns : Vec ℕ). ns.items in
    let names = c.in_ok-names.names.items in
    all_remembered _ _ _ (map items c.in_ok-each.each.items) names _ _ _ c.in_ok-each.ensures
    (subst (λ (nss : List (Vec ℕ)). AreAllAmong (map items nss) names) c.deref.ensures.value c.in_ok-names.ensures)
    (subst (λ (nss : List (Vec ℕ)). AreEachKept c.remember_all.new.places c.keep_all.new.places (map items nss) c.remember_all.new.steps.items c.keep_all.new.steps.items) c.deref-2.ensures.value
    c.in_ok-keep_all.ensures)

pub all_inside-keep_all-requires : goal.all_inside-keep_all-requires
all_inside-keep_all-requires t c =
    ap length c.deref-5.ensures.value ∙ sym (length-map c.in_ok-each.each.items (λ (ns : Vec ℕ). ns.items)) ∙ (listed _ _ _ _ _ c.in_ok-each.ensures).lengths

pub all_inside-returns : goal.all_inside-returns
all_inside-returns t c =
    let items = λ (ns : Vec ℕ). ns.items in
    let first = c.in_ok-first.first.items in
    let inner = c.in_ok-inner.inner.items in
    let outer = c.in_ok-outer.outer.items in
    ok_by_both c.joined.result _ _ _
    (λ names x y. inside_remembered _ _ _ _ _ c.args.slot first (map items c.in_ok-each.each.items) inner outer names.items _ _ _ _ _ _ c.in_ok-first.ensures c.in_ok-each.ensures
    (subst (λ (nss : List (Vec ℕ)). AreAllAmong (map items nss) inner) c.deref.ensures.value c.in_ok-inner.ensures)
    (subst (λ ns. AreAmongBut c.args.slot ns outer) c.deref-2.ensures.value c.in_ok-outer.ensures)
    (subst (λ ns. KeepsPart c.remember_all.new.places c.keep_part.new.places ns c.remember.new.step c.keep_part.new.step) c.deref-3.ensures.value c.in_ok-keep_part.ensures)
    (subst (λ (nss : List (Vec ℕ)). AreEachKept c.keep_part.new.places c.keep_all.new.places (map items nss) c.remember_all.new.steps.items c.keep_all.new.steps.items) c.deref-5.ensures.value
    c.in_ok-keep_all.ensures)
    x (subst (λ ns. AreAmong ns names.items) c.deref-6.ensures.value y))
    c.joined.ensures.first c.joined.ensures.second

pub all_inside_both-returns : goal.all_inside_both-returns
all_inside_both-returns t c =
    let first = c.in_ok-first.first.items in
    let second = c.in_ok-second.second.items in
    ok_by_both c.joined.result _ _ _
    (λ names x y. inside_both_remembered _ _ _ _ _ c.args.slot first second names.items _ _ _ _ _ _ _ _ c.in_ok-first.ensures c.in_ok-second.ensures
    (subst (λ ns. KeepsPart c.remember.new.places c.keep_part.new.places ns c.remember.new.step c.keep_part.new.step) c.deref-2.ensures.value c.in_ok-keep_part.ensures)
    (subst (λ ns. KeepsPart c.keep_part.new.places c.keep_part-2.new.places ns c.all_inside.new.operand c.keep_part-2.new.step) c.deref-4.ensures.value c.in_ok-keep_part-2.ensures)
    x (subst (λ ns. AreAmong ns names.items) c.deref-5.ensures.value y))
    c.joined.ensures.first c.joined.ensures.second

pub named_step-returns-in-Constant : goal.named_step-returns-in-Constant
named_step-returns-in-Constant t c = c.step_with_names.ensures _ _ c.args.step (leaf_remembered c.args.places.now c.new.result.items c.args.step _ (ap step_view
    (sym c.in-Constant.is))
    (λ w s t agree. rw (ap step_view c.in-Constant.is) refl) (λ ps. tt))

pub named_step-returns-in-Refused : goal.named_step-returns-in-Refused
named_step-returns-in-Refused t c = c.step_with_names-in-Refused.ensures _ _ c.args.step
    (leaf_remembered c.args.places.now c.new-in-Refused.result.items c.args.step _ (ap step_view (sym c.in-Refused.is))
    (λ w s t agree. rw (ap step_view c.in-Refused.is) refl) (λ ps. tt))

pub named_step-returns-in-Relvar : goal.named_step-returns-in-Relvar
named_step-returns-in-Relvar t c = c.step_with_names-in-Relvar.ensures _ _ c.args.step (leaf_remembered c.args.places.now c.new-in-Relvar.result.items c.args.step _
    (ap step_view (sym c.in-Relvar.is))
    (λ w s t agree. rw (ap step_view c.in-Relvar.is) refl) (λ ps. tt))

pub named_step-returns-in-Attribute : goal.named_step-returns-in-Attribute
named_step-returns-in-Attribute t c =
    let k = c.in-Attribute.slot in
    let view = ap step_view (sym c.in-Attribute.is) in
    c.step_with_names-in-Attribute.ensures _ _ c.args.step (IfOk-weaker c.one.result _ _ (λ result h.
    leaf_remembered c.args.places.now result.items c.args.step _ view
    (subst (λ ns. IsOn ns (step_view c.args.step)) (sym h) (subst (IsOn (k ∷ [])) view (attribute_on k c.in-Attribute.place))) (λ ps. tt)) c.one.ensures)

pub named_step-returns-in-LookUp : goal.named_step-returns-in-LookUp
named_step-returns-in-LookUp t c =
    let key = c.in-LookUp.key.items in
    c.step_with_names-in-LookUp.ensures _ _ c.args.step (IfOk-weaker c.remember-names.result _ _ (λ result h.
    let names = result.items in
    one_remembered (plans.look_up c.in-LookUp.relvar key) _ _ names (look_up_on names c.in-LookUp.relvar key) _ _ _ _ h
    (ap step_view c.in-LookUp.is ∙ (λ i. plans.look_up c.in-LookUp.relvar key (step_view (sym c.deref_mut.ensures.value i)))) refl
    (λ ps s. s)) c.remember-names.ensures)

pub named_step-returns-in-Monadic : goal.named_step-returns-in-Monadic
named_step-returns-in-Monadic t c =
    let op = monadic_view c.in-Monadic.op in
    c.step_with_names-in-Monadic.ensures _ _ c.args.step (IfOk-weaker c.remember-names-in-Monadic.result _ _ (λ result h.
    let names = result.items in
    one_remembered (plans.monadic op) _ _ names (monadic_on names op) _ _ _ _ h
    (ap step_view c.in-Monadic.is ∙ (λ i. plans.monadic op (step_view (sym c.deref_mut-in-Monadic.ensures.value i)))) refl
    (λ ps s. s)) c.remember-names-in-Monadic.ensures)

pub named_step-returns-in-Dyadic : goal.named_step-returns-in-Dyadic
named_step-returns-in-Dyadic t c =
    let op = dyadic_view c.in-Dyadic.op in
    c.step_with_names-in-Dyadic.ensures _ _ c.args.step (IfOk-weaker c.both-names.result _ _ (λ result h.
    let names = result.items in
    two_remembered (λ p q. plans.dyadic p op q) (λ x y. AreAmong x names × AreAmong y names) _ _ names
    (λ x y p q among f g. dyadic_on names p op q (on_more x names p among.0 f) (on_more y names q among.1 g)) _ _ _ _ _ _ h
    (ap step_view c.in-Dyadic.is ∙ (λ i. plans.dyadic (step_view (sym c.deref_mut-in-Dyadic.ensures.value i)) op (step_view
    (sym c.deref_mut-in-Dyadic-2.ensures.value i)))) refl (λ ps s. s)) c.both-names.ensures)

pub named_step-returns-in-If : goal.named_step-returns-in-If
named_step-returns-in-If t c =
    c.step_with_names-in-If.ensures _ _ c.args.step (IfOk-weaker c.three-names.result _ _ (λ result h.
    let names = result.items in
    three_made plans.choice _ _ names (choice_on names) _ _ _ _ _ _ _ _ h
    (ap step_view c.in-If.is ∙ (λ i. plans.choice (step_view (sym c.deref_mut-in-If.ensures.value i)) (step_view
    (sym c.deref_mut-in-If-2.ensures.value i)) (step_view (sym c.deref_mut-in-If-3.ensures.value i)))) refl (λ ps s. s)) c.three-names.ensures)

pub named_step-returns-in-Select : goal.named_step-returns-in-Select
named_step-returns-in-Select t c =
    let selector = c.in-Select.selector in
    c.step_with_names-in-Select.ensures _ _ c.args.step (IfOk-weaker c.all-names.result _ _ (λ result h.
    let names = result.items in
    all_made (plans.select (selector_view selector)) _ _ names (select_on names (selector_view selector)) _ _ _ _ h
    (ap step_view c.in-Select.is ∙ select_is selector c.in-Select.parts) (select_is selector c.all-names.new.steps)
    (λ ps s. parts_sound ps c.all-names.new.steps s)) c.all-names.ensures)

pub named_step-returns-in-Restriction : goal.named_step-returns-in-Restriction
named_step-returns-in-Restriction t c =
    let slot = c.in-Restriction.slot in
    c.step_with_names-in-Restriction.ensures _ _ c.args.step (IfOk-weaker c.inside-names.result _ _ (λ result h.
    let names = result.items in
    two_remembered (λ p q. plans.restriction p slot q) (λ x y. AreAmong x names × AreAmongBut slot y names) _ _ names
    (λ x y p q among f g. restriction_on names y slot among.1 p q (on_more x names p among.0 f) g) _ _ _ _ _ _ h
    (ap step_view c.in-Restriction.is ∙ (λ i. plans.restriction (step_view (sym c.deref_mut-in-Restriction.ensures.value i)) slot (step_view
    (sym c.deref_mut-in-Restriction-2.ensures.value i)))) refl (λ ps s. s)) c.inside-names.ensures)

pub named_step-returns-in-Aggregate : goal.named_step-returns-in-Aggregate
named_step-returns-in-Aggregate t c =
    let slot = c.in-Aggregate.slot in
    let op = c.in-Aggregate.op in
    c.step_with_names-in-Aggregate.ensures _ _ c.args.step (IfOk-weaker c.inside-names-in-Aggregate.result _ _ (λ result h.
    let names = result.items in
    two_remembered (λ p q. plans.aggregate op p slot q) (λ x y. AreAmong x names × AreAmongBut slot y names) _ _ names
    (λ x y p q among f g. aggregate_on names y slot among.1 op p q (on_more x names p among.0 f) g) _ _ _ _ _ _ h
    (ap step_view c.in-Aggregate.is ∙ (λ i. plans.aggregate op (step_view (sym c.deref_mut-in-Aggregate.ensures.value i)) slot (step_view
    (sym c.deref_mut-in-Aggregate-2.ensures.value i)))) refl (λ ps s. s)) c.inside-names-in-Aggregate.ensures)

pub named_step-returns-in-Extend : goal.named_step-returns-in-Extend
named_step-returns-in-Extend t c =
    let slot = c.in-Extend.slot in
    let attributes = pairs_view c.in-Extend.columns.items in
    c.step_with_names-in-Extend.ensures _ _ c.args.step (IfOk-weaker c.all_inside-names.result _ _ (λ result h.
    let names = result.items in
    inside_made (λ p qs. plans.extend p attributes slot qs) _ _ slot names
    (λ inner p qs among f g. extend_on names inner slot among p attributes qs f g) _ _ _ _ _ _ h
    (ap step_view c.in-Extend.is ∙ (λ i. plans.extend (step_view (sym c.deref_mut-in-Extend.ensures.value i)) attributes slot
    (steps_are c.in-Extend.values i))) (ap (plans.extend (step_view c.all_inside-names.new.operand) attributes slot) (steps_are c.all_inside-names.new.steps))
    (λ ps s. (s.0, parts_sound ps c.all_inside-names.new.steps s.1))) c.all_inside-names.ensures)

pub named_step-returns-in-SummarizeBy : goal.named_step-returns-in-SummarizeBy
named_step-returns-in-SummarizeBy t c =
    let slot = c.in-SummarizeBy.slot in
    let by = attributes_view c.in-SummarizeBy.by in
    let attributes = pairs_view c.in-SummarizeBy.columns.items in
    let aggregates = c.in-SummarizeBy.aggregates.items in
    c.step_with_names-in-SummarizeBy.ensures _ _ c.args.step (IfOk-weaker c.all_inside-names-in-SummarizeBy.result _ _ (λ result h.
    let names = result.items in
    inside_made (λ p qs. plans.summarize_by p by attributes aggregates slot qs) _ _ slot names
    (λ inner p qs among f g. summarize_by_on names inner slot among p by attributes aggregates qs f g) _ _ _ _ _ _ h
    (ap step_view c.in-SummarizeBy.is ∙ (λ i. plans.summarize_by (step_view
    (sym c.deref_mut-in-SummarizeBy.ensures.value i)) by attributes aggregates slot (steps_are c.in-SummarizeBy.values i)))
    (ap (plans.summarize_by (step_view c.all_inside-names-in-SummarizeBy.new.operand) by attributes aggregates slot)
    (steps_are c.all_inside-names-in-SummarizeBy.new.steps))
    (λ ps s. (s.0, parts_sound ps c.all_inside-names-in-SummarizeBy.new.steps s.1))) c.all_inside-names-in-SummarizeBy.ensures)

pub named_step-returns-in-SummarizePer : goal.named_step-returns-in-SummarizePer
named_step-returns-in-SummarizePer t c =
    let slot = c.in-SummarizePer.slot in
    let attributes = pairs_view c.in-SummarizePer.columns.items in
    let aggregates = c.in-SummarizePer.aggregates.items in
    c.step_with_names-in-SummarizePer.ensures _ _ c.args.step (IfOk-weaker c.all_inside_both-names.result _ _ (λ result h.
    let names = result.items in
    inside_both_made (λ p q qs. plans.summarize_per p q attributes aggregates slot qs) _ _ slot names
    (λ inner p q qs among f g h. summarize_per_on names inner slot among p q attributes aggregates qs f g h) _ _ _ _ _ _ _ _ h
    (ap step_view c.in-SummarizePer.is ∙ (λ i. plans.summarize_per (step_view (sym c.deref_mut-in-SummarizePer.ensures.value i)) (step_view
    (sym c.deref_mut-in-SummarizePer-2.ensures.value i)) attributes aggregates slot (steps_are c.in-SummarizePer.values i)))
    (ap (plans.summarize_per (step_view c.all_inside_both-names.new.operand) (step_view c.all_inside_both-names.new.per) attributes aggregates slot)
    (steps_are c.all_inside_both-names.new.steps))
    (λ ps s. (s.0, s.1, parts_sound ps c.all_inside_both-names.new.steps s.2))) c.all_inside_both-names.ensures)

pub named_step-all-names-requires : goal.named_step-all-names-requires
named_step-all-names-requires t c =
    let is = ap step_height c.in-Select.is in
    let parts = parts_deep c.in-Select.parts in
    (omega (arith, c.decreases, is, parts), tt)

pub named_step-all_inside-names-requires : goal.named_step-all_inside-names-requires
named_step-all_inside-names-requires t c =
    let is = ap step_height c.in-Extend.is in
    let parts = parts_deep c.in-Extend.values in
    let operand = ap step_height c.deref_mut-in-Extend.ensures.value in
    (omega (arith, c.decreases, is, parts, operand), tt)

pub named_step-all_inside-names-requires-in-SummarizeBy : goal.named_step-all_inside-names-requires-in-SummarizeBy
named_step-all_inside-names-requires-in-SummarizeBy t c =
    let is = ap step_height c.in-SummarizeBy.is in
    let parts = parts_deep c.in-SummarizeBy.values in
    let operand = ap step_height c.deref_mut-in-SummarizeBy.ensures.value in
    (omega (arith, c.decreases, is, parts, operand), tt)

pub named_step-all_inside_both-names-requires : goal.named_step-all_inside_both-names-requires
named_step-all_inside_both-names-requires t c =
    let is = ap step_height c.in-SummarizePer.is in
    let parts = parts_deep c.in-SummarizePer.values in
    let operand = ap step_height c.deref_mut-in-SummarizePer.ensures.value in
    let per = ap step_height c.deref_mut-in-SummarizePer-2.ensures.value in
    (omega (arith, c.decreases, is, parts, operand, per), tt)

pub all_bound-keep_all-requires : goal.all_bound-keep_all-requires
all_bound-keep_all-requires t c =
    ap length c.deref-5.ensures.value ∙ sym (length-map c.in_ok-each.each.items (λ (ns : Vec ℕ). ns.items)) ∙ (listed _ _ _ _ _ c.in_ok-each.ensures).lengths

pub all_bound-returns : goal.all_bound-returns
all_bound-returns t c =
    let items = λ (ns : Vec ℕ). ns.items in
    let own = c.in_ok-own.own.items in
    let slot = c.args.slot in
    let names = c.in_ok-bound.bound.names.items in
    let reach = c.in_ok-bound.bound.reach in
    bound_remembered _ _ _ _ _ slot reach own (map items c.in_ok-each.each.items) names _ _ _ _ _ _ c.in_ok-own.ensures c.in_ok-each.ensures
    (subst (λ (nss : List (Vec ℕ)). AreBoundNames slot (map items nss) own names reach) c.deref.ensures.value
    (subst (λ ns. AreBoundNames slot (map items c.deref.result.now) ns names reach) c.deref-2.ensures.value c.in_ok-bound.ensures))
    (subst (λ ns. KeepsPart c.remember_all.new.places c.keep_part.new.places ns c.remember.new.step c.keep_part.new.step) c.deref-4.ensures.value c.in_ok-keep_part.ensures)
    (subst (λ (nss : List (Vec ℕ)). AreEachKept c.keep_part.new.places c.keep_all.new.places (map items nss) c.remember_all.new.steps.items c.keep_all.new.steps.items) c.deref-5.ensures.value
    c.in_ok-keep_all.ensures)

pub bound-returns : goal.bound-returns
bound-returns t c =
    let names = c.in_ok-bound.bound.names.items in
    let slot = c.args.slot in
    let reach = c.in_ok-bound.bound.reach in
    λ was.
    bound_made (λ ps p. plans.bound slot ps p) _ _ slot reach names (λ inner ps p before f g. bound_on names inner slot before ps p f g) _ _ _ _ _ _ c.in_ok-bound.ensures
    (λ i. plans.bound slot (steps_are c.args.items i) (step_view (sym c.deref_mut.ensures.value i)))
    (ap (λ ps. plans.bound slot ps (step_view c.all_bound.new.value)) (steps_are c.all_bound.new.items))
    (λ ps s. (parts_sound ps c.all_bound.new.items s.0.0, s.0.1, subst (AreWithinReach reach slot) (sym (steps_are c.all_bound.new.items)) s.1))

pub named_step-bound-requires : goal.named_step-bound-requires
named_step-bound-requires t c =
    let is = ap step_height c.in-Bound.is in
    let parts = parts_deep c.in-Bound.items in
    (omega (arith, c.decreases, is, parts), tt)

pub named_step-returns-in-Bound : goal.named_step-returns-in-Bound
named_step-returns-in-Bound t c =
    IfOk-weaker c.bound.result _ _ (λ named h.
    subst (λ s. IsRemembered c.args.places.now c.bound.new.places named.names.items s named.step) (sym c.in-Bound.is) (h c.in-Bound.reach)) c.bound.ensures

pub remember-returns-in-Some : goal.remember-returns-in-Some
remember-returns-in-Some t c = IfOk-weaker c.in-Some.names _ _ (λ names h. h c.args.places.now) c.in-Some.ensures
