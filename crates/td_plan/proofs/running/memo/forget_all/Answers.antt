use Rattle.std.proofs.Common.{◌≡◌, ◌∙◌, ◌<◌, ◌+◌, ℕ, None, ap, arith, length, slice_set, subst, sym}
use Rattle.std.specs.List.{slice_get}
use Rattle.std.proofs.Math.ListN.{length-set}
use borrow.Author.Count.{below_more}
use Rattle.td_plan.proofs.MemoLaws.{all_within, set_none_kept, set_none_within}
use Rattle.td_plan.specs.code.Memos.{AreKept, Reaches}
use Rattle.td_plan.proofs.running.memo.forget_all.Goals as goal
use Rattle.td_plan.proofs.running.memo.forget_all.Goals.{then-is_named_by, else-is_named_by}

pub loop-place-preserved : goal.loop-place-preserved
loop-place-preserved c =
    let count = c.loop-place.invariant.count in
    let inside : c.loop-place.place < length c.loop-place.kept.items = omega (arith, count, c.len-place-end.ensures) in
    elim c.if-is_named_by.branch [
      | then-is_named_by w ↦
          let e : c.if-is_named_by.kept.items ≡ slice_set c.loop-place.kept.items c.loop-place.place None = ap (λ v. v.items) w.kept-is ∙ w.set.ensures in
          record {
            kept = λ ps w' s h. subst (AreKept ps w' s) (sym e) (set_none_kept ps w' s c.loop-place.kept.items c.loop-place.place inside (c.loop-place.invariant.kept ps w' s h));
            count = ap length e ∙ length-set c.loop-place.kept.items c.loop-place.place None ∙ count;
            within = subst (λ xs. (j : ℕ) → j < c.loop-place.place + 1 → Reaches c.args.slot (slice_get xs j)) (sym e)
                (set_none_within c.args.slot c.loop-place.place c.loop-place.kept.items inside c.loop-place.invariant.within);
          }
      | else-is_named_by w ↦
          let e : c.if-is_named_by.kept.items ≡ c.loop-place.kept.items = ap (λ v. v.items) w.kept-is in
          record {
            kept = λ ps w' s h. subst (AreKept ps w' s) (sym e) (c.loop-place.invariant.kept ps w' s h);
            count = ap length e ∙ count;
            within = subst (λ xs. (j : ℕ) → j < c.loop-place.place + 1 → Reaches c.args.slot (slice_get xs j)) (sym e)
                (below_more (λ j. Reaches c.args.slot (slice_get c.loop-place.kept.items j)) c.loop-place.place c.loop-place.invariant.within
                (subst (λ xs. Reaches c.args.slot (slice_get xs c.loop-place.place)) c.deref.ensures.value (c.is_named_by.ensures w.if-is_named_by.false)));
          }
    ]

pub returns-clause-within : goal.returns-clause-within
returns-clause-within c =
    let past = c.loop-place-test.false in
    let count = c.loop-place.invariant.count in
    all_within c.args.slot c.loop-place.place c.loop-place.kept.items (omega (arith, past, count, c.len-place-end.ensures)) c.loop-place.invariant.within
