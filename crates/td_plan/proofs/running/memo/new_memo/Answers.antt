use Rattle.std.proofs.Common.{None, subst, sym}
use Rattle.td_plan.proofs.MemoLaws.{each_pushed}
use Rattle.td_plan.specs.code.Memos.{AreKept, AreWithin, IsKept, Reaches}
use Rattle.td_plan.proofs.running.memo.new_memo.Goals as goal

pub loop-place-preserved : goal.loop-place-preserved
loop-place-preserved c = record {
  kept = λ ps w s. subst (AreKept ps w s) (sym c.in_ok-push.ensures.items)
      (each_pushed (λ j o. IsKept w s (ps j) o) c.loop-place.kept.items None (λ j. tt) (λ j. tt) (c.loop-place.invariant.kept ps w s));
  within = λ d. subst (AreWithin d) (sym c.in_ok-push.ensures.items)
      (each_pushed (λ j o. Reaches d o) c.loop-place.kept.items None (λ j. tt) (λ j. tt) (c.loop-place.invariant.within d));
}

pub returns : goal.returns
returns c = λ ps w s. (c.loop-place.invariant.kept ps w s, c.loop-place.invariant.within 0)
