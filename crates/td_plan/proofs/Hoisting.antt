-- Tuples that are the same in each tuple of a loop may be put into their slots before it.
use Rattle.std.proofs.Common.{◌≡◌, ◌∙◌, ◌⊎◌, inl, inr, ◌<◌, ◌≤◌, ℕ, suc, List, [], Bool, true, false, ap, arith, refl, subst, sym, if◌then◌else◌}
use Rattle.std.proofs.lemmas.Bool.{eqb-true, lt-ltb}
use Rattle.std.specs.Prelude.{nat_eq}
use Rattle.td_eval.specs.model.OperatorValues.{on_tuple}
use Rattle.td_eval.specs.model.Worlds.{World}
use Rattle.td_plan.proofs.SlotLaws.{slot_here, slot_other}
use Rattle.td_plan.specs.declared.plan.step.Step.{Step}
use Rattle.td_plan.specs.declared.running.hand.Inside.{Inside}
use Rattle.td_plan.specs.declared.running.memo.Memo.{Memo}
use Rattle.td_plan.specs.code.Plans.{PlanTree, PlanTrees, Slots, bound, more, none, plan_value, plan_values, plan_where_bound, slots_before, with_slot}
use Rattle.td_plan.specs.code.Bindings.{IsBehind, IsHoisted}
use Rattle.td_plan.specs.code.Hands.{slots_in}
use Rattle.td_plan.specs.code.Memos.{AgreeBelow, AgreeBeside, AreWithinReach, IsMemoBelow, IsReadyBelow, IsSound, KeepsBelow, Parts}
use Rattle.td_plan.specs.code.QuickInside.{value_inside}
use Rattle.td_tree.specs.model.Outcomes.{Outcome, with_value}
use Rattle.td_value.specs.code.Views.{values_of}
use Rattle.td_value.specs.model.Values.{Tuple, Val}

-- ---- two slots

slot_other_way : (k n : ℕ) (row x : List Val) (s : Slots) → k < n → (j : ℕ) → with_slot n x (with_slot k row s) j ≡ with_slot k row (with_slot n x s) j
slot_other_way k n row x s l j = by_test (nat_eq j k) refl
  where
    by_test : (b : Bool) → nat_eq j k ≡ b → with_slot n x (with_slot k row s) j ≡ with_slot k row (with_slot n x s) j
    by_test true e =
        let here : j ≡ k = eqb-true j k e in
        slot_other j n x (with_slot k row s) (λ f. omega (arith, f, here, l)) ∙ slot_here j k row s here ∙ sym (slot_here j k row (with_slot n x s) here)
    by_test false e = rw e refl

-- it does not matter which is filled first
slots_swapped : (k n : ℕ) (row x : List Val) (s : Slots) → k < n → with_slot n x (with_slot k row s) ≡ with_slot k row (with_slot n x s)
slots_swapped k n row x s l = λ i j. slot_other_way k n row x s l j i

before_here : (k n : ℕ) (row : List Val) (s : Slots) → k < n → (j : ℕ) → slots_before n (with_slot k row s) j ≡ with_slot k row (slots_before n s) j
before_here k n row s l j = by_test (nat_eq j k) refl
  where
    by_test : (b : Bool) → nat_eq j k ≡ b → slots_before n (with_slot k row s) j ≡ with_slot k row (slots_before n s) j
    by_test true e =
        let here : j ≡ k = eqb-true j k e in
        ap (λ b. if b then with_slot k row s j else []) (lt-ltb j n (omega (arith, here, l))) ∙ slot_here j k row s here
        ∙ sym (slot_here j k row (slots_before n s) here)
    by_test false e = rw e refl

-- a slot before others is filled before or after those are emptied
slots_kept : (k n : ℕ) (row : List Val) (s : Slots) → k < n → slots_before n (with_slot k row s) ≡ with_slot k row (slots_before n s)
slots_kept k n row s l = λ i j. before_here k n row s l j i

-- ---- what is bound

beside : (reach k n : ℕ) (row : List Val) (s : Slots) → reach ≤ k → k < n → AgreeBeside reach n (with_slot k row s) s
beside reach k n row s low high = λ j side. slot_other j k row s (other j side)
  where
    other : (j : ℕ) → (j < reach) ⊎ (n ≤ j) → j ≡ k → ⊥
    other j (inl before) e = omega (arith, before, e, low)
    other j (inr after) e = omega (arith, after, e, high)

module _ (w : World) (reach k n : ℕ) (row : List Val) (low : reach ≤ k) (high : k < n) where
  -- plans that do not name the slot are bound so whatever stands there
  bound_apart : (slot : ℕ) → n ≤ slot → (ps : PlanTrees) → ((w : World) (s t : Slots) → AgreeBeside reach n s t → plan_values w s ps ≡ plan_values w t ps)
      → (s : Slots) (f : Slots → Outcome Val)
      → plan_where_bound w (with_slot k row s) slot ps f ≡ plan_where_bound w s slot ps (λ u. f (with_slot k row u))
  bound_apart slot past none apart s f = refl
  bound_apart slot past (more p ps) apart s f =
      let first : plan_value w (with_slot k row s) p ≡ plan_value w s p = (let e = apart w (with_slot k row s) s (beside reach k n row s low high) in cc) in
      let rest : (v : World) (x y : Slots) → AgreeBeside reach n x y → plan_values v x ps ≡ plan_values v y ps = λ v x y same. (let e = apart v x y same in cc) in
      λ i. with_value (first i)
      (λ v. on_tuple v (λ t.
      (ap (λ z. plan_where_bound w z (suc slot) ps f) (slots_swapped k slot row (values_of t) s (omega (arith, past, high)))
      ∙ bound_apart (suc slot) (omega (arith, past)) ps rest (with_slot slot (values_of t) s) f) i))

-- ---- in the loop

-- the value of what stands behind them, in each of its tuples
pub hoisted_value : (w : World) (inside inner : Inside) (slot reach : ℕ) (ps : PlanTrees) (p : PlanTree) (row : List Val) → reach ≤ inside.slot → inside.slot < slot
    → AreWithinReach reach slot ps → IsBehind w inside slot ps inner
    → plan_value w (with_slot inside.slot row (slots_in inside.outer.items)) (bound slot ps p) ≡ plan_value w (with_slot inner.slot row (slots_in inner.outer.items)) p
hoisted_value w inside inner slot reach ps p row low high apart behind =
    let k = inside.slot in
    let s = slots_in inside.outer.items in
    ap (λ z. plan_where_bound w z slot ps (λ u. plan_value w u p)) (slots_kept k slot row s high)
    ∙ bound_apart w reach k slot row low high slot (omega arith) ps (apart (omega (arith, low, high))) (slots_before slot s) (λ u. plan_value w u p)
    ∙ behind.2 (λ u. plan_value w (with_slot k row u) p)
    ∙ ap (λ m. plan_value w (with_slot m row (slots_in inner.outer.items)) p) (sym behind.0)

-- the memo is right in it, and may be used there
pub memo_hoisted : (ps : Parts) (w : World) (k l : ℕ) (s t : Slots) (m : Memo) → l ≡ k → AgreeBelow k s t → IsMemoBelow ps w k s m → IsMemoBelow ps w l t m
memo_hoisted ps w k l s t m at agree memo = subst (λ z. IsMemoBelow ps w z t m) (sym at) (λ u same. memo u (λ j low. agree j low ∙ same j low))

memo_back : (ps : Parts) (w : World) (k l : ℕ) (s t : Slots) (m : Memo) → l ≡ k → AgreeBelow k s t → IsMemoBelow ps w l t m → IsMemoBelow ps w k s m
memo_back ps w k l s t m at agree memo =
    let here : IsMemoBelow ps w k t m = subst (λ z. IsMemoBelow ps w z t m) at memo in
    λ u same. here u (λ j low. sym (agree j low) ∙ same j low)

pub ready_hoisted : (w : World) (inside inner : Inside) (step rest : Step) (m : Memo) → IsHoisted w inside step inner rest → ((ps : Parts) → IsSound ps step → IsSound ps rest)
    → IsReadyBelow w inside.slot (slots_in inside.outer.items) m (λ ps. IsSound ps step)
    → IsReadyBelow w inner.slot (slots_in inner.outer.items) m (λ ps. IsSound ps rest)
ready_hoisted w inside inner step rest m h sound r = record {
  parts = r.parts;
  sound = sound r.parts r.sound;
  memo = memo_hoisted r.parts w inside.slot inner.slot (slots_in inside.outer.items) (slots_in inner.outer.items) m h.slot h.outer r.memo;
}

-- what holds of the values there holds of those in the loop
pub kept_hoisted : (w : World) (inside inner : Inside) (step rest : Step) (old new : Memo) (claim : (Tuple → Outcome Val) → Type 0)
    → (ps : Parts) → IsHoisted w inside step inner rest → IsSound ps rest
    → KeepsBelow w inner.slot (slots_in inner.outer.items) old new (λ ps. IsSound ps rest) (claim (value_inside w inner rest))
    → IsMemoBelow ps w inside.slot (slots_in inside.outer.items) old
    → claim (value_inside w inside step) × IsMemoBelow ps w inside.slot (slots_in inside.outer.items) new
kept_hoisted w inside inner step rest old new claim ps h sound keeps memo =
    let s = slots_in inside.outer.items in
    let t = slots_in inner.outer.items in
    let a = keeps ps sound (memo_hoisted ps w inside.slot inner.slot s t old h.slot h.outer memo) in
    (subst claim (λ i t. sym (h.same t) i) a.0, memo_back ps w inside.slot inner.slot s t new h.slot h.outer a.1)
