-- What comes of putting the tuples that steps have into slots.
use Rattle.std.proofs.Common.{◌≡◌, ◌∙◌, ◌+◌, ◌<◌, ◌≤◌, ℕ, zero, List, [], ◌∷◌, ap, arith, drop, get_or, length, refl, subst, sym, Ok, Err}
use Rattle.std.proofs.lemmas.List.{at_drop_more}
use Rattle.std.specs.Prelude.{suc, Option}
use Rattle.td_eval.proofs.code_lemmas.OpValues.{refused_then}
use Rattle.td_eval.specs.model.OperatorValues.{on_tuple}
use Rattle.td_eval.specs.model.Worlds.{World}
use Rattle.td_plan.proofs.SlotLaws.{agree_below}
use Rattle.td_plan.specs.declared.plan.step.Step.{Step}
use Rattle.td_plan.specs.declared.running.memo.Memo.{Memo}
use Rattle.td_plan.specs.code.Plans.{PlanTrees, Slots, more, none, plan_where_bound, with_slot}
use Rattle.td_plan.specs.code.Bindings.{IsEntered, where_in_slot}
use Rattle.td_plan.specs.code.Hands.{slots_in}
use Rattle.td_plan.specs.code.Memos.{AgreeBelow, IsMemo, Parts}
use Rattle.td_plan.specs.code.Runs.{step_value}
use Rattle.td_plan.specs.code.StepViews.{step_view, steps_view}
use Rattle.td_tree.specs.declared.fault.Fault.{Fault}
use Rattle.td_tree.specs.declared.fault.Fault.TheVariants as faults
use Rattle.td_tree.specs.model.Outcomes.{Answers, Outcome, Refused, Valued, with_value}
use Rattle.td_types.proofs.OutcomeLaws.{valued_is}
use Rattle.td_value.specs.code.Views.{values_of}
use Rattle.td_value.specs.model.Values.{Tuple, Val, boolean, char, integer, relation, tuple, unpack_fields, user}

-- ---- a value that is a tuple, or is none

pub tupled : (v : Val) (t : Tuple) (k : Tuple → Outcome Val) → on_tuple v Valued ≡ Valued t → on_tuple v k ≡ k t
tupled (boolean b) t k e = absurd (cc)
tupled (integer z) t k e = absurd (cc)
tupled (char s) t k e = absurd (cc)
tupled (user n ps) t k e = absurd (cc)
tupled (tuple fs) t k e = ap k (valued_is (unpack_fields fs) t e)
tupled (relation h rs) t k e = absurd (cc)

pub untupled : {X : Type 0} (view : X → Tuple) (f : Fault) (v : Val) (k : Tuple → Outcome Val)
    → Answers view (Err f) (on_tuple v Valued) → Answers {X = Val} (λ v. v) (Err f) (on_tuple v k)
untupled view faults.Memory v k a = tt
untupled view (faults.Refused c) (boolean b) k a = a
untupled view (faults.Refused c) (integer z) k a = a
untupled view (faults.Refused c) (char t) k a = a
untupled view (faults.Refused c) (user n ps) k a = a
untupled view (faults.Refused c) (tuple fs) k a = absurd (cc)
untupled view (faults.Refused c) (relation h rs) k a = a

-- ---- one item

module _ (ps : Parts) (w : World) (slot : ℕ) (s : Slots) (item : Step) where
  -- where it is a tuple
  pub item_entered : (v : Val) (t : Tuple) (rows : List (Option Tuple)) (m : Memo) → step_value w s item ≡ Valued v → on_tuple v Valued ≡ Valued t
      → slots_in rows ≡ with_slot slot (values_of t) s → ((u : Slots) → AgreeBelow slot s u → IsMemo ps w u m)
      → IsEntered ps w slot s (where_in_slot w s slot item) (Ok tt) rows m
  item_entered v t rows m valued is_tuple put memo =
      let agree : AgreeBelow slot s (slots_in rows) = subst (AgreeBelow slot s) (sym put) (agree_below slot (values_of t) s) in (
        λ inside.
            ap (λ o. with_value o (λ v. on_tuple v (λ t. inside (with_slot slot (values_of t) s)))) valued
            ∙ tupled v t (λ t. inside (with_slot slot (values_of t) s)) is_tuple ∙ ap inside (sym put),
        agree,
        memo (slots_in rows) agree,
      )

  -- where that is what is known of its value
  pub item_kept : (t : Tuple) (rows : List (Option Tuple)) (m : Memo) → with_value (step_value w s item) (λ v. on_tuple v Valued) ≡ Valued t
      → slots_in rows ≡ with_slot slot (values_of t) s → ((u : Slots) → AgreeBelow slot s u → IsMemo ps w u m)
      → IsEntered ps w slot s (where_in_slot w s slot item) (Ok tt) rows m
  item_kept t rows m known put memo = by_outcome (step_value w s item) refl
    where
      by_outcome : (o : Outcome Val) → step_value w s item ≡ o → IsEntered ps w slot s (where_in_slot w s slot item) (Ok tt) rows m
      by_outcome (Valued v) is = item_entered v t rows m is (subst (λ o. with_value o (λ v. on_tuple v Valued) ≡ Valued t) is known) put memo
      by_outcome (Refused c) is = absurd (let no : Refused c ≡ Valued t = subst (λ o. with_value o (λ v. on_tuple v Valued) ≡ Valued t) is known in cc)

  -- where it has no value
  pub item_refused : (f : Fault) (rows : List (Option Tuple)) (m : Memo) → Answers {X = Val} (λ v. v) (Err f) (step_value w s item) → IsMemo ps w s m
      → IsEntered ps w slot s (where_in_slot w s slot item) (Err f) rows m
  item_refused f rows m a memo = (
    λ inside. refused_then (λ (v : Val). v) (λ (v : Val). v) f (step_value w s item) (λ v. on_tuple v (λ t. inside (with_slot slot (values_of t) s))) a,
    (s, λ j l. refl, memo),
  )

  -- where its value is none
  pub item_untupled : {X : Type 0} (view : X → Tuple) (f : Fault) (v : Val) (rows : List (Option Tuple)) (m : Memo) → step_value w s item ≡ Valued v
      → Answers view (Err f) (on_tuple v Valued) → IsMemo ps w s m → IsEntered ps w slot s (where_in_slot w s slot item) (Err f) rows m
  item_untupled view f v rows m valued a memo = (
    λ inside.
        subst (λ o. Answers {X = Val} (λ v. v) (Err f) (with_value o (λ v. on_tuple v (λ t. inside (with_slot slot (values_of t) s))))) (sym valued)
        (untupled view f v (λ t. inside (with_slot slot (values_of t) s)) a),
    (s, λ j l. refl, memo),
  )

-- where there was no memory
pub no_memory : (ps : Parts) (w : World) (slot : ℕ) (s : Slots) (outcome : (Slots → Outcome Val) → Outcome Val) (rows : List (Option Tuple)) (m : Memo)
    → IsMemo ps w s m → IsEntered ps w slot s outcome (Err faults.Memory) rows m
no_memory ps w slot s outcome rows m memo = (λ inside. tt, (s, λ j l. refl, memo))

-- ---- one more item

-- the item at a place, and those behind it
pub items_here : (items : List Step) (i : ℕ) (item : Step) → i < length items → item ≡ get_or items i item
    → steps_view (drop i items) ≡ more (step_view item) (steps_view (drop (i + 1) items))
items_here items i item l is = at_drop_more steps_view items i item l ∙ ap (λ y. steps_view (y ∷ drop (i + 1) items)) (sym is)

pub none_left : (items : List Step) (i : ℕ) → length items ≤ i → steps_view (drop i items) ≡ none
none_left [] zero l = refl
none_left [] (suc i) l = refl
none_left (item ∷ items) zero l = absurd (omega (arith, l))
none_left (item ∷ items) (suc i) l = none_left items i (omega (arith, l))

-- what the items so far have done: the rest goes on in these rows, from the next slot on
abbrev pub GoesOn : Parts → World → ℕ → Slots → PlanTrees → ℕ → PlanTrees → List (Option Tuple) → Memo → Type 0
GoesOn ps w slot s all next rest rows m =
    ((inside : Slots → Outcome Val) → plan_where_bound w s slot all inside ≡ plan_where_bound w (slots_in rows) next rest inside)
    × AgreeBelow slot s (slots_in rows) × IsMemo ps w (slots_in rows) m

module _ (ps : Parts) (w : World) (slot : ℕ) (s : Slots) (all : PlanTrees) (next : ℕ) (item : Step) (rest : PlanTrees) (old : List (Option Tuple)) (m : Memo)
    (low : slot ≤ next) (so_far : GoesOn ps w slot s all next (more (step_view item) rest) old m) where
  pub next_entered : (rows : List (Option Tuple)) (n : Memo) → IsEntered ps w next (slots_in old) (where_in_slot w (slots_in old) next item) (Ok tt) rows n
      → GoesOn ps w slot s all (suc next) rest rows n
  next_entered rows n entered = (
    λ inside. so_far.0 inside ∙ entered.0 (λ u. plan_where_bound w u (suc next) rest inside),
    λ j l. so_far.1 j l ∙ entered.1 j (omega (arith, l, low)),
    entered.2,
  )

  pub next_refused : (f : Fault) (rows : List (Option Tuple)) (n : Memo)
      → IsEntered ps w next (slots_in old) (where_in_slot w (slots_in old) next item) (Err f) rows n
      → IsEntered ps w slot s (plan_where_bound w s slot all) (Err f) rows n
  next_refused f rows n entered = (
    λ inside. subst (Answers {X = Val} (λ v. v) (Err f)) (sym (so_far.0 inside)) (entered.0 (λ u. plan_where_bound w u (suc next) rest inside)),
    (entered.1.0, λ j l. so_far.1 j l ∙ entered.1.1 j (omega (arith, l, low)), entered.1.2),
  )
