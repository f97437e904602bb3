-- What steps are made of that have two parts or lists of parts, as the code stores them.
use Rattle.std.proofs.Common.{◌≡◌, ◌∙◌, ℕ, List, ap, refl, subst, suc, sym}
use Rattle.std.specs.Global.{Box, Vec}
use Rattle.std.specs.Prelude.{max}
use Rattle.td_eval.specs.model.Worlds.{World}
use Rattle.td_group.specs.declared.aggregates.Agg.{Agg}
use Rattle.td_plan.proofs.StepRows.{bound_is, extend_is, select_is, steps_are, summarize_by_is, summarize_per_is}
use Rattle.td_plan.specs.declared.plan.step.Dyadic.{Dyadic}
use Rattle.td_plan.specs.declared.plan.step.Selector.{Selector}
use Rattle.td_plan.specs.declared.plan.step.Selector.TheVariants as selectors
use Rattle.td_plan.specs.declared.plan.step.Step.{Step, Row_of-Step, end_of-Step, more_of-Step, items-the_row-Step, items_hidden-the_row-Step-0}
use Rattle.td_plan.specs.declared.plan.step.Step.TheVariants as p
use Rattle.td_plan.specs.declared.running.memo.Memo.{Memo}
use Rattle.td_plan.specs.code.Plans.{PlanTree, Slots, bound, dyadic, extend, plan_value, select, summarize_by, summarize_per}
use Rattle.td_plan.specs.code.Memos.{AreWithinReach, AreSound, IsMemo, IsReady, IsSound, IsSoundRow, Keeps, Parts}
use Rattle.td_plan.specs.code.Runs.{step_value}
use Rattle.td_plan.specs.code.StepHeights.{row_height, step_height, steps_height}
use Rattle.td_plan.specs.code.StepViews.{dyadic_view, selector_view, step_view, steps_row, steps_view}
use Rattle.td_tree.specs.declared.expression.Attributes.{Attributes}
use Rattle.td_tree.specs.declared.fault.Fault.{Fault}
use Rattle.td_tree.specs.code.TreeViews.{attributes_view}
use Rattle.td_tree.specs.model.Outcomes.{Answers}
use Rattle.std.specs.Prelude.{Result}
use Rattle.td_types.specs.declared.ty.Ty.{Ty}
use Rattle.td_types.specs.code.Views.{pairs_view}
use Rattle.td_value.specs.model.Values.{Val}

row_sound : (ps : Parts) (n : _) (row : Row_of-Step n) → IsSoundRow ps row → AreSound ps (items-the_row-Step n row)
row_sound ps n end_of-Step h = tt
row_sound ps n (more_of-Step first rest) h = (h.0, row_sound ps _ rest h.1)

row_high : (n : _) (row : Row_of-Step n) → row_height row ≡ steps_height (items-the_row-Step n row)
row_high n end_of-Step = refl
row_high n (more_of-Step first rest) = ap (max (step_height first)) (row_high _ rest)

abbrev element_row : Step → (n : _) × Row_of-Step n
element_row (p.Select' selector _ row) = (_, row)
element_row _ = (_, end_of-Step)

parts_sound : (ps : Parts) (v : Vec Step) → IsSoundRow ps (element_row (p.Select selectors.Relation v)).1 → AreSound ps v.items
parts_sound ps v h =
    let row = element_row (p.Select selectors.Relation v) in
    subst (AreSound ps) (items_hidden-the_row-Step-0 v) (row_sound ps row.0 row.1 h)

parts_high : (v : Vec Step) → row_height (element_row (p.Select selectors.Relation v)).1 ≡ steps_height v.items
parts_high v =
    let row = element_row (p.Select selectors.Relation v) in
    row_high row.0 row.1 ∙ ap steps_height (items_hidden-the_row-Step-0 v)

-- ---- a step of this plan, height and parts

pub record IsMade (step : Step) (tree : PlanTree) (high : ℕ) (are : Parts → Type 0) : Type 0 where
  pub view : step_view step ≡ tree
  pub height : step_height step ≡ high
  pub sound : (ps : Parts) → IsSound ps step → are ps

pub dyadic_made : (step : Step) (l r : Box Step) (d e : Step) (op k : Dyadic) → step ≡ p.Dyadic l op r → op ≡ k → d ≡ l.value → e ≡ r.value
    → IsMade step (dyadic (step_view d) (dyadic_view k) (step_view e)) (suc (max (step_height d) (step_height e))) (λ ps. IsSound ps d × IsSound ps e)
dyadic_made step l r d e op k is at left right = record {
  view = ap step_view is ∙ (λ i. dyadic (step_view (sym left i)) (dyadic_view (at i)) (step_view (sym right i)));
  height = ap step_height is ∙ (λ i. suc (max (step_height (sym left i)) (step_height (sym right i))));
  sound = λ ps h.
      let both : IsSound ps l.value × IsSound ps r.value = subst (IsSound ps) is h in
      (subst (IsSound ps) (sym left) both.0, subst (IsSound ps) (sym right) both.1);
}

module _ (step : Step) (v : Vec Step) (xs : List Step) (parts : xs ≡ v.items) where
  pub select_made : (selector : Selector) → step ≡ p.Select selector v
      → IsMade step (select (selector_view selector) (steps_view xs)) (suc (steps_height xs)) (λ ps. AreSound ps xs)
  select_made selector is = record {
    view = ap step_view is ∙ select_is selector v ∙ ap (λ zs. select (selector_view selector) (steps_view zs)) (sym parts);
    height = ap step_height is ∙ ap suc (parts_high v ∙ ap steps_height (sym parts));
    sound = λ ps h. subst (AreSound ps) (sym parts) (parts_sound ps v (subst (IsSound ps) is h));
  }

  pub extend_made : (o : Box Step) (d : Step) (ys : Vec (List ℕ × Ty)) (ts : List (List ℕ × Ty)) (slot : ℕ) → step ≡ p.Extend o ys slot v → d ≡ o.value → ts ≡ ys.items
      → IsMade step (extend (step_view d) (pairs_view ts) slot (steps_view xs)) (suc (max (step_height d) (steps_height xs))) (λ ps. IsSound ps d × AreSound ps xs)
  extend_made o d ys ts slot is operand types = record {
    view = ap step_view is ∙ extend_is o ys slot v ∙ (λ i. extend (step_view (sym operand i)) (pairs_view (sym types i)) slot (steps_view (sym parts i)));
    height = ap step_height is ∙ (λ i. suc (max (step_height (sym operand i)) ((parts_high v ∙ ap steps_height (sym parts)) i)));
    sound = λ ps h.
        let both : IsSound ps o.value × IsSoundRow ps (element_row (p.Select selectors.Relation v)).1 = subst (IsSound ps) is h in
        (subst (IsSound ps) (sym operand) both.0, subst (AreSound ps) (sym parts) (parts_sound ps v both.1));
  }

  pub per_made : (o q : Box Step) (d e : Step) (ys : Vec (List ℕ × Ty)) (ts : List (List ℕ × Ty)) (aggs : Vec Agg) (gs : List Agg) (slot k : ℕ)
      → step ≡ p.SummarizePer o q ys aggs slot v → d ≡ o.value → e ≡ q.value → ts ≡ ys.items → gs ≡ aggs.items → k ≡ slot
      → IsMade step (summarize_per (step_view d) (step_view e) (pairs_view ts) gs k (steps_view xs)) (suc (max (max (step_height d) (step_height e)) (steps_height xs)))
      (λ ps. IsSound ps d × IsSound ps e × AreSound ps xs)
  per_made o q d e ys ts aggs gs slot k is operand per types aggregates at = record {
    view = ap step_view is ∙ summarize_per_is o q ys aggs slot v
        ∙ (λ i. summarize_per (step_view (sym operand i)) (step_view (sym per i)) (pairs_view (sym types i)) (sym aggregates i) (sym at i) (steps_view (sym parts i)));
    height = ap step_height is ∙ (λ i. suc (max (max (step_height (sym operand i)) (step_height (sym per i))) ((parts_high v ∙ ap steps_height (sym parts)) i)));
    sound = λ ps h.
        let all : IsSound ps o.value × IsSound ps q.value × IsSoundRow ps (element_row (p.Select selectors.Relation v)).1 = subst (IsSound ps) is h in
        (subst (IsSound ps) (sym operand) all.0, subst (IsSound ps) (sym per) all.1, subst (AreSound ps) (sym parts) (parts_sound ps v all.2));
  }

  pub by_made : (o : Box Step) (d : Step) (by : Attributes) (ys : Vec (List ℕ × Ty)) (ts : List (List ℕ × Ty)) (aggs : Vec Agg) (gs : List Agg) (slot k : ℕ)
      → step ≡ p.SummarizeBy o by ys aggs slot v → d ≡ o.value → ts ≡ ys.items → gs ≡ aggs.items → k ≡ slot
      → IsMade step (summarize_by (step_view d) (attributes_view by) (pairs_view ts) gs k (steps_view xs)) (suc (max (step_height d) (steps_height xs)))
      (λ ps. IsSound ps d × AreSound ps xs)
  by_made o d by ys ts aggs gs slot k is operand types aggregates at = record {
    view = ap step_view is ∙ summarize_by_is o by ys aggs slot v
        ∙ (λ i. summarize_by (step_view (sym operand i)) (attributes_view by) (pairs_view (sym types i)) (sym aggregates i) (sym at i) (steps_view (sym parts i)));
    height = ap step_height is ∙ (λ i. suc (max (step_height (sym operand i)) ((parts_high v ∙ ap steps_height (sym parts)) i)));
    sound = λ ps h.
        let both : IsSound ps o.value × IsSoundRow ps (element_row (p.Select selectors.Relation v)).1 = subst (IsSound ps) is h in
        (subst (IsSound ps) (sym operand) both.0, subst (AreSound ps) (sym parts) (parts_sound ps v both.1));
  }

  pub bound_made : (slot reach : ℕ) (b : Box Step) (d : Step) → step ≡ p.Bound slot reach v b → d ≡ b.value
      → IsMade step (bound slot (steps_view xs) (step_view d)) (suc (max (steps_height xs) (step_height d))) (λ ps. AreSound ps xs × IsSound ps d)
  bound_made slot reach b d is value = record {
    view = ap step_view is ∙ bound_is slot reach v b ∙ (λ i. bound slot (steps_view (sym parts i)) (step_view (sym value i)));
    height = ap step_height is ∙ (λ i. suc (max ((parts_high v ∙ ap steps_height (sym parts)) i) (step_height (sym value i))));
    sound = λ ps h.
        let all : IsSoundRow ps (element_row (p.Select selectors.Relation v)).1 × IsSound ps b.value × AreWithinReach reach slot (steps_row (element_row (p.Select selectors.Relation v)).1) = subst (IsSound ps) is h in
        (subst (AreSound ps) (sym parts) (parts_sound ps v all.0), subst (IsSound ps) (sym value) all.1);
  }

  -- its tuples name no slot from the reach up to their own
  pub bound_apart : (slot reach : ℕ) (b : Box Step) (ps : Parts) → step ≡ p.Bound slot reach v b → IsSound ps step → AreWithinReach reach slot (steps_view xs)
  bound_apart slot reach b ps is h =
      let all : IsSoundRow ps (element_row (p.Select selectors.Relation v)).1 × IsSound ps b.value × AreWithinReach reach slot (steps_row (element_row (p.Select selectors.Relation v)).1) = subst (IsSound ps) is h in
      subst (AreWithinReach reach slot) (steps_are v ∙ ap steps_view (sym parts)) all.2

-- ---- the run of such a step

pub made_ready : {step : Step} {view : PlanTree} {height : ℕ} {are : Parts → Type 0} {w v : World} {s : Slots} {m : Memo}
    → IsMade step view height are → v ≡ w → IsReady w s m (λ ps. IsSound ps step) → IsReady v s m are
made_ready {s = s} {m = m} made e r = record { parts = r.parts; sound = made.sound r.parts r.sound; memo = subst (λ x. IsMemo r.parts x s m) (sym e) r.memo }

pub made_run : (step : Step) (view : PlanTree) (height : ℕ) (are : Parts → Type 0) (v w : World) (s : Slots) (old new : Memo) (r : Result Val Fault)
    → IsMade step view height are → v ≡ w → Keeps v s old new are (Answers (λ x. x) r (plan_value v s view))
    → Keeps w s old new (λ ps. IsSound ps step) (Answers (λ x. x) r (step_value w s step))
made_run step view height are v w s old new r made e keeps = λ ps h m.
    let here = subst (λ x. Keeps x s old new are (Answers (λ x. x) r (plan_value x s view))) e keeps in
    let a = here ps (made.sound ps h) m in
    (subst (λ q. Answers (λ x. x) r (plan_value w s q)) (sym made.view) a.0, a.1)
