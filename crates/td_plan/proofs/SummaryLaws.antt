-- What the run of SUMMARIZE goes through.
use Rattle.std.proofs.Common.{◌≡◌, ◌<◌, ℕ, zero, suc, List, [], ◌∷◌, Err, ap, arith, get_or, length, map, refl}
use Rattle.std.specs.List.{zip}
use Rattle.td_eval.specs.model.OperatorValues.{on_relation, on_relations}
use Rattle.td_eval.specs.model.Worlds.{World}
use Rattle.td_group.specs.declared.aggregates.Agg.{Agg}
use Rattle.td_plan.specs.declared.plan.step.Step.{Step}
use Rattle.td_plan.specs.code.Plans.{Slots}
use Rattle.td_plan.specs.code.Runs.{value_in, values_in}
use Rattle.td_tree.specs.declared.fault.Fault.{Fault}
use Rattle.td_tree.specs.declared.fault.Fault.TheVariants as faults
use Rattle.td_tree.specs.model.Outcomes.{Answers, Outcome, Valued, gathered}
use Rattle.td_value.specs.model.Values.{Relation, Tuple, Val, boolean, char, integer, relation, tuple, user}

module _ (w : World) where
  -- the values of a step in the tuples of a group
  abbrev pub group_found : Slots → ℕ → Step → Tuple × Relation → Outcome (List Val)
  group_found s k step g = gathered (map (value_in w s k step) g.1.body)

  -- there are as many items as aggregates with steps
  pub as_many_items : (gs : List Agg) (steps : List Step) (s : Slots) (k : ℕ) → length (zip gs (values_in w s k steps)) ≡ length (zip gs steps)
  as_many_items [] steps s k = refl
  as_many_items (g ∷ gs) [] s k = refl
  as_many_items (g ∷ gs) (p ∷ steps) s k = ap suc (as_many_items gs steps s k)

  -- the item at a place
  pub item_at : (gs : List Agg) (steps : List Step) (s : Slots) (k : ℕ) (i : ℕ) (g : Agg) (p : Step)
      → i < length (zip gs steps) → g ≡ get_or gs i g → p ≡ get_or steps i p
      → (g, value_in w s k p) ≡ get_or (zip gs (values_in w s k steps)) i (g, value_in w s k p)
  item_at [] steps s k i g p inside is at = absurd (omega (arith, inside))
  item_at (h ∷ gs) [] s k i g p inside is at = absurd (omega (arith, inside))
  item_at (h ∷ gs) (q ∷ steps) s k zero g p inside is at = λ j. (is j, value_in w s k (at j))
  item_at (h ∷ gs) (q ∷ steps) s k (suc i) g p inside is at = item_at gs steps s k i g p (omega (arith, inside)) is at

-- values that are not both relations
pub relations_refused : {X : Type 0} (v u : Val) (k : Relation → Relation → Outcome Val) (view : X → Relation × Relation) (f : Fault)
    → Answers view (Err f) (on_relation v (λ r. on_relation u (λ s. Valued (r, s)))) → Answers {X = Val} (λ v. v) (Err f) (on_relations v u k)
relations_refused v u k view faults.Memory a = tt
relations_refused (boolean b) u k view (faults.Refused c) a = a
relations_refused (integer z) u k view (faults.Refused c) a = a
relations_refused (char t) u k view (faults.Refused c) a = a
relations_refused (user n ps) u k view (faults.Refused c) a = a
relations_refused (tuple fs) u k view (faults.Refused c) a = a
relations_refused (relation h rs) (boolean b) k view (faults.Refused c) a = a
relations_refused (relation h rs) (integer z) k view (faults.Refused c) a = a
relations_refused (relation h rs) (char t) k view (faults.Refused c) a = a
relations_refused (relation h rs) (user n ps) k view (faults.Refused c) a = a
relations_refused (relation h rs) (tuple fs) k view (faults.Refused c) a = a
relations_refused (relation h rs) (relation g ss) k view (faults.Refused c) a = absurd (cc)
