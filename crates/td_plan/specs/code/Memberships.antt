-- Tuples that are made of parts in each tuple of a loop (this project's own).
use Rattle.std.specs.Global.{Vec}
use Rattle.std.specs.Prelude.{◌≡◌, ◌<◌, ℕ, ℤ, Bool, List, [], ◌∷◌, ◌++◌, Option, get_or, length}
use Rattle.std.specs.declared.cmp.Ordering.TheVariants.{Less}
use Rattle.std.specs.Ordering.{int_cmp}
use Rattle.std.specs.List.{zip}
use Rattle.td_eval.specs.model.OperatorValues.{comparison_value, tuple_from}
use Rattle.td_eval.specs.model.Worlds.{World}
use Rattle.td_plan.specs.declared.plan.step.Step.{Step}
use Rattle.td_plan.specs.declared.running.hand.Batch.{Batch}
use Rattle.td_plan.specs.declared.running.hand.Inside.{Inside}
use Rattle.td_plan.specs.declared.running.memo.Memo.{Memo}
use Rattle.td_plan.specs.code.Plans.{Slots}
use Rattle.td_plan.specs.code.Hands.{slots_inside}
use Rattle.td_plan.specs.code.Memos.{AreSound, IsMemo, Parts}
use Rattle.td_plan.specs.code.Quick.{AreQuick}
use Rattle.td_plan.specs.code.QuickInside.{IsMemoInside}
use Rattle.td_plan.specs.code.Runs.{step_values}
use Rattle.td_tree.specs.declared.operator.Comparison.TheVariants as comparisons
use Rattle.td_tree.specs.model.Outcomes.{Outcome, Valued, gathered, with_value}
use Rattle.td_value.specs.model.Values.{Relation, Tuple, Val, boolean, relation_value, tuple_value}

-- the tuple that gives the names the values of the parts
abbrev pub tuple_in_slots : World → Slots → List (List ℕ) → List Step → Outcome Val
tuple_in_slots w s names parts = with_value (gathered (step_values w s parts)) (λ vs. tuple_from (zip names vs))

-- the same, where a tuple of a loop is in scope
abbrev pub tuple_inside : World → Inside → List (List ℕ) → List Step → Tuple → Outcome Val
tuple_inside w inside names parts t = tuple_in_slots w (slots_inside inside t) names parts

-- it is put after others, where what is kept is right
abbrev pub IsPutInHand : Memo → Slots → List (List ℕ) → List Step → List Tuple → List Tuple → Type 0
IsPutInHand memo s names parts before after =
    (t : Tuple) × (after ≡ before ++ t ∷ [])
    × ((ps : Parts) (w : World) → AreSound ps parts → IsMemo ps w s memo → tuple_in_slots w s names parts ≡ Valued (tuple_value t))

-- where some truth values are found, they are those of IN the relation, for such tuples
abbrev pub AreMemberships : Batch → List (List ℕ) → List Step → Relation → Option (Vec Bool) → Type 0
AreMemberships batch names parts rel found =
    (ps : Parts) (w : World) → AreSound ps parts → IsMemoInside ps w batch.inside.now batch.memo.now
    → AreQuick boolean (λ t. with_value (tuple_inside w batch.inside.now names parts t) (λ v. comparison_value comparisons.In v (relation_value rel)))
    batch.rows.now found

-- all members before the place are below the number
abbrev pub AreAllBelow : List ℤ → ℕ → ℤ → Type 0
AreAllBelow members place number = (k : ℕ) (d : ℤ) → k < place → k < length members → int_cmp (get_or members k d) number ≡ Less
