-- What is found without causes where tuples are in scope, and inside a loop (this project's own).
use Rattle.std.specs.Global.{Vec}
use Rattle.std.specs.Prelude.{Bool, List, Option}
use Rattle.td_eval.specs.model.OperatorValues.{comparison_value}
use Rattle.td_eval.specs.model.Worlds.{World}
use Rattle.td_plan.specs.declared.plan.step.Step.{Step}
use Rattle.td_plan.specs.declared.running.hand.Batch.{Batch}
use Rattle.td_plan.specs.declared.running.hand.Hand.{Hand}
use Rattle.td_plan.specs.declared.running.hand.Inside.{Inside}
use Rattle.td_plan.specs.declared.running.memo.Memo.{Memo}
use Rattle.td_plan.specs.code.Hands.{slots_in, slots_of}
use Rattle.td_plan.specs.code.Memos.{IsMemo, IsMemoBelow, IsSound, Parts}
use Rattle.td_plan.specs.code.Quick.{AreQuick, IsQuick}
use Rattle.td_plan.specs.code.Runs.{step_value, value_in}
use Rattle.td_tree.specs.declared.operator.Comparison.{Comparison}
use Rattle.td_tree.specs.model.Outcomes.{Outcome, with_both}
use Rattle.td_value.specs.model.Values.{Tuple, Val, boolean}

-- where something is found, it is the value of the step
abbrev pub IsQuickIn : {X : Type 0} → (X → Val) → Memo → Hand → Step → Option X → Type 0
IsQuickIn view memo hand step found =
    (ps : Parts) (w : World) → IsSound ps step → IsMemo ps w (slots_of hand) memo → IsQuick view found (step_value w (slots_of hand) step)

-- it is the truth value of the comparison of the steps
abbrev pub IsComparedIn : Memo → Hand → Step → Comparison → Step → Option Bool → Type 0
IsComparedIn memo hand left op right found =
    (ps : Parts) (w : World) → IsSound ps left → IsSound ps right → IsMemo ps w (slots_of hand) memo
    → IsQuick boolean found (with_both (step_value w (slots_of hand) left) (step_value w (slots_of hand) right) (comparison_value op))

-- the value of a step in a tuple of the loop
abbrev pub value_inside : World → Inside → Step → Tuple → Outcome Val
value_inside w inside step t = value_in w (slots_in inside.outer.items) inside.slot step t

-- what is kept is so in each tuple of the loop
abbrev pub IsMemoInside : Parts → World → Inside → Memo → Type 0
IsMemoInside ps w inside m = IsMemoBelow ps w inside.slot (slots_in inside.outer.items) m

-- where some are found in tuples of the loop, they are the values of the step there
abbrev pub AreQuickInside : {X : Type 0} → (X → Val) → Memo → Inside → Step → List Tuple → Option (Vec X) → Type 0
AreQuickInside view memo inside step ts found =
    (ps : Parts) (w : World) → IsSound ps step → IsMemoInside ps w inside memo → AreQuick view (value_inside w inside step) ts found

-- the same of tuples that are looked at in one place
abbrev pub FoundIn : {X : Type 0} → (X → Val) → Batch → Step → Option (Vec X) → Type 0
FoundIn view batch step found = AreQuickInside view batch.memo.now batch.inside.now step batch.rows.now found

-- they are the truth values of the comparison of the steps
abbrev pub AreComparedIn : Batch → Step → Comparison → Step → Option (Vec Bool) → Type 0
AreComparedIn batch left op right found =
    (ps : Parts) (w : World) → IsSound ps left → IsSound ps right → IsMemoInside ps w batch.inside.now batch.memo.now
    → AreQuick boolean (λ t. with_both (value_inside w batch.inside.now left t) (value_inside w batch.inside.now right t) (comparison_value op))
    batch.rows.now found
