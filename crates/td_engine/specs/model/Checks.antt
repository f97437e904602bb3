-- What is required of a database after a definition or an assignment: its keys and its constraints
-- (Tutorial D's; the order of the checks is this project's own).
use Rattle.std.specs.Prelude.{◌≡◌, ℕ, Bool, true, false, List, [], ◌∷◌, Option, Some, None}
use Rattle.std.specs.List.{list_all}
use Rattle.std.specs.Option.{option_or}
use Rattle.td_body.specs.model.Bodies.{key_holds}
use Rattle.td_catalog.specs.model.Database.{BaseRelvar, Database, NamedConstraint, VirtualRelvar}
use Rattle.td_engine.specs.model.Refusals.{Refusal, by_cause, by_constraint, by_key}
use Rattle.td_eval.specs.model.DatabaseWorlds.{world_of}
use Rattle.td_eval.specs.model.OperatorValues.{on_relation, truth_value}
use Rattle.td_eval.specs.model.TreeValues.{value_of}
use Rattle.td_eval.specs.model.Worlds.{World, name_value}
use Rattle.td_tree.specs.model.Outcomes.{Outcome, Valued, Refused, least, with_value}
use Rattle.td_value.specs.model.Values.{Tuple}

-- why a test is not passed: it is FALSE, or it has causes, of which the least is named
abbrev pub refusal_unless_passed : Refusal → Outcome Bool → Option Refusal
refusal_unless_passed refusal (Valued true) = None
refusal_unless_passed refusal (Valued false) = Some refusal
refusal_unless_passed refusal (Refused cs) = Some (by_cause (least cs))

-- the first of a list for which a check refuses decides
abbrev pub first_refusal : {A : Type 0} → (A → Option Refusal) → List A → Option Refusal
first_refusal check [] = None
first_refusal check (x ∷ xs) = option_or (check x) (first_refusal check xs)

-- whether each of the keys holds
abbrev pub keys_hold : List (List (List ℕ)) → List Tuple → Bool
keys_hold keys tuples = list_all (λ key. key_holds key tuples) keys

-- the keys of a base relvar hold
abbrev pub base_check : BaseRelvar → Option Refusal
base_check r = refusal_unless_passed (by_key r.name) (Valued (keys_hold r.keys r.relation.body))

-- the keys of each base relvar hold
abbrev pub BasesHold : Database → Type 0
BasesHold db = first_refusal base_check db.bases ≡ None

-- a virtual relvar that has keys is evaluated, and they hold
abbrev pub virtual_test : World → VirtualRelvar → Outcome Bool
virtual_test w v =
    elim v.keys as (λ _. Outcome Bool) [
      | [] ↦ Valued true
      | key ∷ keys ↦ with_value (name_value w [] v.name) (λ value. on_relation value (λ r. Valued (keys_hold v.keys r.body)))
    ]

abbrev pub virtual_check : World → VirtualRelvar → Option Refusal
virtual_check w v = refusal_unless_passed (by_key v.name) (virtual_test w v)

-- a constraint is TRUE
abbrev pub constraint_check : World → NamedConstraint → Option Refusal
constraint_check w c = refusal_unless_passed (by_constraint c.name) (truth_value (value_of w [] c.tree))

-- the keys of virtual relvars and then the constraints, each list in order of definition
abbrev pub derived_check : Database → Option Refusal
derived_check db =
    option_or (first_refusal (virtual_check (world_of db)) db.virtuals) (first_refusal (constraint_check (world_of db)) db.constraints)

-- the keys of base relvars first
abbrev pub database_check : Database → Option Refusal
database_check db = option_or (first_refusal base_check db.bases) (derived_check db)
