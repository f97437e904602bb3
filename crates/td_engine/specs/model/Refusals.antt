-- Why a statement is refused, and what its answer says (this project's own).
use Rattle.std.specs.Prelude.{ℕ, List, [], ◌∷◌, ◌++◌, codes, decimal}
use Rattle.td_tree.specs.model.Causes.{name_of, number_of}
use Rattle.td_tree.specs.declared.cause.Cause.{Cause}
use Rattle.td_tree.specs.declared.cause.Cause.TheVariants as causes

-- a cause, a key of the relvar of that name, or the constraint of that name
pub data Refusal : Type 0 where
  by_cause : Cause → Refusal
  by_key : List ℕ → Refusal
  by_constraint : List ℕ → Refusal

abbrev pub cause_of_refusal : Refusal → Cause
cause_of_refusal (by_cause c) = c
cause_of_refusal (by_key name) = causes.Key
cause_of_refusal (by_constraint name) = causes.Constraint

-- ---- texts

abbrev pub cause_text : Cause → List ℕ
cause_text cause = codes "REFUSED " ++ decimal (number_of cause) ++ codes " " ++ name_of cause

abbrev pub named_text : Cause → List ℕ → List ℕ
named_text cause name = cause_text cause ++ codes " " ++ name

abbrev pub refusal_text : Refusal → List ℕ
refusal_text (by_cause c) = cause_text c
refusal_text (by_key name) = named_text causes.Key name
refusal_text (by_constraint name) = named_text causes.Constraint name

-- an answer is a text and a newline
abbrev pub line : List ℕ → List ℕ
line text = text ++ (10 ∷ [])
