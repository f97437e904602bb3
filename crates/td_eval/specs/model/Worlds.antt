-- What the names in an expression mean (Tutorial D's; that an attribute hides a relvar is this project's own).
use Rattle.std.specs.Prelude.{ℕ, List, [], ◌∷◌, map, Option, Some, None}
use Rattle.td_check.specs.model.Scopes.{Scope}
use Rattle.td_tree.specs.declared.cause.Cause.TheVariants as causes
use Rattle.td_tree.specs.model.Outcomes.{Outcome, Valued, Refused, Only}
use Rattle.td_value.specs.model.Values.{Val, Tuple, heading_of, value_at}

-- what is known of names, which value each relvar has, and which each selector gives of a list of components
pub record World : Type 0 where
  pub scope : Scope
  pub relvar : List ℕ → Option (Outcome Val)
  pub selector : List ℕ → Option (List Val → Outcome Val)

-- what the scope knows where these tuples are in hand, the innermost first
abbrev pub with_tuples : Scope → List Tuple → Scope
with_tuples scope s =
    record { types = scope.types; relvars = scope.relvars; constraints = scope.constraints; entered = map heading_of s }

-- the innermost attribute of a name
abbrev pub innermost_value : List ℕ → List Tuple → Option Val
innermost_value name [] = None
innermost_value name (t ∷ ts) = elim (value_at name t) as (λ _. Option Val) [ Some v ↦ Some v | None ↦ innermost_value name ts ]

-- what is known by that name, else NAME_UNKNOWN
abbrev pub known_outcome : Option (Outcome Val) → Outcome Val
known_outcome (Some o) = o
known_outcome None = Refused (Only causes.NameUnknown)

-- a name is the innermost attribute of that name, else a relvar
abbrev pub name_value : World → List Tuple → List ℕ → Outcome Val
name_value w s n = elim (innermost_value n s) as (λ _. Outcome Val) [ Some v ↦ Valued v | None ↦ known_outcome (w.relvar n) ]

-- what a selector gives of components
abbrev pub selector_outcome : World → List ℕ → List Val → Outcome Val
selector_outcome w n vs = elim (w.selector n) as (λ _. Outcome Val) [ Some f ↦ f vs | None ↦ Refused (Only causes.NameUnknown) ]
