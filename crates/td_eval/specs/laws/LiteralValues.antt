-- The value of the tree that a value's literal spells: laws (Tutorial D's selectors).
use Rattle.std.specs.Prelude.{◌≡◌, ◌↔◌, ℕ, List, ◌∷◌, ◌++◌}
use Rattle.td_catalog.specs.model.Database.{Database, without_type}
use Rattle.td_catalog.specs.model.TypedDatabases.{IsTyped}
use Rattle.td_check.specs.model.Scopes.{Scope}
use Rattle.td_check.specs.model.StaticTypes.{type_of}
use Rattle.td_eval.specs.model.DatabaseWorlds.{constraint_value, world_of, world_of_types}
use Rattle.td_eval.specs.model.OperatorValues.{components_of}
use Rattle.td_eval.specs.model.TreeValues.{value_of}
use Rattle.td_eval.specs.laws.ValueLaws.{HasLater}
use Rattle.td_eval.specs.laws.ValueTypes.{AreComponentsOf}
use Rattle.td_eval.specs.model.Worlds.{World, selector_outcome}
use Rattle.td_tree.specs.model.Outcomes.{Valued}
use Rattle.td_types.specs.model.TypeLists.{DeclaredType}
use Rattle.td_types.specs.model.Types.{Type'}
use Rattle.td_value.specs.model.KnownValues.{HasType}
use Rattle.td_value.specs.laws.LiteralTrees.{literal_tree}
use Rattle.td_value.specs.model.Values.{Val, user, Parts, IsValue, Tuple, pack_parts}
use Rattle.td_eval.specs.model.MetConstraints.{EachUserValue, MeetConstraint, MeetsConstraints}

-- ---- the user values in a value

-- the selector of the type gives the user value of these components
abbrev pub Selects : World → List ℕ → Parts → Type 0
Selects w n ps = selector_outcome w n (components_of ps) ≡ Valued (user n ps)

-- each user value in it is what a selector gives
abbrev pub IsSelected : World → Val → Type 0
IsSelected w = EachUserValue (Selects w)

-- ---- laws

-- a type's constraint has the same value where the list of types is cut before it: the types behind it don't count
abbrev pub CutTypesKeepConstraints : Type 0
CutTypesKeepConstraints =
    (db : Database) (earlier later : List DeclaredType) (d : DeclaredType) (vs : List Val) → IsTyped db
    → db.types ≡ earlier ++ (d ∷ later) → AreComponentsOf db.types d vs
    → constraint_value (world_of_types db.types earlier) d vs ≡ constraint_value (world_of_types earlier earlier) d vs

-- the tree of a value of a type has that type
abbrev pub LiteralsHaveTheirTypes : Type 0
LiteralsHaveTheirTypes =
    (scope : Scope) (v : Val) (t : Type') → IsValue v → HasType scope.types v t → type_of scope (literal_tree v) ≡ Valued t

-- the tree of a value has that value, where the selectors give its user values
abbrev pub LiteralsHaveTheirValues : Type 0
LiteralsHaveTheirValues =
    (w : World) (s : List Tuple) (v : Val) (t : Type') → IsValue v → HasType w.scope.types v t → IsSelected w v
    → value_of w s (literal_tree v) ≡ Valued v

-- the selectors of a typed database give the user values in a value of a type exactly where these meet their constraints
abbrev pub SelectorsGiveWhatMeets : Type 0
SelectorsGiveWhatMeets =
    (db : Database) (v : Val) (t : Type') → IsTyped db → HasType db.types v t
    → IsSelected (world_of db) v ↔ MeetsConstraints db.types v

-- what a selector of a typed database gives is the user value; its components meet the constraint
abbrev pub WhatSelectorsGiveMeets : Type 0
WhatSelectorsGiveMeets =
    (db : Database) (n : List ℕ) (vs : List Val) (v : Val) → IsTyped db → selector_outcome (world_of db) n vs ≡ Valued v
    → (v ≡ user n (pack_parts vs)) × MeetConstraint db.types n (pack_parts vs)

-- in a typed database the tree of a value whose user values meet their constraints has that value
abbrev pub StoredLiteralsHaveTheirValues : Type 0
StoredLiteralsHaveTheirValues =
    (db : Database) (s : List Tuple) (v : Val) (t : Type') → IsTyped db → IsValue v → HasType db.types v t
    → MeetsConstraints db.types v → value_of (world_of db) s (literal_tree v) ≡ Valued v

-- user values that meet their constraints do so with more types declared behind
abbrev pub LaterTypesKeepWhatMeets : Type 0
LaterTypesKeepWhatMeets =
    (first second : Database) (v : Val) (t : Type') → IsTyped first → IsTyped second
    → HasLater first second → IsValue v → HasType first.types v t
    → MeetsConstraints first.types v → MeetsConstraints second.types v

-- user values that meet their constraints do so where another type is dropped
abbrev pub DropsKeepWhatMeets : Type 0
DropsKeepWhatMeets =
    (db : Database) (dropped : List ℕ) (v : Val) (t : Type') → IsTyped db → IsTyped (without_type dropped db)
    → IsValue v → HasType (without_type dropped db).types v t
    → MeetsConstraints db.types v → MeetsConstraints (without_type dropped db).types v
