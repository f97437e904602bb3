-- Of which types values are where types are declared: laws (Tutorial D's).
use Rattle.std.specs.Prelude.{◌≡◌, ◌↔◌, ℕ, List, ◌++◌, Some}
use Rattle.std.specs.List.{Contains}
use Rattle.td_types.specs.model.TypeLists.{DeclaredType, IsKnown, declared_at}
use Rattle.td_types.specs.model.Types.{Type', Heading, pack}
use Rattle.td_types.specs.model.Types as types
use Rattle.td_value.specs.model.Values.{Val, Tuple, UserValue, HaveTypesOf, heading_of, pack_fields, selected_value, type_of}
use Rattle.td_value.specs.model.KnownValues.{HasHeading, HasType}

-- a value keeps its type where more types are declared
abbrev pub LongerListsKeepTypes : Type 0
LongerListsKeepTypes =
    (ds more : List DeclaredType) (v : Val) (t : Type') → HasType ds v t → HasType (ds ++ more) v t

-- the type of a value of a type is that type
abbrev pub KnownValuesHaveTheirTypes : Type 0
KnownValuesHaveTheirTypes =
    (ds : List DeclaredType) (v : Val) (t : Type') → HasType ds v t → type_of v ≡ t

-- so no value is of two types, wherever they are declared
abbrev pub ValuesHaveOneType : Type 0
ValuesHaveOneType =
    (ds es : List DeclaredType) (v : Val) (s t : Type') → HasType ds v s → HasType es v t → s ≡ t

-- the type of which a value is, is known
abbrev pub KnownValuesHaveKnownTypes : Type 0
KnownValuesHaveKnownTypes =
    (ds : List DeclaredType) (v : Val) (t : Type') → HasType ds v t → IsKnown ds t

-- a tuple has a heading exactly where that heading is the tuple's, and each of its values is of its own type
abbrev pub TuplesHaveTheHeadingsOfTheirValues : Type 0
TuplesHaveTheHeadingsOfTheirValues =
    (ds : List DeclaredType) (t : Tuple) (heading : Heading)
    → HasHeading ds (pack_fields t) (pack heading)
    ↔ ((heading_of t ≡ heading)
    × ((e : List ℕ × Val) → Contains t e → HasType ds e.1 (type_of e.1)))

-- a user value is of its declared type exactly where its components have the types of that type's components, and each
-- is of its own type
abbrev pub UserValuesAreOfTheirTypes : Type 0
UserValuesAreOfTheirTypes =
    (ds : List DeclaredType) (u : UserValue) (d : DeclaredType) → declared_at u.name ds ≡ Some d
    → HasType ds (selected_value u) (types.user u.name)
    ↔ (HaveTypesOf u.components d.components
    × ((v : Val) → Contains u.components v → HasType ds v (type_of v)))
