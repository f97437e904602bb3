-- What is known where an expression stands (Tutorial D's; the three spaces of names are this project's own).
use Rattle.std.specs.Prelude.{ℕ, Bool, List, [], ◌∷◌, ◌++◌, drop, Option, Some, None, if◌then◌else◌}
use Rattle.td_check.specs.declared.scope.Kind.{Kind}
use Rattle.td_types.specs.model.Headings.{has_name}
use Rattle.td_types.specs.model.TypeLists.{DeclaredType}
use Rattle.td_types.specs.model.Types.{Type', Heading, same_name, type_at}

-- a relvar that is known: its name, whether it is base or virtual, and its heading
pub record KnownRelvar : Type 0 where
  pub name : List ℕ
  pub kind : Kind
  pub heading : Heading

-- the declared types, the relvars and the constraints' names, each in the order they were made known, and the headings
-- of the tuples that are in scope, the innermost first
pub record Scope : Type 0 where
  pub types : List DeclaredType
  pub relvars : List KnownRelvar
  pub constraints : List (List ℕ)
  pub entered : List Heading

-- the relvar of a name
abbrev pub relvar_in : List ℕ → List KnownRelvar → Option KnownRelvar
relvar_in name [] = None
relvar_in name (r ∷ rs) = if same_name r.name name then Some r else relvar_in name rs

abbrev pub known_relvar : Scope → List ℕ → Option KnownRelvar
known_relvar scope name = relvar_in name scope.relvars

-- what is known of a relvar beside its name
abbrev pub kind_and_heading : KnownRelvar → Kind × Heading
kind_and_heading r = (r.kind, r.heading)

-- whether there is a constraint of the name
abbrev pub knows_constraint : List ℕ → Scope → Bool
knows_constraint name scope = has_name name scope.constraints

-- the type of the innermost attribute of a name
abbrev pub innermost : List ℕ → List Heading → Option Type'
innermost name [] = None
innermost name (h ∷ hs) = elim (type_at name h) as (λ _. Option Type') [ Some t ↦ Some t | None ↦ innermost name hs ]

-- inside an expression that is applied to each tuple of a heading
abbrev pub entered_with : Heading → Scope → Scope
entered_with heading scope =
    record { types = scope.types; relvars = scope.relvars; constraints = scope.constraints; entered = heading ∷ scope.entered }

-- where the value of this type is in scope by a name, as the one attribute of a tuple is
abbrev pub bound_to : List ℕ → Type' → Scope → Scope
bound_to name t scope = entered_with ((name, t) ∷ []) scope

-- where only the types and the attributes of one heading are known
abbrev pub alone_with : Heading → Scope → Scope
alone_with heading scope =
    record { types = scope.types; relvars = []; constraints = []; entered = heading ∷ [] }

-- ---- scopes as they are made

-- where types alone are known
abbrev pub scope_of : List DeclaredType → Scope
scope_of types = record { types = types; relvars = []; constraints = []; entered = [] }

-- the scope with one more known relvar
abbrev pub with_known_relvar : List ℕ → Kind → Heading → Scope → Scope
with_known_relvar name kind heading scope =
    record { types = scope.types; relvars = scope.relvars ++ (record { name = name; kind = kind; heading = heading } ∷ []); constraints = scope.constraints; entered = scope.entered }

-- the scope with one more known constraint
abbrev pub with_known_constraint : List ℕ → Scope → Scope
with_known_constraint name scope =
    record { types = scope.types; relvars = scope.relvars; constraints = scope.constraints ++ (name ∷ []); entered = scope.entered }

-- the scope without the heading that was entered last
abbrev pub without_innermost : Scope → Scope
without_innermost scope = record { types = scope.types; relvars = scope.relvars; constraints = scope.constraints; entered = drop 1 scope.entered }
