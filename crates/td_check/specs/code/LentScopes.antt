-- The scope that a database's declarations make.
use Rattle.std.specs.Prelude.{ℕ, List, [], ◌++◌, map, take}
use Rattle.td_check.specs.model.Scopes.{KnownRelvar, Scope}
use Rattle.td_check.specs.declared.declared.Declared.{Declared}
use Rattle.td_check.specs.declared.scope.Kind.{Kind}
use Rattle.td_check.specs.declared.scope.Kind.TheVariants.{Base, Virtual}
use Rattle.td_types.specs.model.TypeLists.{DeclaredType}
use Rattle.td_types.specs.model.Types.{Heading}

-- a relvar of a kind, of a name and a heading
abbrev pub known_as : Kind → List ℕ × Heading → KnownRelvar
known_as kind row = record { name = row.0; kind = kind; heading = row.1 }

-- the base relvars, and behind them so many of the virtual relvars
abbrev pub declared_relvars : Declared → ℕ → List KnownRelvar
declared_relvars declared virtuals =
    map (known_as Base) declared.bases.entries ++ map (known_as Virtual) (take virtuals declared.virtuals.entries)

-- where the types, these relvars and the constraints are known, and no tuple is in scope
abbrev pub lent_scope : List DeclaredType → Declared → ℕ → Scope
lent_scope types declared virtuals =
    record { types = types; relvars = declared_relvars declared virtuals; constraints = declared.constraints.keys; entered = [] }
