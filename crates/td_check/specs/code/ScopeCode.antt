-- What the code's scopes stand for, and how the logic stores a scope.
use Rattle.std.specs.Prelude.{◌≡◌, ℕ, Bool, true, false, List, [], Option, Some, None, map, refl}
use Rattle.std.specs.Borrow.{Bor}
use Rattle.std.specs.Coded.{Coded, code_by, coded×, coded_bool, coded_list, coded_ℕ}
use Rattle.td_check.specs.code.LentScopes.{declared_relvars}
use Rattle.td_check.specs.model.Scopes.{KnownRelvar, Scope}
use Rattle.td_check.specs.declared.declared.Declared.{Declared}
use Rattle.td_check.specs.declared.scope.Kind.{Kind}
use Rattle.td_check.specs.declared.scope.Kind.TheVariants.{Base, Virtual}
use Rattle.td_check.specs.declared.scope.KindAndHeading.{KindAndHeading}
use Rattle.td_types.specs.code.TypeCode.{heading_code}
use Rattle.td_types.specs.code.TypeListCode.{declared_list_code}
use Rattle.td_types.specs.model.TypeLists.{DeclaredType}
use Rattle.td_types.specs.model.Types.{Heading}

-- the relvar of a name and of what the code keeps beside it
abbrev pub known_relvar_view : List ℕ × KindAndHeading → KnownRelvar
known_relvar_view row = record { name = row.0; kind = row.1.kind; heading = row.1.heading }

-- what the code keeps beside the name
abbrev pub known_view : KindAndHeading → Kind × Heading
known_view known = (known.kind, known.heading)

-- what a look-up answers
abbrev pub seen_view : Kind × Bor Heading → Kind × Heading
seen_view seen = (seen.0, seen.1.now)

-- the relvars that are lent to a scope, and the constraints
abbrev pub lent_relvars : Option (Bor Declared × ℕ) → List KnownRelvar
lent_relvars None = []
lent_relvars (Some lent) = declared_relvars lent.0.now lent.1

abbrev pub lent_constraints : Option (Bor Declared × ℕ) → List (List ℕ)
lent_constraints None = []
lent_constraints (Some lent) = lent.0.now.constraints.keys

abbrev pub relvars_view : List (List ℕ × KindAndHeading) → List KnownRelvar
relvars_view = map known_relvar_view

-- ---- code

abbrev is_base : Kind → Bool
is_base Base = true
is_base Virtual = false

abbrev kind_from : Bool → Kind
kind_from true = Base
kind_from false = Virtual

pub kind_back : (kind : Kind) → kind_from (is_base kind) ≡ kind
kind_back Base = refl
kind_back Virtual = refl

abbrev pub kind_code : Coded Kind
kind_code = code_by Bool coded_bool is_base kind_from kind_back

abbrev pub known_relvar_code : Coded KnownRelvar
known_relvar_code =
    code_by (List ℕ × (Kind × Heading)) (coded× (coded_list coded_ℕ) (coded× kind_code heading_code))
    (λ r. (r.name, (r.kind, r.heading))) (λ p. record { name = p.0; kind = p.1.0; heading = p.1.1 }) (λ _. refl)

abbrev pub scope_code : Coded Scope
scope_code =
    code_by (List DeclaredType × (List KnownRelvar × (List (List ℕ) × List Heading)))
    (coded× declared_list_code (coded× (coded_list known_relvar_code) (coded× (coded_list (coded_list coded_ℕ)) (coded_list heading_code))))
    (λ s. (s.types, (s.relvars, (s.constraints, s.entered))))
    (λ p. record { types = p.0; relvars = p.1.0; constraints = p.1.1.0; entered = p.1.1.1 }) (λ _. refl)
