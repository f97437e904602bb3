-- What a place of the code stands for: the scope there.
use Rattle.std.specs.Prelude.{ℕ, Bool, List, map, ◌++◌, reverse}
use Rattle.std.specs.List.{list_any}
use Rattle.td_check.specs.declared.place.Place.{Place}
use Rattle.td_check.specs.model.Scopes.{Scope}
use Rattle.td_types.specs.model.Headings.{has_attribute}
use Rattle.td_types.specs.model.Types.{Heading}

abbrev pub scope_at : Place → Scope
scope_at p =
    record { types = p.scope.now.types; relvars = p.scope.now.relvars; constraints = p.scope.now.constraints; entered = reverse (map (λ h. h.now) p.inner.items) ++ p.scope.now.entered }

-- the scope within a tuple of each of the headings, the last of them innermost
abbrev pub within_all : List Heading → Scope → Scope
within_all headings scope =
    record { types = scope.types; relvars = scope.relvars; constraints = scope.constraints; entered = reverse headings ++ scope.entered }

-- whether one of the headings has an attribute of the name
abbrev pub is_bound : List ℕ → List Heading → Bool
is_bound name = list_any (has_attribute name)
