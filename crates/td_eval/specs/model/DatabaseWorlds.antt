-- The meaning of a database's names (Tutorial D's). A type's constraint is evaluated where only the
-- earlier selectors are known, no relvar is, and its components are the tuple in scope. A virtual
-- relvar is evaluated where types, base relvars and earlier virtual relvars are known, in no tuple.
use Rattle.std.specs.Prelude.{ℕ, Bool, true, List, [], ◌∷◌, fold, map, option_map, Option, Some, None, if◌then◌else◌}
use Rattle.std.specs.List.{zip}
use Rattle.std.specs.Option.{option_or}
use Rattle.td_catalog.specs.model.Database.{Database, VirtualRelvar, base_named, database_scope, with_virtuals}
use Rattle.td_check.specs.model.OperatorTypes.{are_types_of}
use Rattle.td_check.specs.model.Scopes.{scope_of, with_known_relvar}
use Rattle.td_check.specs.declared.scope.Kind.TheVariants as kinds
use Rattle.td_eval.specs.model.OperatorValues.{truth_value}
use Rattle.td_eval.specs.model.TreeValues.{value_of}
use Rattle.td_eval.specs.model.Worlds.{World}
use Rattle.td_tree.specs.declared.cause.Cause.TheVariants as causes
use Rattle.td_tree.specs.model.Outcomes.{Outcome, Valued, value_if, with_value}
use Rattle.td_types.specs.model.TypeLists.{DeclaredType}
use Rattle.td_types.specs.model.Types.{attribute_names, same_name}
use Rattle.td_value.specs.model.Values.{Val, Relation, made_tuple, relation_value, selected_value, type_of, user_view}

-- ---- types

-- which selectors are known, by name
abbrev pub Selectors : Type 0
Selectors = List ℕ → Option (List Val → Outcome Val)

-- where the types are known with these selectors, and nothing else is
abbrev pub types_alone : List DeclaredType → Selectors → World
types_alone ds selectors = record { scope = scope_of ds; relvar = λ n. None; selector = selectors }

-- whether the components meet the type's constraint
abbrev pub constraint_value : World → DeclaredType → List Val → Outcome Bool
constraint_value w d vs =
    elim d.constraint as (λ _. Outcome Bool) [
      | None ↦ Valued true
      | Some e ↦ with_value (made_tuple (zip (attribute_names d.components) vs)) (λ t. truth_value (value_of w (t ∷ []) e))
    ]

-- the user value of components that have the types of the type's own, where they meet its constraint: else TYPE_CONSTRAINT
abbrev pub selector_value : World → DeclaredType → List Val → Outcome Val
selector_value w d vs =
    with_value (value_if (are_types_of (map type_of vs) d.components) (user_view d.name vs) causes.TypeMismatch)
    (λ u. with_value (constraint_value w d vs) (λ holds. value_if holds (selected_value u) causes.TypeConstraint))

-- the selectors with one more, for a type whose name none has
abbrev pub with_selector : List DeclaredType → Selectors → DeclaredType → Selectors
with_selector ds selectors d n =
    option_or (selectors n) (if same_name d.name n then Some (selector_value (types_alone ds selectors) d) else None)

-- the selectors of the first types of a list, added in order
abbrev pub selectors_of : List DeclaredType → List DeclaredType → Selectors
selectors_of ds first = fold (with_selector ds) (λ n. None) first

-- where the types alone are known, with the selectors of the first of them
abbrev pub world_of_types : List DeclaredType → List DeclaredType → World
world_of_types ds first = types_alone ds (selectors_of ds first)

-- ---- databases

-- each base relvar has the relation that it holds, and no virtual relvar is known
abbrev pub world_of_bases : Database → World
world_of_bases db =
    record { scope = database_scope (with_virtuals [] db); relvar = λ n. option_map (λ b. Valued (relation_value b.relation)) (base_named n db); selector = selectors_of db.types db.types }

-- the world with one more virtual relvar, which is evaluated where the earlier ones alone are known
abbrev pub with_virtual_value : World → VirtualRelvar → World
with_virtual_value w v =
    record { scope = with_known_relvar v.name kinds.Virtual v.heading w.scope; relvar = λ n. option_or (w.relvar n) (if same_name v.name n then Some (value_of w [] v.tree) else None); selector = w.selector }

-- the virtual relvars, in their order
abbrev pub world_of : Database → World
world_of db = fold with_virtual_value (world_of_bases db) db.virtuals

-- the world in which the relvar of a name has another relation
abbrev pub with_other : Option (List ℕ × Relation) → World → World
with_other None w = w
with_other (Some o) w =
    record { scope = w.scope; relvar = λ n. if same_name o.0 n then Some (Valued (relation_value o.1)) else w.relvar n; selector = w.selector }
