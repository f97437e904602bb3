-- What an expression of the code may look at, as a world.
use Rattle.std.specs.Prelude.{◌≤◌, ◌≡◌, ℕ, List, [], length, map, option_map, Option, Some, None, reverse, slice_get, take, ◌<◌, ⊤, if◌then◌else◌}
use Rattle.std.specs.Option.{option_or}
use Rattle.td_catalog.specs.model.Database.{Database, VirtualRelvar, base_named, with_virtuals}
use Rattle.td_eval.specs.model.DatabaseWorlds.{selector_value, with_other, world_of, world_of_types}
use Rattle.td_eval.specs.model.TreeValues.{value_of}
use Rattle.td_eval.specs.model.Worlds.{World}
use Rattle.td_eval.specs.declared.env.Env.{Env}
use Rattle.td_eval.specs.declared.lent_world.LentWorld.{LentWorld}
use Rattle.td_tree.specs.model.Trees.{Tree}
use Rattle.td_types.specs.model.TypeLists.{DeclaredType, declared_place}
use Rattle.td_types.specs.model.Types.{same_name}
use Rattle.td_value.specs.model.Values.{Relation, Tuple}

-- the other relation of one relvar, by its name
abbrev pub other_in : {B : Type 0} → Env B → Option (List ℕ × Relation)
other_in env = option_map (λ o. (o.0.now, o.1.now)) env.other

-- the world of what is evaluated in
abbrev pub world_in : {B : Type 0} → Env B → World
world_in env = with_other (other_in env) (world_of env.catalog.now.database)

-- the tuples in scope there, the innermost first
abbrev pub tuples_in_hand : {B : Type 0} → Env B → List Tuple
tuples_in_hand env = reverse (map (λ t. t.now) env.tuples.now)

-- ---- what an expression may look at

-- the other relation of one relvar, by its name
abbrev pub other_seen : {B : Type 0} → LentWorld B → Option (List ℕ × Relation)
other_seen lent = option_map (λ o. (o.0.now, o.1.now)) lent.other

-- the database with the first of its virtual relvars alone
abbrev pub with_first_virtuals : ℕ → Database → Database
with_first_virtuals count db = with_virtuals (take count db.virtuals) db

-- the first virtual relvars alone of a catalogue; inside a type's constraint, where there is none, the types alone, with the
-- selectors of the first of them
abbrev pub seen_by : {B : Type 0} → LentWorld B → World
seen_by lent =
    elim lent.catalog as (λ _. World) [
      | Some catalog ↦ with_other (other_seen lent) (world_of (with_first_virtuals lent.virtuals catalog.now.database))
      | None ↦ world_of_types lent.types.now (take lent.selectors lent.types.now)
    ]

-- the types are those of the catalogue, and the selectors of all of them are known there
abbrev pub IsOfCatalog : {B : Type 0} → LentWorld B → Option Database → Type 0
IsOfCatalog lent None = ⊤
IsOfCatalog lent (Some db) = (lent.types.now ≡ db.types) × (lent.selectors ≡ length lent.types.now)

pub record IsLentWorld {B : Type 0} (lent : LentWorld B) : Type 0 where
  pub within : lent.selectors ≤ length lent.types.now
  pub catalog : IsOfCatalog lent (option_map (λ c. c.now.database) lent.catalog)

-- ---- types

-- what the constraint of the type at a place may look at: the selectors of the types before it
abbrev pub constraint_world : {B : Type 0} → ℕ → LentWorld B → LentWorld B
constraint_world place lent =
    record { alloc = lent.alloc; types = lent.types; selectors = place; catalog = None; other = None; virtuals = 0 }

-- the type of the name is declared at that place, and its selector is known
abbrev pub IsPlaced : {B : Type 0} → LentWorld B → List ℕ → ℕ → Type 0
IsPlaced lent name place = (declared_place name lent.types.now ≡ Some place) × (place < lent.selectors)

-- that type, and what its selector gives, which asks what the selectors before it give
pub record IsSelector {B : Type 0} (lent : LentWorld B) (name : List ℕ) (place : ℕ) (d : DeclaredType) : Type 0 where
  pub known : place < lent.selectors
  pub entry : slice_get lent.types.now place ≡ Some d
  pub named : d.name ≡ name
  pub selector : (seen_by lent).selector name ≡ Some (selector_value (world_of_types lent.types.now (take place lent.types.now)) d)

-- ---- relvars

-- the other relation, where it is of the name
abbrev pub other_named : List ℕ → Option (List ℕ × Relation) → Option Relation
other_named name None = None
other_named name (Some o) = if same_name o.0 name then Some o.1 else None

-- the relation that the relvar of a name holds: the other one, or that of a base relvar
abbrev pub held_relation : {B : Type 0} → LentWorld B → List ℕ → Option Relation
held_relation lent name =
    elim lent.catalog as (λ _. Option Relation) [
      | Some catalog ↦ option_or (other_named name (other_seen lent)) (option_map (λ b. b.relation) (base_named name catalog.now.database))
      | None ↦ None
    ]

-- the virtual relvars of the catalogue
abbrev pub virtuals_of : {B : Type 0} → LentWorld B → List VirtualRelvar
virtuals_of lent = elim lent.catalog as (λ _. List VirtualRelvar) [ Some catalog ↦ catalog.now.database.virtuals | None ↦ [] ]

-- what the expression of the virtual relvar at a place may look at: the virtual relvars before it, and no other relation
abbrev pub virtual_world : {B : Type 0} → ℕ → LentWorld B → LentWorld B
virtual_world place lent =
    record { alloc = lent.alloc; types = lent.types; selectors = lent.selectors; catalog = lent.catalog; other = None; virtuals = place }

-- the virtual relvar of a name that holds no relation, which is known, stands at that place and has that expression
pub record IsVirtualRelvar {B : Type 0} (lent : LentWorld B) (name : List ℕ) (place : ℕ) (tree : Tree) : Type 0 where
  pub known : place < lent.virtuals
  pub entry : option_map (λ v. v.tree) (slice_get (virtuals_of lent) place) ≡ Some tree
  pub value : held_relation lent name ≡ None → (seen_by lent).relvar name ≡ Some (value_of (seen_by (virtual_world place lent)) [] tree)

-- no known virtual relvar has the name
abbrev pub IsNoVirtualRelvar : {B : Type 0} → LentWorld B → List ℕ → Type 0
IsNoVirtualRelvar lent name = held_relation lent name ≡ None → (seen_by lent).relvar name ≡ None
