-- What the world of a database knows: the scope of the database, the selectors of its types, and the relations of its base
-- relvars.
use Rattle.std.proofs.Common.{◌≡◌, ◌∙◌, ◌∷◌, ◌++◌, ℕ, List, [], Option, Some, append-nil, append_assoc, ap, fold, map, option_map, refl, sym}
use Rattle.td_catalog.specs.model.Database.{BaseRelvar, Database, VirtualRelvar, base_named, database_scope, known_base, known_virtual}
use Rattle.td_check.specs.model.Scopes.{KnownRelvar, Scope}
use Rattle.td_eval.specs.model.DatabaseWorlds.{selectors_of, with_virtual_value, world_of, world_of_bases}
use Rattle.td_eval.specs.model.TreeValues.{value_of}
use Rattle.td_eval.specs.model.Worlds.{World}
use Rattle.td_eval.proofs.code_lemmas.AddedInTurn.{stays}
use Rattle.td_tree.specs.model.Outcomes.{Outcome, Valued}
use Rattle.td_value.specs.model.Values.{Val, relation_value}

-- ---- the scope and the selectors

-- the scope with these relvars
abbrev with_relvars : Scope → List KnownRelvar → Scope
with_relvars scope relvars = record { types = scope.types; relvars = relvars; constraints = scope.constraints; entered = scope.entered }

scope_with_virtuals : (w : World) (vs : List VirtualRelvar) → (fold with_virtual_value w vs).scope ≡ with_relvars w.scope (w.scope.relvars ++ map known_virtual vs)
scope_with_virtuals w [] = ap (with_relvars w.scope) (sym (append-nil w.scope.relvars))
scope_with_virtuals w (v ∷ vs) =
    scope_with_virtuals (with_virtual_value w v) vs ∙ ap (with_relvars w.scope) (append_assoc w.scope.relvars (known_virtual v ∷ []) (map known_virtual vs))

pub world_scope : (db : Database) → (world_of db).scope ≡ database_scope db
world_scope db =
    scope_with_virtuals (world_of_bases db) db.virtuals
    ∙ ap (λ ks. with_relvars (database_scope db) (ks ++ map known_virtual db.virtuals)) (append-nil (map known_base db.bases))

pub same_selectors : (w : World) (vs : List VirtualRelvar) → (fold with_virtual_value w vs).selector ≡ w.selector
same_selectors w [] = refl
same_selectors w (v ∷ vs) = same_selectors (with_virtual_value w v) vs

pub world_selectors : (db : Database) → (world_of db).selector ≡ selectors_of db.types db.types
world_selectors db = same_selectors (world_of_bases db) db.virtuals

-- ---- relvars

abbrev pub relvar_at : World → List ℕ → Option (Outcome Val)
relvar_at w n = w.relvar n

abbrev pub virtual_name : VirtualRelvar → List ℕ
virtual_name v = v.name

-- the value of a virtual relvar in a world
abbrev pub virtual_value : World → VirtualRelvar → Outcome Val
virtual_value w v = value_of w [] v.tree

-- what has a value keeps it where virtual relvars are added
pub relvar_stays : (vs : List VirtualRelvar) (w : World) (n : List ℕ) (o : Outcome Val) → w.relvar n ≡ Some o → (fold with_virtual_value w vs).relvar n ≡ Some o
relvar_stays = stays relvar_at with_virtual_value virtual_name virtual_value (λ w v n. refl)

-- a base relvar has the relation that it holds
pub base_value : (db : Database) (n : List ℕ) (b : BaseRelvar) → base_named n db ≡ Some b → (world_of db).relvar n ≡ Some (Valued (relation_value b.relation))
base_value db n b is =
    relvar_stays db.virtuals (world_of_bases db) n (Valued (relation_value b.relation))
    (ap (option_map (λ (r : BaseRelvar). Valued (relation_value r.relation))) is)
