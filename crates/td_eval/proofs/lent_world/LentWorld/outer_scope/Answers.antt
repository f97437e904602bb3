use Rattle.std.proofs.Common.{◌≡◌, ◌∙◌, ℕ, [], List, Option, ap, refl, sym}
use Rattle.td_catalog.specs.model.Database.{Database, database_scope}
use Rattle.td_check.specs.model.Scopes.{Scope, scope_of}
use Rattle.td_eval.specs.model.DatabaseWorlds.{with_other, world_of}
use Rattle.td_eval.specs.code.LentWorlds.{other_seen, seen_by, with_first_virtuals}
use Rattle.td_eval.proofs.code_lemmas.Selectors.{other_scope}
use Rattle.td_eval.proofs.code_lemmas.WorldParts.{world_scope}
use Rattle.td_eval.specs.model.Worlds.{with_tuples}
use Rattle.td_value.specs.model.Values.{Relation}
use Rattle.td_eval.proofs.lent_world.LentWorld.outer_scope.Goals as goal

-- the scope with no tuple in hand
abbrev with_none_entered : Scope → Scope
with_none_entered scope = record { types = scope.types; relvars = scope.relvars; constraints = scope.constraints; entered = [] }

same_scope : (o : Option (List ℕ × Relation)) (db : Database) → database_scope db ≡ with_tuples (with_other o (world_of db)).scope []
same_scope o db = ap with_none_entered (sym (other_scope o (world_of db) ∙ world_scope db))

pub returns-in-Some : goal.returns-in-Some
returns-in-Some g c =
    let lent = c.args.self.now in
    let catalog = c.in-Some.catalog in
    let seen : database_scope (with_first_virtuals lent.virtuals catalog.now.database) ≡ with_tuples (seen_by lent).scope [] =
    rw c.in-Some.is (same_scope (other_seen lent) (with_first_virtuals lent.virtuals catalog.now.database)) in
    c.scope_before.ensures ∙ seen

pub returns-in-None : goal.returns-in-None
returns-in-None g c =
    let lent = c.args.self.now in
    let seen : scope_of lent.types.now ≡ with_tuples (seen_by lent).scope [] = rw c.in-None.is refl in
    c.new.ensures ∙ seen
