-- The world of a typed database gives values, also where the name of a target means its relation so far.
use Rattle.std.proofs.Common.{ℕ, List, subst}
use Rattle.td_catalog.specs.model.Database.{Database, database_scope}
use Rattle.td_catalog.specs.model.TypedDatabases.{IsTyped}
use Rattle.td_engine.specs.model.Assignments.{source_world}
use Rattle.td_engine.specs.code.AssignedRelations.{IsAssigned}
use Rattle.td_eval.proofs.law_lemmas.ValuedWorlds.{other_relations_give_values, typed_databases_give_values}
use Rattle.td_eval.proofs.code_lemmas.WorldParts.{world_scope}
use Rattle.td_eval.specs.model.DatabaseWorlds.{world_of}
use Rattle.td_eval.specs.laws.UnfailingValues.{GivesValues}
use Rattle.td_value.specs.model.Values.{Relation}

module _ (db : Database) (is_typed : IsTyped db) where
  pub database_gives : GivesValues (world_of db) (database_scope db)
  database_gives = subst (GivesValues (world_of db)) (world_scope db) (typed_databases_give_values db is_typed)

  pub source_gives : (n : List ℕ) (so_far : Relation) → IsAssigned db (n, so_far) → GivesValues (source_world db n so_far) (database_scope db)
  source_gives n so_far assigned =
      subst (GivesValues (source_world db n so_far)) (world_scope db)
      (other_relations_give_values db n assigned.target so_far (typed_databases_give_values db is_typed) assigned.named assigned.relation assigned.typed assigned.heading)
