-- What is evaluated in an environment of a database, where no tuple is in hand.
use Rattle.std.proofs.Common.{◌≡◌, [], refl, subst, sym}
use Rattle.std.specs.Prelude.{Result}
use Rattle.td_catalog.specs.model.Database.{Database, database_scope}
use Rattle.td_check.specs.model.StaticTypes.{type_of}
use Rattle.td_engine.specs.code.Targets.{IsEnvOf}
use Rattle.td_eval.specs.code.LentWorlds.{tuples_in_hand, world_in}
use Rattle.td_eval.specs.declared.env.Env.{Env}
use Rattle.td_eval.specs.model.TreeValues.{value_of}
use Rattle.td_eval.specs.laws.UnfailingValues.{GivesValues}
use Rattle.td_eval.specs.model.Worlds.{World}
use Rattle.td_plan.specs.code.PlansOf.{MeetsRules, scope_in}
use Rattle.td_tree.specs.declared.fault.Fault.{Fault}
use Rattle.td_tree.specs.model.Outcomes.{Answers, Valued}
use Rattle.td_tree.specs.model.Trees.{Tree}
use Rattle.td_types.specs.model.Types.{Type'}
use Rattle.td_value.specs.model.Values.{Val}

module _ {B : Type 0} (db : Database) (w : World) (env : Env B) (is : IsEnvOf db w env) (gives : GivesValues w (database_scope db)) where
  module _ (e : Tree) (typed : (t : Type') × (type_of (database_scope db) e ≡ Valued t)) where
    meets_rules : MeetsRules (world_in env) (scope_in env) (tuples_in_hand env) e
    meets_rules =
        subst (λ u. MeetsRules u (scope_in env) (tuples_in_hand env) e) (sym is.world)
        (subst (λ s. MeetsRules w s (tuples_in_hand env) e) (sym is.scope)
        (subst (λ s. MeetsRules w (database_scope db) s e) (sym is.tuples) (record { gives = gives; tuples = (tt, refl); typed = typed })))

    -- an expression has its value there
    pub valued_there : (result : Result Val Fault)
        → (MeetsRules (world_in env) (scope_in env) (tuples_in_hand env) e → Answers (λ v. v) result (value_of (world_in env) (tuples_in_hand env) e))
        → Answers (λ v. v) result (value_of w [] e)
    valued_there result told =
        subst (λ s. Answers (λ v. v) result (value_of w s e)) is.tuples
        (subst (λ u. Answers (λ v. v) result (value_of u (tuples_in_hand env) e)) is.world (told meets_rules))
