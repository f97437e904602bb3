use Rattle.std.proofs.Common.{Err, refl, subst}
use Rattle.td_catalog.specs.model.Database.{Database, database_scope}
use Rattle.td_catalog.specs.code.KeptDatabases.{CatalogView}
use Rattle.td_check.specs.model.StatementTypes.{statement_checked}
use Rattle.td_engine.proofs.law_lemmas.Answered.{refused_does}
use Rattle.td_engine.proofs.code_lemmas.StageLaws.{stays}
use Rattle.td_engine.proofs.code_lemmas.Turning.{ok_map}
use Rattle.td_engine.specs.code.Carried.{IsRefusedBy}
use Rattle.td_engine.specs.model.Machine.{carried_out, effect, step_of}
use Rattle.td_engine.specs.code.Steps.{Does}
use Rattle.td_tree.specs.model.Outcomes.{Answers}
use Rattle.td_tree.specs.code.TreeViews.{statement_view}
use Rattle.td_engine.proofs.legal_catalog.LegalCatalog.execute.Goals as goal

pub returns-in-Ok-clause-done : goal.returns-in-Ok-clause-done
returns-in-Ok-clause-done g c = c.carry_out.ensures.done

pub returns-in-Err-clause-done : goal.returns-in-Err-clause-done
returns-in-Err-clause-done g c =
    let db = c.args.self.now.database in
    let s = statement_view c.args.statement in
    let told =
    subst (λ (v : CatalogView). Answers (λ u. u) (Err c.in-Err.fault) (statement_checked (database_scope v.database) s)) c.self.view_is c.in-Err.ensures in
    ok_map (λ a. (d : Database) → IsRefusedBy d c.in-Err.fault a) (λ a. Does (step_of db (effect db s)) a db)
    (λ a d. refused_does (λ u. u) c.in-Err.fault a db (statement_checked (database_scope db) s) (λ _. carried_out db s) told (d db)) c.answer_of_fault.result c.answer_of_fault.ensures.databases

pub returns-in-Err-clause-on : goal.returns-in-Err-clause-on
returns-in-Err-clause-on g c = stays _ _ refl
