use Rattle.td_engine.proofs.assignments.assign_each.Given as goal

abbrev pub ghost-change_bases : goal.ghost-change_bases
ghost-change_bases g a = a.catalog.now.database
