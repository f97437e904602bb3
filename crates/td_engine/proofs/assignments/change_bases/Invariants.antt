use Rattle.td_engine.proofs.assignments.change_bases.Given as goal

abbrev pub ghost-put_all_assigned : goal.ghost-put_all_assigned
ghost-put_all_assigned g a = g.db
