use Rattle.td_parse.proofs.levels.+expression.Given as goal

abbrev pub decreases-expression : goal.decreases-expression
decreases-expression l = l.depth
