-- The expressions of operators, by how many operands they have.
use Rattle.td_plan.specs.code.Plans as plans
use Rattle.td_tree.specs.model.Trees.{Tree}
use Rattle.td_tree.specs.model.Trees as trees

abbrev pub monadic_tree : plans.Monadic → Tree → Tree
monadic_tree (plans.prefix op) d = trees.prefix op d
monadic_tree (plans.extract a) d = trees.extract a d
monadic_tree (plans.postfix op) d = trees.postfix d op
monadic_tree (plans.component rest) d = trees.component rest d
monadic_tree (plans.measure op) d = trees.measure op d

abbrev pub dyadic_tree : Tree → plans.Dyadic → Tree → Tree
dyadic_tree d (plans.operator op) e = trees.binary d op e
dyadic_tree d (plans.comparison op) e = trees.compare d op e
