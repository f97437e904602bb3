use Rattle.td_plan.proofs.EqualNames.{names_are_asked, values_depend_on_names}
use Rattle.td_plan.proofs.equalities.values_depend_on_names.Goals as goal

pub returns-clause-values : goal.returns-clause-values
returns-clause-values c = values_depend_on_names

pub returns-clause-part : goal.returns-clause-part
returns-clause-part c = names_are_asked
