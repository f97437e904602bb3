use Rattle.td_algebra.proofs.Fitting.{are_of_functions}
use Rattle.td_algebra.proofs.laws.fitting.lists_are_of_functions.Goals as goal

pub returns : goal.returns
returns c = are_of_functions
