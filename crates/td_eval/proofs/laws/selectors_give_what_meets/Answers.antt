use Rattle.td_eval.proofs.law_lemmas.DroppedTypes.{drops_keep_what_meets}
use Rattle.td_eval.proofs.law_lemmas.LiteralValues.{selectors_give_what_meets}
use Rattle.td_eval.proofs.law_lemmas.MetConstraints.{later_types_keep_what_meets, what_selectors_give_meets}
use Rattle.td_eval.proofs.laws.selectors_give_what_meets.Goals as goal

pub returns-clause-values : goal.returns-clause-values
returns-clause-values c = selectors_give_what_meets

pub returns-clause-given : goal.returns-clause-given
returns-clause-given c = what_selectors_give_meets

pub returns-clause-later : goal.returns-clause-later
returns-clause-later c = later_types_keep_what_meets

pub returns-clause-dropped : goal.returns-clause-dropped
returns-clause-dropped c = drops_keep_what_meets
