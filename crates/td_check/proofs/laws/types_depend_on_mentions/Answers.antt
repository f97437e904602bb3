use Rattle.td_check.proofs.StaticLaws.{depends, made_of_mentions}
use Rattle.td_check.proofs.laws.types_depend_on_mentions.Goals as goal

pub returns-clause-same : goal.returns-clause-same
returns-clause-same c = depends

pub returns-clause-made : goal.returns-clause-made
returns-clause-made c = made_of_mentions
