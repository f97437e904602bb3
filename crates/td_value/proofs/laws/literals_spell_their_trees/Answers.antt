use Rattle.td_value.proofs.LiteralSpellings.{literals_spell}
use Rattle.td_value.proofs.laws.literals_spell_their_trees.Goals as goal

pub returns : goal.returns
returns c = literals_spell
