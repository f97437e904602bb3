use Rattle.td_types.proofs.TypeSpellings.{texts_spell}
use Rattle.td_types.proofs.laws.type_texts_spell_their_trees.Goals as goal

pub returns : goal.returns
returns c = texts_spell
