use Rattle.std.proofs.Common.{refl}
use Rattle.td_tree.specs.code.Initials.{are_apart, begins}
use Rattle.td_tree.proofs.keyword.Keyword.of_word.Goals as goal

pub word_among-requires : goal.word_among-requires
unfolding are_apart begins
word_among-requires c = (refl, refl, refl)
