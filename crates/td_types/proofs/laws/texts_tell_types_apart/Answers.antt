use Rattle.std.proofs.Common.{[], ◌++◌, ap}
use Rattle.td_types.specs.model.Texts.{type_text}
use Rattle.td_types.proofs.TypeTexts.{type_cut}
use Rattle.td_types.proofs.laws.texts_tell_types_apart.Goals as goal

pub returns : goal.returns
returns c = λ s t p q. ((λ e. (type_cut s t p q [] [] tt tt (ap (λ x. x ++ []) e)).0), (λ e. ap type_text e))
