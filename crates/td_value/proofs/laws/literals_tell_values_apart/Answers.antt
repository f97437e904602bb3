use Rattle.std.proofs.Common.{ap, [], ◌++◌}
use Rattle.td_value.specs.model.Literal.{literal}
use Rattle.td_value.proofs.Unread.{value_cut}
use Rattle.td_value.proofs.laws.literals_tell_values_apart.Goals as goal

pub returns : goal.returns
returns c = λ v w p q. ((λ e. (value_cut v w p q [] [] tt tt (ap (λ l. l ++ []) e)).0), (λ e. ap literal e))
