use Rattle.std.proofs.Common.{[]}
use Rattle.td_eval.proofs.code_lemmas.OpElements.{made_of}
use Rattle.td_value.specs.model.Values.{relation_of}
use Rattle.td_eval.proofs.operators.literals.table_dum.Goals as goal

pub returns : goal.returns
returns c = c.as_value.ensures (relation_of [] []) (made_of _ _ [] _ [] c.empty.ensures c.new.ensures.items c.new-2.ensures.value)
