use Rattle.td_eval.proofs.code_lemmas.OpComparisons.{type_test}
use Rattle.td_types.specs.code.Views.{type_view}
use Rattle.td_value.specs.model.Values.{type_of}
use Rattle.td_eval.proofs.operators.requirements.is_of.Goals as goal

pub returns : goal.returns
returns c = type_test (type_of c.args.value.now) (type_view c.args.ty.now) c.has_type.result c.has_type.ensures
