use Rattle.std.proofs.Common.{◌∙◌, sym}
use Rattle.td_types.specs.code.Views as heads
use Rattle.td_value.specs.model.Values.{type_of}
use Rattle.td_value.proofs.Headed.{types_tie}
use Rattle.td_value.proofs.value.Value.has_type.Goals as goal

pub returns : goal.returns
returns c =
    let tie = types_tie (type_of c.args.self.now) (heads.type_view c.args.ty.now) in
    (λ e. tie.0 (sym c.has_type.ensures ∙ e), λ e. c.has_type.ensures ∙ tie.1 e)
