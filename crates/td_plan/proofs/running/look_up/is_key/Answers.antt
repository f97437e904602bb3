use Rattle.std.proofs.Common.{◌∙◌, sym}
use Rattle.std.proofs.lemmas.Slice.Eq.{bytes_eq-Decides, slice_eq-Decides}
use Rattle.td_plan.proofs.running.look_up.is_key.Goals as goal

pub returns : goal.returns
returns c = λ is.
    sym c.as_slice.ensures.value ∙ (slice_eq-Decides bytes_eq-Decides c.as_slice.result.now c.args.key.now c.eq.result c.eq.ensures).0 is
