use Rattle.std.proofs.Common.{sym}
use Rattle.td_eval.proofs.code_lemmas.Selectors.{later_placed, none_placed}
use Rattle.td_eval.proofs.lent_world.LentWorld.selector.Goals as goal

pub returns-in_err-place-clause-none : goal.returns-in_err-place-clause-none
returns-in_err-place-clause-none g c =
    rw c.from_residual.ensures (none_placed c.args.self.now c.args.name.now c.requires (sym (c.in_err-place.ensures)))

pub returns-else-place-self-clause-none : goal.returns-else-place-self-clause-none
returns-else-place-self-clause-none g c =
    later_placed c.args.self.now c.args.name.now c.requires c.in_ok-place.place (sym (c.in_ok-place.ensures)) c.if-place-self.false
