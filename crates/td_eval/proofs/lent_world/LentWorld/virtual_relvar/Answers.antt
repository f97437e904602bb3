use Rattle.std.proofs.Common.{sym}
use Rattle.td_eval.proofs.code_lemmas.VirtualValues.{is_late, is_none, is_outside, is_virtual, never_missing}
use Rattle.td_eval.proofs.lent_world.LentWorld.virtual_relvar.Goals as goal

pub returns-in_err-catalog-clause-none : goal.returns-in_err-catalog-clause-none
returns-in_err-catalog-clause-none g c = rw c.from_residual.ensures (is_outside c.args.self.now c.args.name.now c.in_err-catalog.was)

pub returns-in_err-place-clause-none : goal.returns-in_err-place-clause-none
returns-in_err-place-clause-none g c =
    rw c.from_residual-in_err-place.ensures (is_none c.args.self.now c.args.name.now c.in_ok-catalog.catalog c.in_ok-catalog.was (sym c.in_err-place.ensures))

pub returns-in_err-virtual_tree_at-clause-none : goal.returns-in_err-virtual_tree_at-clause-none
returns-in_err-virtual_tree_at-clause-none g c =
    absurd (never_missing c.args.name.now c.in_ok-catalog.catalog.now.database.virtuals c.in_ok-place.place (sym c.in_ok-place.ensures) (sym c.in_err-virtual_tree_at.ensures))

pub returns-in_ok-virtual_tree_at-clause-found : goal.returns-in_ok-virtual_tree_at-clause-found
returns-in_ok-virtual_tree_at-clause-found g c =
    is_virtual c.args.self.now c.args.name.now c.in_ok-catalog.catalog c.in_ok-place.place _ c.in_ok-catalog.was (sym c.in_ok-place.ensures) c.if-place-self.true
    (sym c.in_ok-virtual_tree_at.ensures)

pub returns-else-place-self-clause-none : goal.returns-else-place-self-clause-none
returns-else-place-self-clause-none g c =
    is_late c.args.self.now c.args.name.now c.in_ok-catalog.catalog c.in_ok-place.place c.in_ok-catalog.was (sym c.in_ok-place.ensures) c.if-place-self.false
