use Rattle.std.proofs.Common.{◌≡◌, subst, sym}
use Rattle.td_value.specs.model.Values.{HaveSameMembers}
use Rattle.td_algebra.specs.code.Pairs.{partners_paired}
use Rattle.td_algebra.proofs.Keys.{if_ok}
use Rattle.td_algebra.proofs.joins.partners_of_either.Goals as goal

pub returns-else-rows : goal.returns-else-rows
returns-else-rows c =
    if_ok (λ pairs. pairs.items ≡ partners_paired c.args.left_out.now c.args.rel.now c.args.other.now)
    (λ pairs. HaveSameMembers pairs.items (partners_paired c.args.left_out.now c.args.rel.now c.args.other.now)) c.pairs_from_first.result
    (λ pairs e. subst (λ ts. HaveSameMembers ts (partners_paired c.args.left_out.now c.args.rel.now c.args.other.now)) (sym e) (λ t. (λ d. d, λ d. d)))
    c.pairs_from_first.ensures
