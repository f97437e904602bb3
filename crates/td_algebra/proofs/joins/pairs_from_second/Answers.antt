use Rattle.std.proofs.Common.{◌≡◌, refl, filter, length, subst, sym}
use Rattle.td_value.specs.model.Values.{HaveSameMembers}
use Rattle.td_algebra.specs.model.Operators.{are_partners}
use Rattle.td_algebra.specs.code.Pairs.{pair_tuple, pairs_with, partners_paired}
use Rattle.td_algebra.proofs.Joined.{from_second, second_paired}
use Rattle.td_algebra.proofs.Keys.{if_ok}
use Rattle.td_algebra.proofs.joins.pairs_from_second.Goals as goal

pub partner_pairs-requires : goal.partner_pairs-requires
partner_pairs-requires c =
    second_paired c.args.left_out.now c.args.rel.now c.args.other.now c.heading-heading.result.now c.heading-others.result.now c.heading-heading.ensures c.heading-others.ensures (length c.heading-heading.result.now) c.len.result refl c.len.ensures
    c.reveal.ensures.headed c.reveal-2.ensures.headed c.in_ok-layout.layout c.in_ok-layout.ensures

pub returns : goal.returns
returns c =
    if_ok (λ pairs. pairs.items ≡ pairs_with (λ u. filter (are_partners c.args.other.now c.args.rel.now u) c.args.rel.now.body) (pair_tuple c.in_ok-layout.layout) c.args.other.now.body)
    (λ pairs. HaveSameMembers pairs.items (partners_paired c.args.left_out.now c.args.rel.now c.args.other.now)) c.partner_pairs.result
    (λ pairs e. subst (λ ts. HaveSameMembers ts (partners_paired c.args.left_out.now c.args.rel.now c.args.other.now)) (sym e)
    (from_second c.args.left_out.now c.args.rel.now c.args.other.now c.heading-heading.result.now c.heading-others.result.now c.heading-heading.ensures c.heading-others.ensures (length c.heading-heading.result.now) c.len.result refl c.len.ensures
    c.reveal.ensures.headed c.reveal-2.ensures.headed c.in_ok-layout.layout c.in_ok-layout.ensures))
    c.partner_pairs.ensures
