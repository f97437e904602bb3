use Rattle.std.proofs.Common.{◌≡◌, ◌∙◌, refl, filter, length}
use Rattle.td_algebra.specs.model.Operators.{are_partners}
use Rattle.td_algebra.specs.code.Pairs.{pair_tuple, pairs_with, partners_paired}
use Rattle.td_algebra.proofs.Joined.{first_paired, from_first}
use Rattle.td_algebra.proofs.Keys.{if_ok}
use Rattle.td_algebra.proofs.joins.pairs_from_first.Goals as goal

pub partner_pairs-requires : goal.partner_pairs-requires
partner_pairs-requires c =
    first_paired c.args.left_out.now c.args.rel.now c.args.other.now c.heading-heading.result.now c.heading-others.result.now c.heading-heading.ensures c.heading-others.ensures c.len.result (length c.heading-others.result.now) c.len.ensures refl
    c.reveal.ensures.headed c.reveal-2.ensures.headed c.in_ok-layout.layout c.in_ok-layout.ensures

pub returns : goal.returns
returns c =
    if_ok (λ pairs. pairs.items ≡ pairs_with (λ t. filter (are_partners c.args.rel.now c.args.other.now t) c.args.other.now.body) (pair_tuple c.in_ok-layout.layout) c.args.rel.now.body)
    (λ pairs. pairs.items ≡ partners_paired c.args.left_out.now c.args.rel.now c.args.other.now) c.partner_pairs.result
    (λ pairs e. e
    ∙ from_first c.args.left_out.now c.args.rel.now c.args.other.now c.heading-heading.result.now c.heading-others.result.now c.heading-heading.ensures c.heading-others.ensures c.len.result (length c.heading-others.result.now) c.len.ensures refl
    c.reveal.ensures.headed c.reveal-2.ensures.headed c.in_ok-layout.layout c.in_ok-layout.ensures)
    c.partner_pairs.ensures
