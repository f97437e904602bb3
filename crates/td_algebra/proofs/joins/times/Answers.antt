use Rattle.std.proofs.Common.{◌≡◌, ◌∙◌, subst, sym}
use Rattle.td_types.specs.model.Types.{IsHeading, pack}
use Rattle.td_algebra.specs.model.Operators.{join, product}
use Rattle.td_algebra.proofs.JoinEqualities.{apart_turned, product_commutes}
use Rattle.td_algebra.proofs.Joined.{apart_agree, product_join}
use Rattle.td_algebra.proofs.Keys.{if_ok}
use Rattle.td_algebra.proofs.Relations.{IsRelation-view}
use Rattle.td_algebra.proofs.joins.times.Goals as goal

pub ascending_product-requires-then-comes_before-2-clause-apart : goal.ascending_product-requires-then-comes_before-2-clause-apart
ascending_product-requires-then-comes_before-2-clause-apart c = apart_turned c.args.rel.now.heading c.args.other.now.heading c.requires

pub join-requires : goal.join-requires
join-requires c = apart_agree c.args.rel.now.heading c.args.other.now.heading c.requires

pub returns-then-comes_before-2 : goal.returns-then-comes_before-2
returns-then-comes_before-2 c =
    let r = c.args.rel.now in
    let s = c.args.other.now in
    let own = subst (λ h. IsHeading (pack h)) c.heading-then-comes_before-2.ensures c.reveal-then-comes_before-2-2.ensures.heading in
    let others = subst (λ h. IsHeading (pack h)) c.heading-then-comes_before-2-2.ensures c.reveal-then-comes_before-2-3.ensures.heading in
    let p = IsRelation-view r.heading r.body own c.reveal.ensures.headed c.reveal.ensures.ascending in
    let q = IsRelation-view s.heading s.body others c.reveal-then-comes_before-2.ensures.headed c.reveal-then-comes_before-2.ensures.ascending in
    if_ok (λ made. made ≡ product s r) (λ made. made ≡ product r s) c.ascending_product-then-comes_before-2.result
    (λ made e. e ∙ product_commutes r s p q c.requires) c.ascending_product-then-comes_before-2.ensures

pub returns : goal.returns
returns c =
    if_ok (λ r. r ≡ join c.args.rel.now c.args.other.now) (λ r. r ≡ product c.args.rel.now c.args.other.now) c.join.result
    (λ r e. e ∙ sym (product_join c.args.rel.now c.args.other.now c.requires)) c.join.ensures
