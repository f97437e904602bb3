use Rattle.std.proofs.Common.{◌≡◌, ◌∙◌, ap, subst, sym}
use Rattle.td_algebra.proofs.Keys.{if_ok}
use Rattle.td_algebra.proofs.Relations.{IsRelation-view}
use Rattle.td_types.specs.model.Types.{IsHeading, pack}
use Rattle.td_value.specs.model.Values.{IsRelation, relation_view}
use Rattle.td_body.specs.model.Bodies.{after_change}
use Rattle.td_body.specs.code.Members.{Members}
use Rattle.td_body.proofs.Differences.{replaced}
use Rattle.td_body.proofs.hashed.body.changed_members.Goals as goal

pub returns-then-are-clause-relation : goal.returns-then-are-clause-relation
returns-then-are-clause-relation c =
    let r = c.args.members.now.relation in
    let out = c.args.out.now in
    let add = c.args.add.now in
    let body : r.body ≡ out.body = c.are.ensures c.if-are.true ∙ c.rows.ensures.rows in
    let same : out ≡ r = λ i. relation_view (c.requires.out i) (sym body i) in
    let valid : IsRelation add =
    IsRelation-view add.heading add.body (subst (λ h. IsHeading (pack h)) (sym c.requires.add) c.reveal.ensures.2) c.reveal-2.ensures.headed c.reveal-2.ensures.ascending in
    let all : after_change out add r ≡ add = ap (λ o. after_change o add r) same ∙ replaced r add (c.reveal.ensures, valid, sym c.requires.add) in
    let come : c.in_ok-try_clone.field-0 ≡ after_change out add r = c.in_ok-try_clone.ensures ∙ sym all in
    if_ok (λ (m : Members). m.relation ≡ c.in_ok-try_clone.field-0) (λ m. m.relation ≡ after_change out add r) c.renewed.result (λ m e. e ∙ come) c.renewed.ensures.relation
