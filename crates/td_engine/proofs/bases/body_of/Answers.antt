use Rattle.std.proofs.Common.{◌≡◌, ◌∙◌, [], IfOk, ap, subst, sym}
use Rattle.td_body.specs.model.Bodies.{after_change}
use Rattle.td_body.proofs.Differences.{replaced}
use Rattle.td_value.specs.model.Values.{IsRelation, Relation, relation_view}
use Rattle.td_types.specs.model.Types.{IsHeading, pack}
use Rattle.td_algebra.proofs.Relations.{IsRelation-view}
use Rattle.td_engine.proofs.bases.body_of.Goals as goal

pub returns-clause-relation : goal.returns-clause-relation
returns-clause-relation g c =
    let s = c.args.relation in
    let r = g.B.Body.relation c.in_ok-empty.empty in
    let empty-is : r ≡ relation_view s.heading [] =
    c.in_ok-empty.ensures.relation ∙ ap (λ h. relation_view h []) (c.in_ok-try_clone.ensures ∙ c.heading.ensures) in
    let headed : IsHeading (pack s.heading) = subst (λ (q : Relation). IsHeading (pack q.heading)) empty-is c.len.ensures.valid.2 in
    let valid : IsRelation s = IsRelation-view s.heading s.body headed c.reveal.ensures.headed c.reveal.ensures.ascending in
    subst (λ q. IfOk c.body_after.result (λ b. g.B.Body.relation b ≡ q))
    (ap (λ o. after_change o s r) (c.in_ok-none.ensures ∙ sym empty-is) ∙ replaced r s (c.len.ensures.valid, valid, ap (λ (q : Relation). q.heading) empty-is))
    c.body_after.ensures.relation
