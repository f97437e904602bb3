use Rattle.std.proofs.Common.{ap, subst}
use Rattle.td_types.specs.model.Types.{IsHeading, pack}
use Rattle.td_body.specs.model.Bodies.{BodyView}
use Rattle.td_value.specs.model.Values.{IsRelation}
use Rattle.td_value.proofs.Changes.{relation_from}
use Rattle.td_body.proofs.sorted.SortedBodyBody.len.Goals as goal

pub returns-clause-valid : goal.returns-clause-valid
returns-clause-valid c =
    let r = c.self.inside.relation in
    subst IsRelation (ap (λ (b : BodyView). b.relation) c.self.view_is)
    (relation_from r.heading r.body c.rows.ensures.headed c.rows.ensures.ascending (subst (λ h. IsHeading (pack h)) c.heading.ensures c.reveal.ensures.heading))
