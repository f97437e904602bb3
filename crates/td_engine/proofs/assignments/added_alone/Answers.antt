use Rattle.std.proofs.Common.{refl, subst}
use Rattle.td_algebra.proofs.Relations.{IsRelation-view}
use Rattle.td_types.specs.model.Types.{Heading, IsHeading, pack}
use Rattle.td_engine.proofs.assignments.added_alone.Goals as goal

pub returns : goal.returns
returns c =
    let change = c.in_ok-relvar.change.now in
    let headed : IsHeading (pack change.add.heading) = subst (λ (h : Heading). IsHeading (pack h)) c.heading.ensures c.reveal.ensures.heading in
    (change, c.in_ok-relvar.ensures, refl, IsRelation-view change.add.heading change.add.body headed c.reveal-2.ensures.headed c.reveal-2.ensures.ascending)
