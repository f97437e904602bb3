use Rattle.std.proofs.Common.{◌∙◌, ap, subst, sym}
use Rattle.td_algebra.proofs.Relations.{IsRelation-view}
use Rattle.td_algebra.specs.model.Operators.{difference}
use Rattle.td_body.proofs.Differences.{led_over}
use Rattle.td_body.specs.model.Bodies.{after_change}
use Rattle.td_types.specs.model.Types.{Heading, IsHeading, pack}
use Rattle.td_value.specs.model.Values.{IsRelation}
use Rattle.td_engine.proofs.change.Change.between.Goals as goal

pub returns-clause-after : goal.returns-clause-after
returns-clause-after c =
    let r = c.args.relation.now in
    let s = c.args.other.now in
    let headed : IsHeading (pack r.heading) = subst (λ (k : Heading). IsHeading (pack k)) c.heading.ensures c.reveal.ensures.heading in
    let first : IsRelation r = IsRelation-view r.heading r.body headed c.reveal-2.ensures.headed c.reveal-2.ensures.ascending in
    let there : IsHeading (pack s.heading) = subst (λ (k : Heading). IsHeading (pack k)) (sym c.requires) headed in
    let second : IsRelation s = IsRelation-view s.heading s.body there c.reveal-3.ensures.headed c.reveal-3.ensures.ascending in
    ap (λ o. after_change o c.in_ok-add.add r) c.in_ok-out.ensures ∙ ap (λ a. after_change (difference r s) a r) c.in_ok-add.ensures
    ∙ led_over r s (first, second, sym c.requires)
