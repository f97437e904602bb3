use Rattle.std.proofs.Common.{◌∙◌, ap, map, subst, sym}
use Rattle.std.specs.Prelude.{IfSome}
use Rattle.std.specs.List.{All}
use Rattle.td_algebra.proofs.Projections.{IsTupleOf-projected}
use Rattle.td_plan.proofs.PartnerLaws.{partners_on_part}
use Rattle.td_plan.specs.code.Partners.{IsPartOn, has_partner}
use Rattle.td_types.specs.model.Headings.{projection}
use Rattle.td_types.specs.model.Types.{attribute_names}
use Rattle.td_value.specs.model.Values.{IsTupleOf}
use Rattle.td_plan.proofs.running.partners.value_by_partners.Goals as goal

pub have_partners-requires-clause-headed : goal.have_partners-requires-clause-headed
have_partners-requires-clause-headed g c = λ k d l.
    let key = c.in-Some.key.now in
    let h = c.args.rel.now.heading in
    let part = c.args.part.now in
    let parts =
    subst (λ o. IfSome o (λ k. IsPartOn k.1.now c.heading.result.now part × IsPartOn k.1.now c.args.entry.now.heading part)) c.in-Some.is c.in_ok-place.ensures.parts in
    let headed = subst (All (IsTupleOf h)) (sym c.rows.ensures.rows) c.rows.ensures.headed in
    (IsTupleOf-projected key h _ (headed k d l)).1 ∙ ap (projection key) (sym c.heading.ensures) ∙ parts.0.1 ∙ sym parts.1.1

pub returns : goal.returns
returns g c =
    let key = c.in-Some.key.now in
    let part = c.args.part.now in
    let b = g.B.Body.relation c.args.entry.now.body in
    let parts =
    subst (λ o. IfSome o (λ k. IsPartOn k.1.now c.heading.result.now part × IsPartOn k.1.now c.args.entry.now.heading part)) c.in-Some.is c.in_ok-place.ensures.parts in
    c.in_ok-value_asked.ensures (has_partner (attribute_names part) b)
    (c.deref-2.ensures.value ∙ c.in_ok-truths.ensures
    ∙ (λ i. map (λ t. sym (partners_on_part key c.args.entry.now.heading part parts.1 b t) i) (c.rows.ensures.rows i)))
