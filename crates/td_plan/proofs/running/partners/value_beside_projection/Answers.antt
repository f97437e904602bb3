use Rattle.std.proofs.Common.{◌≡◌, ◌∙◌, refl, subst, sym}
use Rattle.std.specs.Prelude.{IfSome}
use Rattle.td_eval.specs.model.Worlds.{known_outcome}
use Rattle.td_plan.proofs.PartnerValues.{beside_projection, found_then}
use Rattle.td_plan.specs.code.Hands.{world_around}
use Rattle.td_plan.specs.code.StepViews.{dyadic_view}
use Rattle.td_tree.specs.model.Outcomes.{Valued}
use Rattle.td_types.specs.model.Headings.{projected_heading}
use Rattle.td_plan.proofs.running.partners.value_beside_projection.Goals as goal

pub returns-in-Some-2 : goal.returns-in-Some-2
returns-in-Some-2 g c =
    let base = c.in-Some-larger_base in
    let names = c.args.names.now in
    let part = c.in-Some-2.part in
    let b = g.B.Body.relation base.entry.now.body in
    let o = known_outcome ((world_around c.args.around.now).relvar c.args.name.now) in
    let projected = subst (λ f. IfSome f (λ h. projected_heading names base.entry.now.heading ≡ Valued h)) c.in-Some-2.is (c.in_ok-part.ensures _ c.project.ensures.answer) in
    let of_body = subst (λ h. projected_heading names h ≡ Valued part) (sym base.ensures.entry.heading_is) projected in
    let same : part ≡ c.args.rel.now.heading = c.if-eq.ensures.same.0 refl ∙ c.heading.ensures in
    found_then _ _ c.value_by_partners.result
    (λ v found. beside_projection (dyadic_view c.args.op) c.in-Some.asked c.args.rel.now b o part v base.ensures.value found names c.in-Some.ensures base.ensures.valid c.reveal.ensures.headed of_body same)
    c.value_by_partners.ensures
