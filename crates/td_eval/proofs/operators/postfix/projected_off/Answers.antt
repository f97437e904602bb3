use Rattle.std.proofs.Common.{◌≡◌, ◌∙◌, ap, subst, sym, true}
use Rattle.std.specs.Prelude.{IfOk}
use Rattle.td_algebra.specs.model.Operators.{projected_relation}
use Rattle.td_eval.proofs.code_lemmas.OpHeadings.{given_where, outside_projected}
use Rattle.td_tree.specs.declared.cause.Cause.TheVariants as causes
use Rattle.td_types.proofs.OutcomeLaws.{value_of_test}
use Rattle.td_types.specs.model.Headings.{has_projection, outside, projection}
use Rattle.td_types.specs.model.Types.{IsHeading, attribute_names, pack}
use Rattle.td_eval.proofs.operators.postfix.projected_off.Goals as goal

pub project-requires-2 : goal.project-requires-2
project-requires-2 c =
    let rest : c.in_ok-rest.rest ≡ outside c.in_ok-named.named c.args.rel.now.heading =
    c.in_ok-rest.ensures.heading ∙ ap (outside c.in_ok-named.named) c.heading-2.ensures in
    let kept : c.deref.result.now ≡ attribute_names (outside c.in_ok-named.named c.args.rel.now.heading) =
    c.deref.ensures.value ∙ c.in_ok-kept.ensures ∙ ap attribute_names rest in
    subst (λ ns. has_projection ns c.args.rel.now.heading ≡ true) (sym kept)
    (outside_projected c.in_ok-named.named c.args.rel.now.heading (subst (λ h. IsHeading (pack h)) rest c.reveal.ensures.heading))

pub returns : goal.returns
returns c =
    let test = value_of_test (has_projection c.args.names.now c.heading.result.now) (projection c.args.names.now c.heading.result.now) c.in_ok-named.named causes.Heading c.in_ok-named.ensures.answer in
    let named : c.in_ok-named.named ≡ projection c.args.names.now c.args.rel.now.heading =
    sym test.1 ∙ ap (projection c.args.names.now) c.heading.ensures in
    let kept : c.deref.result.now ≡ attribute_names (outside (projection c.args.names.now c.args.rel.now.heading) c.args.rel.now.heading) =
    c.deref.ensures.value ∙ c.in_ok-kept.ensures ∙ ap attribute_names c.in_ok-rest.ensures.heading
    ∙ (λ i. attribute_names (outside (named i) (c.heading-2.ensures i))) in
    given_where _ (projected_relation (attribute_names (outside (projection c.args.names.now c.args.rel.now.heading) c.args.rel.now.heading)) c.args.rel.now) _
    (subst (λ h. has_projection c.args.names.now h ≡ true) c.heading.ensures test.0)
    (c.as_value.ensures (projected_relation (attribute_names (outside (projection c.args.names.now c.args.rel.now.heading) c.args.rel.now.heading)) c.args.rel.now)
    (subst (λ ns. IfOk c.project-2.result (λ r. r ≡ projected_relation ns c.args.rel.now)) kept c.project-2.ensures))
