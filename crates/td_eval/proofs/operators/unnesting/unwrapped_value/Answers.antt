use Rattle.std.proofs.Common.{◌∙◌, ap, subst, sym}
use Rattle.td_eval.proofs.code_lemmas.OpHeadings.{given_where}
use Rattle.td_eval.proofs.code_lemmas.UnnestedParts.{tuple_there}
use Rattle.td_eval.specs.model.OperatorValues.{relation_where}
use Rattle.td_group.specs.model.Nesting.{can_unnest, unnested_relation}
use Rattle.td_tree.specs.model.Outcomes.{Answers}
use Rattle.td_value.specs.model.Values.{Val}
use Rattle.td_eval.proofs.operators.unnesting.unwrapped_value.Goals as goal

pub unwrap-requires-clause-tuple : goal.unwrap-requires-clause-tuple
unwrap-requires-clause-tuple c =
    (tuple_there c.args.name.now c.heading.result.now c.args.rel.now.heading c.in_ok-tuple_part.field-0.now c.heading.ensures c.in_ok-tuple_part.ensures).0

pub unwrap-requires-clause-apart : goal.unwrap-requires-clause-apart
unwrap-requires-clause-apart c = ap (can_unnest c.args.name.now) (sym c.heading-2.ensures) ∙ sym c.can_unnest.ensures ∙ c.in_ok-fit.ensures.fits

pub returns : goal.returns
returns c =
    let name = c.args.name.now in
    let r = c.args.rel.now in
    let there = tuple_there name c.heading.result.now r.heading c.in_ok-tuple_part.field-0.now c.heading.ensures c.in_ok-tuple_part.ensures in
    let apart = ap (can_unnest name) (sym c.heading-2.ensures) ∙ sym c.can_unnest.ensures ∙ c.in_ok-fit.ensures.fits in
    subst (Answers (λ (v : Val). v) c.as_value.result) (sym (there.2 (relation_where (can_unnest name r.heading) (unnested_relation name r))))
    (given_where (can_unnest name r.heading) (unnested_relation name r) c.as_value.result apart (c.as_value.ensures (unnested_relation name r) c.unwrap.ensures))
