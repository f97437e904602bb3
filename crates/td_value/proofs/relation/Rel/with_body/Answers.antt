use Rattle.std.proofs.Common.{◌∙◌, ap, sym, subst}
use Rattle.td_types.specs.model.Types.{IsHeading, pack}
use Rattle.td_value.specs.model.Values.{IsRelation, Relation, relation_view}
use Rattle.td_value.proofs.Changes.{relation_from}
use Rattle.td_value.proofs.relation.Rel.with_body.Goals as goal

pub invariant_of-result : goal.invariant_of-result
invariant_of-result c =
    let same = c.in_ok-heading.ensures.cases ∙ ap (λ (r : Relation). r.heading) c.self.view_is in
    let own = subst (λ h. IsHeading (pack h)) (c.deref.ensures ∙ same) c.reveal.ensures.heading in
    rw c.in_ok-rows.ensures.ok
    (subst (λ h. IsRelation (relation_view h c.args.rows.items)) (sym same) (relation_from c.args.self.now.heading c.args.rows.items c.requires.headed c.requires.ascending own))
