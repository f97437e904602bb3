use Rattle.std.proofs.Common.{◌≡◌, ◌∙◌, length, subst, sym}
use Rattle.td_algebra.proofs.Relations.{IsRelation-relation_of}
use Rattle.td_types.specs.model.Types.{IsHeading, pack}
use Rattle.td_value.specs.model.Values.{IsRelation, IsTupleOf}
use Rattle.td_body.specs.code.Numbered.{live}
use Rattle.td_body.proofs.RowSteps.{all_live}
use Rattle.td_body.proofs.StepLaws.{length_set}
use Rattle.td_body.proofs.hashed.members.Members.len.Goals as goal

pub returns-clause-length : goal.returns-clause-length
returns-clause-length c = subst (λ s. c.self.inside.alive.now ≡ length s.relation.body) c.self.view_is
    (c.self.invariant.counted ∙ sym (length_set (live c.self.inside.rows.rows c.self.inside.rows.gone) c.self.invariant.apart))

pub returns-clause-valid : goal.returns-clause-valid
returns-clause-valid c =
    let rows = c.self.inside.rows in
    subst (λ s. IsRelation s.relation) c.self.view_is
    (IsRelation-relation_of rows.heading (live rows.rows rows.gone) (subst (λ h. IsHeading (pack h)) c.heading.ensures c.reveal.ensures.heading)
    (all_live (IsTupleOf rows.heading) rows.rows rows.gone c.count-count.ensures.headed))
