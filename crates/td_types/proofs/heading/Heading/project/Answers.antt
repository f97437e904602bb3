use Rattle.std.proofs.Common.{◌≡◌, sym, ap, ◌∙◌, subst}
use Rattle.td_types.specs.model.Headings.{projection}
use Rattle.td_types.proofs.HeadingLaws.{IsHeading-filter, type_at-projection}
use Rattle.td_types.specs.model.Types.{IsHeading, pack, type_at}
use Rattle.td_types.specs.code.Views.{heading_view}
use Rattle.td_types.proofs.Attributes.{kept_all}
use Rattle.td_types.proofs.heading.Heading.project.Goals as goal

pub invariant_of-result : goal.invariant_of-result
invariant_of-result c =
    let kept : heading_view c.loop-attribute.attributes.items ≡ projection c.args.names.now c.args.self.now =
    kept_all _ _ _ _ _ c.loop-attribute-test.false c.loop-attribute.invariant in
    subst (λ h. IsHeading (pack h)) (sym kept) (IsHeading-filter _ _ (subst (λ h. IsHeading (pack h)) c.self.view_is c.self.invariant))

pub returns-clause-types : goal.returns-clause-types
returns-clause-types c = λ n.
    let kept : heading_view c.loop-attribute.attributes.items ≡ projection c.args.names.now c.args.self.now =
    kept_all _ _ _ _ _ c.loop-attribute-test.false c.loop-attribute.invariant in
    ap (type_at n) kept ∙ type_at-projection c.args.names.now n c.args.self.now
