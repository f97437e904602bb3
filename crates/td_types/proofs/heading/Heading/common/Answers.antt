use Rattle.std.proofs.Common.{◌≡◌, sym, ap, ◌∙◌, subst}
use Rattle.td_types.specs.model.Headings.{common_part}
use Rattle.td_types.proofs.HeadingLaws.{IsHeading-filter, type_at-common}
use Rattle.td_types.specs.model.Types.{IsHeading, pack, type_at}
use Rattle.td_types.specs.code.Views.{heading_view}
use Rattle.td_types.proofs.Attributes.{kept_all}
use Rattle.td_types.proofs.heading.Heading.common.Goals as goal

pub invariant_of-result : goal.invariant_of-result
invariant_of-result c =
    let kept : heading_view c.loop-attribute.attributes.items ≡ common_part c.args.self.now c.args.other.now =
    kept_all _ _ _ _ _ c.loop-attribute-test.false c.loop-attribute.invariant in
    subst (λ h. IsHeading (pack h)) (sym kept) (IsHeading-filter _ _ (subst (λ h. IsHeading (pack h)) c.self.view_is c.self.invariant))

pub returns-clause-types : goal.returns-clause-types
returns-clause-types c = λ n.
    let kept : heading_view c.loop-attribute.attributes.items ≡ common_part c.args.self.now c.args.other.now =
    kept_all _ _ _ _ _ c.loop-attribute-test.false c.loop-attribute.invariant in
    ap (type_at n) kept ∙ type_at-common n c.args.self.now c.args.other.now
