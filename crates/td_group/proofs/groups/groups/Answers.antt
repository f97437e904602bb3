use Rattle.std.proofs.Common.{◌∙◌, subst, sym}
use Rattle.std.specs.Prelude.{IsTrue}
use Rattle.td_tree.specs.declared.cause.Cause.TheVariants as causes
use Rattle.td_types.specs.model.Headings.{common_part, has_attributes}
use Rattle.td_types.specs.model.Types.{attribute_names}
use Rattle.td_algebra.proofs.Taken.{value_of_answer}
use Rattle.td_algebra.proofs.OnNames.{common_there}
use Rattle.td_group.proofs.groups.groups.Goals as goal

pub groups_on-requires-clause-rel : goal.groups_on-requires-clause-rel
groups_on-requires-clause-rel c =
    let common = value_of_answer c.common.result c.in_ok-common.common _ _ causes.Heading c.common.ensures.answer c.in_ok-common.ensures
    ∙ (λ i. common_part (c.heading-2.ensures i) (c.heading-3.ensures i)) in
    subst (λ h. IsTrue (has_attributes (attribute_names h) c.args.rel.now.heading)) (sym common) (common_there c.args.per.now.heading c.args.rel.now.heading).0

pub groups_on-requires-clause-per : goal.groups_on-requires-clause-per
groups_on-requires-clause-per c =
    let common = value_of_answer c.common.result c.in_ok-common.common _ _ causes.Heading c.common.ensures.answer c.in_ok-common.ensures
    ∙ (λ i. common_part (c.heading-2.ensures i) (c.heading-3.ensures i)) in
    subst (λ h. IsTrue (has_attributes (attribute_names h) c.args.per.now.heading)) (sym common) (common_there c.args.per.now.heading c.args.rel.now.heading).1
