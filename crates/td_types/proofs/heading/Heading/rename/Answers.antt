use Rattle.std.proofs.Common.{ap, ◌∙◌, refl}
use Rattle.td_types.specs.model.Headings.{renamed_attributes}
use Rattle.td_types.proofs.HeadingLaws.{type_at-renamed}
use Rattle.td_types.specs.model.Types.{type_at}
use Rattle.td_types.specs.code.Views.{heading_view}
use Rattle.td_types.proofs.Attributes.{added_all}
use Rattle.td_types.proofs.heading.Heading.rename.Goals as goal

pub returns-clause-types : goal.returns-clause-types
returns-clause-types c = λ n.
    ap (type_at n) (added_all _ _ (λ items. renamed_attributes c.args.renamings.now (heading_view items)) _ _ refl c.loop-attribute-test.false c.loop-attribute.invariant)
    ∙ type_at-renamed c.args.renamings.now n c.args.self.now
