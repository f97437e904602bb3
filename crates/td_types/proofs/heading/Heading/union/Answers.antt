use Rattle.std.proofs.Common.{ap, ◌∙◌, refl}
use Rattle.td_types.proofs.HeadingLaws.{type_at-union}
use Rattle.td_types.specs.model.Types.{type_at}
use Rattle.td_types.specs.code.Views.{heading_view}
use Rattle.td_types.proofs.Attributes.{added_all}
use Rattle.td_types.proofs.heading.Heading.union.Goals as goal

pub returns-clause-types : goal.returns-clause-types
returns-clause-types c = λ n.
    ap (type_at n) (added_all _ _ heading_view _ _ refl c.loop-attribute-test.false c.loop-attribute.invariant)
    ∙ type_at-union n c.args.self.now c.args.other.now
