use Rattle.std.proofs.Common.{◌≡◌, ◌∙◌, []}
use Rattle.td_types.specs.model.Headings.{new_names}
use Rattle.td_types.specs.model.Types.{attribute_names}
use Rattle.td_algebra.proofs.Keys.{if_ok}
use Rattle.td_body.proofs.MembersLaws.{names_unchanged}
use Rattle.td_body.proofs.hashed.filled.attribute_names.Goals as goal

pub returns : goal.returns
returns c =
    if_ok (λ names. names.items ≡ new_names [] c.args.heading.now) (λ names. names.items ≡ attribute_names c.args.heading.now) c.new_names.result
    (λ names e. e ∙ names_unchanged c.args.heading.now) c.new_names.ensures
