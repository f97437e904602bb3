use Rattle.std.proofs.Common.{◌≡◌, false, sym, ap, ◌∙◌}
use Rattle.std.specs.Prelude.{is_some, not}
use Rattle.td_types.specs.model.Types.{type_at}
use Rattle.td_types.specs.code.Views.{type_view}
use Rattle.td_types.proofs.HeadingLaws.{type_at-with}
use Rattle.td_types.proofs.Attributes.{found}
use Rattle.td_tree.specs.declared.cause.Cause.TheVariants as causes
use Rattle.td_types.specs.model.Headings.{with_attribute}
use Rattle.td_types.proofs.Valued.{answers_value}
use Rattle.td_types.proofs.heading.Heading.with.Goals as goal

pub returns-clause-answer : goal.returns-clause-answer
returns-clause-answer c =
    let none : is_some (type_at c.args.name c.args.self) ≡ false = found _ _ _ c.get.ensures ∙ sym c.is_some.ensures ∙ c.if-is_some.false in
    answers_value _ (with_attribute c.args.self (c.args.name, type_view c.args.ty)) _ causes.Heading (ap not none) (rw none at c.in_ok-add.ensures)

pub returns-clause-types : goal.returns-clause-types
returns-clause-types c = λ n.
    let none : is_some (type_at c.args.name c.args.self) ≡ false = found _ _ _ c.get.ensures ∙ sym c.is_some.ensures ∙ c.if-is_some.false in
    rw (c.in_ok-add.ensures, none) (type_at-with n c.args.name (type_view c.args.ty) c.args.self)
