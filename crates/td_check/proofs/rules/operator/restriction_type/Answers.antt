use Rattle.std.proofs.Common.{◌∙◌, refl, sym}
use Rattle.td_check.proofs.rules.operator.restriction_type.Goals as goal
use Rattle.td_tree.specs.declared.cause.Cause.TheVariants as causes
use Rattle.td_types.proofs.Valued.{answers_cause, answers_value}
use Rattle.td_types.specs.code.Views.{type_view}

pub returns-then-eq : goal.returns-then-eq
returns-then-eq c = answers_value _ (type_view c.args.relation) _ causes.TypeMismatch (sym c.eq.ensures.test ∙ c.if-eq.true) refl

pub returns-else-eq : goal.returns-else-eq
returns-else-eq c = answers_cause (type_view c.args.relation) _ causes.TypeMismatch (sym c.eq.ensures.test ∙ c.if-eq.false)
