use Rattle.std.proofs.Common.{◌∙◌, sym}
use Rattle.td_types.specs.code.Views.{type_view}
use Rattle.td_check.proofs.Comparisons.{equal_valued, relation_refused, unlike_refused}
use Rattle.td_check.proofs.rules.operator.equality_type.Goals as goal
use Rattle.td_check.proofs.rules.operator.equality_type.Goals.{in_default-via-in-Rel+in_default, in_default-via-in_default}

pub returns-then-eq : goal.returns-then-eq
returns-then-eq c = equal_valued (type_view c.args.first.now) (type_view c.args.second.now) (sym c.eq.ensures ∙ c.if-eq.true)

pub returns-in_default : goal.returns-in_default
returns-in_default c =
    elim c.in_default.branch [
      | in_default-via-in-Rel+in_default w ↦
          relation_refused c.args.first.now c.args.second.now w.in_default.field-0-0 w.in_default.is-0 w.in_default.not-Rel-1
      | in_default-via-in_default w ↦
          unlike_refused c.args.first.now c.args.second.now w.in_default.not-Rel-0 (sym c.eq.ensures ∙ c.if-eq.false)
    ]
