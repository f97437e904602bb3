use Rattle.std.proofs.Common.{◌∙◌, ap}
use Rattle.td_check.proofs.CannotFail.{answered, when_false, when_true}
use Rattle.td_check.proofs.cannot_fail.cannot_fail.Goals as goal
use Rattle.td_check.proofs.cannot_fail.cannot_fail.Goals.{else-unfailing, then-unfailing}
use Rattle.td_check.specs.laws.CannotFail.{relvars_cannot_fail, unfailing}
use Rattle.td_check.specs.code.CheckViews.{names_view}
use Rattle.td_tree.specs.code.TreeViews.{tree_view}

pub returns : goal.returns
returns c =
    let s = c.args.scope.now in
    let e = tree_view c.args.expr.now in
    let n = names_view c.in_ok-seen.seen in
    let nodes = c.unfailing.ensures ∙ ap (λ ds. unfailing ds e) c.types.ensures in
    answered s e n c.if-unfailing.result c.in_ok-seen.ensures
    (elim c.if-unfailing.branch [
      | then-unfailing w ↦
          w.result-is ∙ w.relvars_cannot_fail.ensures
          ∙ when_true c.unfailing.result (unfailing s.types e) (relvars_cannot_fail s.relvars n.0) w.if-unfailing.true nodes
      | else-unfailing w ↦
          w.result-is ∙ when_false c.unfailing.result (unfailing s.types e) (relvars_cannot_fail s.relvars n.0) w.if-unfailing.false nodes
    ])
