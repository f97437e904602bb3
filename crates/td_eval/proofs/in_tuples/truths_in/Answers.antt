use Rattle.std.proofs.Common.{◌∙◌, ◌∷◌, Bool, map, reverse, subst}
use Rattle.std.specs.Global.{Vec}
use Rattle.td_eval.specs.model.OperatorValues.{truth_value}
use Rattle.td_eval.specs.code.LentWorlds.{seen_by, tuples_in_hand}
use Rattle.td_eval.specs.model.TreeValues.{value_of}
use Rattle.td_tree.specs.model.Outcomes.{Answers, gathered}
use Rattle.td_tree.specs.code.TreeViews.{tree_view}
use Rattle.td_eval.proofs.in_tuples.truths_in.Goals as goal

pub returns : goal.returns
returns g c =
    let env = c.args.env.now in
    let tree = tree_view c.args.condition.now in
    let view = λ (m : Vec Bool). m.items in
    subst (λ w. Answers view c.truths.result (gathered (map (λ t. truth_value (value_of w (t ∷ tuples_in_hand env) tree)) c.args.rel.now.body))) c.of_env-lent.ensures.exact
    (subst (λ ts. Answers view c.truths.result (gathered (map (λ t. truth_value (value_of (seen_by c.of_env-lent.result) (t ∷ reverse ts) tree)) c.args.rel.now.body)))
    (c.deref.ensures.value ∙ c.in_ok-copies_of_lent.ensures) c.truths.ensures)
