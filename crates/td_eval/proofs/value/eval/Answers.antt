use Rattle.std.proofs.Common.{◌∙◌, reverse, subst}
use Rattle.td_eval.proofs.code_lemmas.TypedAnswers.{answers_type}
use Rattle.td_eval.proofs.code_lemmas.TypedTrees.{values_keep_types}
use Rattle.td_eval.specs.code.LentWorlds.{seen_by, tuples_in_hand, world_in}
use Rattle.td_eval.specs.model.TreeValues.{value_of}
use Rattle.td_eval.specs.laws.ValueTypes.{KeepsType}
use Rattle.td_tree.specs.model.Outcomes.{Answers}
use Rattle.td_tree.specs.code.TreeViews.{tree_view}
use Rattle.td_value.specs.model.Values.{Val}
use Rattle.td_eval.proofs.value.eval.Goals as goal

pub returns : goal.returns
returns g c =
    let env = c.args.env.now in
    let tuples = tuples_in_hand env in
    let tree = tree_view c.args.expr.now in
    let value : Answers (λ (v : Val). v) c.value_of.result (value_of (world_in env) tuples tree) =
    subst (λ w. Answers (λ (v : Val). v) c.value_of.result (value_of w tuples tree)) c.of_env-lent.ensures.exact
    (subst (λ ts. Answers (λ (v : Val). v) c.value_of.result (value_of (seen_by c.of_env-lent.result) (reverse ts) tree)) (c.deref.ensures.value ∙ c.in_ok-copies_of_lent.ensures) c.value_of.ensures) in
    record {
      value = value;
      typed = λ scope keeps is.
          answers_type scope.types is.typed.0 (value_of (world_in env) tuples tree) c.value_of.result value
          (subst (λ o. KeepsType scope.types o (value_of (world_in env) tuples tree)) is.typed.1
          (values_keep_types (world_in env) scope tuples tree keeps is.tuples is.written));
    }
