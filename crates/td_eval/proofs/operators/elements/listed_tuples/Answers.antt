use Rattle.std.proofs.Common.{◌∙◌, ap, map, subst}
use Rattle.std.specs.List.{slice_get}
use Rattle.td_eval.proofs.code_lemmas.FittingTuples.{listed_by}
use Rattle.td_eval.specs.model.OperatorValues.{headed_value}
use Rattle.td_tree.specs.model.Outcomes.{Answers}
use Rattle.td_value.specs.model.Values.{Val, tuple_value}
use Rattle.td_eval.proofs.operators.elements.listed_tuples.Goals as goal

pub returns-in_ok-heading-in-Some : goal.returns-in_ok-heading-in-Some
returns-in_ok-heading-in-Some c =
    listed_by c.args.tuples.items c.in-Some.first.now _ (c.in-Some.ensures.value ∙ ap (λ ts. slice_get ts 0) c.deref.ensures.value)
    (subst (λ h. Answers (λ (v : Val). v) c.headed_tuples.result (headed_value h (map tuple_value c.args.tuples.items))) c.in_ok-heading-in-Some.ensures
    c.headed_tuples.ensures)
