use Rattle.std.proofs.Common.{◌∙◌, subst, sym}
use Rattle.std.proofs.lemmas.Result.{err_from_is_err_and}
use Rattle.std.specs.Global.{Vec}
use Rattle.td_check.proofs.BothAnswers.{both_given, both_refused}
use Rattle.td_eval.specs.model.OperatorValues.{headed_value}
use Rattle.td_tree.specs.model.Outcomes.{Answers}
use Rattle.td_types.specs.model.Types.{Heading}
use Rattle.td_value.specs.model.Values.{Val}
use Rattle.td_eval.proofs.operators.elements.value_of_headed.Goals as goal

pub returns-in_err-heading : goal.returns-in_err-heading
returns-in_err-heading c = λ o p h i.
    let e = err_from_is_err_and c.from_residual.result c.from_residual.ensures.1 in
    rw (e.1, e.2)
    (both_refused (λ (h : Heading). h) (λ (vs : Vec Val). vs.items) (λ (v : Val). v) headed_value c.args.heading c.args.elements o p _
    (sym c.both.ensures ∙ c.in_err-heading.was) h i)

pub returns : goal.returns
returns c = λ o p h i.
    subst (Answers (λ (v : Val). v) c.headed_value.result)
    (sym (both_given (λ (h : Heading). h) (λ (vs : Vec Val). vs.items) headed_value c.args.heading c.args.elements o p
    (c.in_ok-heading.heading, c.in_ok-heading.elements) (sym c.both.ensures ∙ c.in_ok-heading.was) h i))
    (subst (λ vs. Answers (λ (v : Val). v) c.headed_value.result (headed_value c.in_ok-heading.heading vs)) c.deref.ensures.value c.headed_value.ensures)
