use Rattle.std.proofs.Common.{◌∙◌, ℕ, List, ap, sym}
use Rattle.std.specs.Global.{Vec}
use Rattle.std.proofs.lemmas.Result.{err_from_is_err_and}
use Rattle.td_group.specs.model.Nesting.{can_nest}
use Rattle.td_tree.specs.model.Outcomes.{Valued}
use Rattle.td_tree.specs.code.TreeViews.{attributes_view}
use Rattle.td_eval.proofs.code_lemmas.NestedNames.{names_given, names_misfit}
use Rattle.td_eval.proofs.operators.nesting.nested_names.Goals as goal

pub returns-in_err-fit : goal.returns-in_err-fit
returns-in_err-fit c =
    let e = err_from_is_err_and c.from_residual-in_err-fit.result c.from_residual-in_err-fit.ensures.1 in
    let test = c.can_nest.ensures ∙ ap (λ ns. can_nest ns c.args.name.now c.args.heading.now) (c.deref.ensures.value ∙ c.in_ok-names.ensures) in
    rw (e.1, e.2)
    (names_misfit (attributes_view c.args.attributes.now) c.args.heading.now c.in_ok-part.part c.args.name.now c.in_ok-part.ensures
    (λ (ns : Vec (List ℕ)). ns.items) (λ (u : Unit {0}). u) c.in_err-fit.field-0.0 c.can_nest.result test c.in_err-fit.ensures.answer)

pub returns : goal.returns
returns c =
    let test = c.can_nest.ensures ∙ ap (λ ns. can_nest ns c.args.name.now c.args.heading.now) (c.deref.ensures.value ∙ c.in_ok-names.ensures) in
    names_given (attributes_view c.args.attributes.now) c.args.heading.now c.in_ok-part.part c.args.name.now c.in_ok-part.ensures (sym test ∙ c.in_ok-fit.ensures.fits)
    ∙ ap (λ ns. Valued ns) (sym c.in_ok-names.ensures)
