use Rattle.std.proofs.Common.{◌≡◌, ◌∙◌, Some, ap, option_map, subst, sym}
use Rattle.std.specs.List.{zip}
use Rattle.std.specs.Rc.{rc_str_bytes}
use Rattle.td_check.specs.model.OperatorTypes.{known_or}
use Rattle.td_eval.proofs.code_lemmas.OpElements.{component_found}
use Rattle.td_tree.specs.declared.cause.Cause.TheVariants as causes
use Rattle.td_tree.specs.model.Outcomes.{Answers}
use Rattle.td_types.specs.model.TypeLists.{declared_at}
use Rattle.td_types.specs.model.Types.{attribute_names}
use Rattle.td_value.specs.model.Values.{Val, value_at}
use Rattle.td_eval.proofs.operators.operand.user_component.Goals as goal

pub returns : goal.returns
returns c =
    let declared : declared_at c.args.user.now.name c.args.types.now ≡ Some c.in-Some.entry.now =
    ap (λ n. declared_at n c.args.types.now) (sym c.name.ensures) ∙ sym c.get.ensures ∙ ap (option_map (λ e. e.now)) c.in-Some.is in
    component_found c.args.types.now (rc_str_bytes c.args.name.now) c.args.user.now c.in-Some.entry.now _ declared
    (subst (λ o. Answers (λ (v : Val). v) c.value_or_cause.result (known_or causes.NameUnknown o))
    (c.component_named-found.ensures
    ∙ (λ i. value_at (rc_str_bytes c.args.name.now) (zip (attribute_names (c.components.ensures i)) (c.components-2.ensures.components i))))
    c.value_or_cause.ensures)
