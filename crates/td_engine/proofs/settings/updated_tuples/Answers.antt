use Rattle.std.proofs.Common.{◌≡◌, ◌∙◌, ℕ, Err, List, ap, subst, sym}
use Rattle.std.proofs.lemmas.Result.{err_from_is_err_and}
use Rattle.std.specs.Global.{Vec}
use Rattle.td_algebra.specs.model.Operators.{difference, union}
use Rattle.td_engine.proofs.law_lemmas.Admitted.{refused_on}
use Rattle.td_engine.proofs.code_lemmas.Done.{answers_then}
use Rattle.td_engine.specs.model.Assignments.{of_heading, setting_attributes, setting_names}
use Rattle.td_eval.specs.model.OperatorValues.{set_value}
use Rattle.td_eval.specs.code.LentWorlds.{tuples_in_hand, world_in}
use Rattle.td_eval.specs.model.TreeValues.{values_in_tuples}
use Rattle.td_tree.specs.model.Outcomes.{Answers, Valued, with_value}
use Rattle.td_tree.specs.code.TreeViews.{named_view}
use Rattle.td_types.specs.declared.ty.Ty.{Ty}
use Rattle.td_types.specs.model.Types.{Attribute}
use Rattle.td_types.specs.code.Views.{pairs_view}
use Rattle.td_value.specs.model.Values.{Relation}
use Rattle.td_engine.proofs.settings.updated_tuples.Goals as goal

pub returns-in_err-attributes-clause-answer : goal.returns-in_err-attributes-clause-answer
returns-in_err-attributes-clause-answer g c = λ so_far e.
    let chosen = c.args.chosen.now in
    let parts = named_view c.args.settings.now in
    let fs = values_in_tuples (world_in c.args.env.now) (tuples_in_hand c.args.env.now) parts in
    let made = λ (changed : Relation). with_value (of_heading so_far changed) (λ r. Valued (union (difference so_far chosen) r)) in
    let is = err_from_is_err_and c.from_residual.result c.from_residual.ensures.1 in
    rw (is.1, is.2)
    (refused_on (λ (a : Vec (List ℕ × Ty)). pairs_view a.items) (λ (r : Relation). union (difference so_far chosen) r) c.in_err-attributes.field-0.0
    (setting_attributes so_far.heading (setting_names parts)) (λ attributes. with_value (set_value attributes fs chosen) made)
    (subst (λ h. Answers (λ (a : Vec (List ℕ × Ty)). pairs_view a.items) (Err c.in_err-attributes.field-0.0) (setting_attributes h (setting_names parts)))
    (c.heading.ensures ∙ sym e) c.in_err-attributes.ensures.answer))

pub returns-in_err-changed-clause-answer : goal.returns-in_err-changed-clause-answer
returns-in_err-changed-clause-answer g c = λ so_far e.
    let chosen = c.args.chosen.now in
    let parts = named_view c.args.settings.now in
    let fs = values_in_tuples (world_in c.args.env.now) (tuples_in_hand c.args.env.now) parts in
    let made = λ (changed : Relation). with_value (of_heading so_far changed) (λ r. Valued (union (difference so_far chosen) r)) in
    let rest = λ (attributes : List Attribute). with_value (set_value attributes fs chosen) made in
    let valued : with_value (setting_attributes so_far.heading (setting_names parts)) rest ≡ rest (pairs_view c.in_ok-attributes.attributes.items) =
    ap (λ h. with_value (setting_attributes h (setting_names parts)) rest) (e ∙ sym c.heading.ensures) ∙ ap (λ o. with_value o rest) c.in_ok-attributes.ensures.answer in
    let is = err_from_is_err_and c.from_residual-in_err-changed.result c.from_residual-in_err-changed.ensures.1 in
    rw (is.1, is.2)
    (subst (Answers (λ (r : Relation). union (difference so_far chosen) r) (Err c.in_err-changed.field-0.0)) (sym valued)
    (refused_on (λ (r : Relation). r) (λ (r : Relation). union (difference so_far chosen) r) c.in_err-changed.field-0.0 (set_value (pairs_view c.in_ok-attributes.attributes.items) fs chosen) made
    (c.in_err-changed.ensures c.requires)))

pub returns-clause-answer : goal.returns-clause-answer
returns-clause-answer g c = λ so_far e.
    let chosen = c.args.chosen.now in
    let parts = named_view c.args.settings.now in
    let fs = values_in_tuples (world_in c.args.env.now) (tuples_in_hand c.args.env.now) parts in
    let made = λ (changed : Relation). with_value (of_heading so_far changed) (λ r. Valued (union (difference so_far chosen) r)) in
    let rest = λ (attributes : List Attribute). with_value (set_value attributes fs chosen) made in
    let valued : with_value (setting_attributes so_far.heading (setting_names parts)) rest ≡ made c.in_ok-changed.changed =
    ap (λ h. with_value (setting_attributes h (setting_names parts)) rest) (e ∙ sym c.heading.ensures) ∙ ap (λ o. with_value o rest) c.in_ok-attributes.ensures.answer
    ∙ ap (λ o. with_value o made) (c.in_ok-changed.ensures c.requires) in
    subst (Answers (λ (r : Relation). union (difference so_far chosen) r) c.of_heading.result) (sym valued)
    (answers_then c.of_heading.result (of_heading so_far c.in_ok-changed.changed) (λ (r : Relation). union (difference so_far chosen) r)
    (c.of_heading.ensures.answer so_far (e ∙ sym c.heading-2.ensures)))
