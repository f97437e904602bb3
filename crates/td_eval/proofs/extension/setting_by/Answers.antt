use Rattle.std.proofs.Common.{◌≡◌, ◌∙◌, ℕ, Err, List, ap, subst, sym, true}
use Rattle.std.proofs.lemmas.Result.{err_from_is_err_and}
use Rattle.std.specs.Global.{Vec}
use Rattle.std.specs.Prelude.{IfOk, ⊤}
use Rattle.td_algebra.specs.code.Columns.{columns_view}
use Rattle.td_algebra.specs.declared.extension.Column.{Column}
use Rattle.td_algebra.specs.model.Operators.{set_relation}
use Rattle.td_eval.proofs.code_lemmas.NewAttributes.{names_of_pairs}
use Rattle.td_eval.proofs.code_lemmas.WalkedSettings.{set_columns, set_columns_fit, set_names, settings_given, settings_refused, settings_unset}
use Rattle.td_eval.specs.code.NewColumns.{AreColumnsFor, named_columns}
use Rattle.td_eval.specs.model.OperatorValues.{additions_of}
use Rattle.td_tree.specs.declared.cause.Cause.TheVariants as causes
use Rattle.td_tree.specs.model.Outcomes.{Answers, Valued, gathered, value_if}
use Rattle.td_types.specs.model.Headings.{are_distinct}
use Rattle.td_types.specs.model.Types.{attribute_names}
use Rattle.td_types.specs.code.Views.{pairs_view}
use Rattle.td_eval.proofs.extension.setting_by.Goals as goal

pub returns-in_err-fit : goal.returns-in_err-fit
returns-in_err-fit c fs lengths a =
    let attributes = pairs_view c.args.attributes.now in
    let names = c.deref.ensures.value ∙ c.in_ok-names.ensures ∙ sym (names_of_pairs c.args.attributes.now) in
    let e = err_from_is_err_and c.from_residual-in_err-fit.result c.from_residual-in_err-fit.ensures.1 in
    rw (e.1, e.2)
    (settings_refused attributes fs c.args.rel.now c.in_err-fit.field-0.0
    (subst (λ b. Answers {X = ⊤} {A = ⊤} (λ u. u) (Err c.in_err-fit.field-0.0) (value_if b tt causes.Heading)) (c.are_distinct.ensures ∙ ap are_distinct names) c.in_err-fit.ensures.answer))

pub returns-in_err-columns : goal.returns-in_err-columns
returns-in_err-columns c fs lengths a =
    let attributes = pairs_view c.args.attributes.now in
    let view = λ (cs : Vec (List ℕ × Column)). columns_view cs.items in
    let names = c.deref.ensures.value ∙ c.in_ok-names.ensures ∙ sym (names_of_pairs c.args.attributes.now) in
    let distinct : are_distinct (attribute_names attributes) ≡ true = sym (c.are_distinct.ensures ∙ ap are_distinct names) ∙ c.in_ok-fit.ensures.fits in
    let e = err_from_is_err_and c.from_residual-in_err-columns.result c.from_residual-in_err-columns.ensures.1 in
    rw (e.1, e.2)
    (settings_unset attributes fs c.args.rel.now distinct view c.in_err-columns.field-0.0
    (subst (λ x. Answers view x (gathered (named_columns attributes fs c.args.rel.now.body))) c.in_err-columns.was a))

pub set_all-requires-clause-distinct : goal.set_all-requires-clause-distinct
set_all-requires-clause-distinct c =
    let attributes = pairs_view c.args.attributes.now in
    let r = c.args.rel.now in
    let cs = columns_view c.deref-2.result.now in
    let names = c.deref.ensures.value ∙ c.in_ok-names.ensures ∙ sym (names_of_pairs c.args.attributes.now) in
    let distinct : are_distinct (attribute_names attributes) ≡ true = sym (c.are_distinct.ensures ∙ ap are_distinct names) ∙ c.in_ok-fit.ensures.fits in
    let fit = subst (λ x. IfOk x (λ (cs : Vec (List ℕ × Column)). AreColumnsFor attributes r.body (columns_view cs.items))) c.in_ok-columns.was c.requires in
    let given : gathered (named_columns attributes fit.0 r.body) ≡ Valued cs = fit.2 ∙ ap (λ xs. Valued (columns_view xs)) (sym c.deref-2.ensures.value) in
    ap (λ xs. are_distinct (attribute_names xs)) (set_names attributes fit.0 r cs given fit.1) ∙ distinct

pub set_all-requires-clause-fit : goal.set_all-requires-clause-fit
set_all-requires-clause-fit c =
    let attributes = pairs_view c.args.attributes.now in
    let r = c.args.rel.now in
    let cs = columns_view c.deref-2.result.now in
    let fit = subst (λ x. IfOk x (λ (cs : Vec (List ℕ × Column)). AreColumnsFor attributes r.body (columns_view cs.items))) c.in_ok-columns.was c.requires in
    let given : gathered (named_columns attributes fit.0 r.body) ≡ Valued cs = fit.2 ∙ ap (λ xs. Valued (columns_view xs)) (sym c.deref-2.ensures.value) in
    set_columns_fit attributes fit.0 r cs given

pub returns : goal.returns
returns c fs lengths a =
    let attributes = pairs_view c.args.attributes.now in
    let r = c.args.rel.now in
    let cs = columns_view c.deref-2.result.now in
    let view = λ (cs : Vec (List ℕ × Column)). columns_view cs.items in
    let names = c.deref.ensures.value ∙ c.in_ok-names.ensures ∙ sym (names_of_pairs c.args.attributes.now) in
    let distinct : are_distinct (attribute_names attributes) ≡ true = sym (c.are_distinct.ensures ∙ ap are_distinct names) ∙ c.in_ok-fit.ensures.fits in
    let given : gathered (named_columns attributes fs r.body) ≡ Valued cs =
    subst (λ x. Answers view x (gathered (named_columns attributes fs r.body))) c.in_ok-columns.was a ∙ ap (λ xs. Valued (columns_view xs)) (sym c.deref-2.ensures.value) in
    settings_given attributes fs r distinct cs given c.as_value.result
    (c.as_value.ensures (set_relation (additions_of attributes fs) r) (c.set_all.ensures (additions_of attributes fs) (set_columns attributes fs r cs given)))
