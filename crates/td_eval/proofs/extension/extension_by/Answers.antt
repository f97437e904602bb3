use Rattle.std.proofs.Common.{◌∙◌, ℕ, List, ap, refl, subst, sym}
use Rattle.std.proofs.lemmas.Result.{err_from_is_err_and}
use Rattle.std.specs.Global.{Vec}
use Rattle.std.specs.Prelude.{IfOk}
use Rattle.td_algebra.specs.code.Columns.{columns_view}
use Rattle.td_algebra.specs.declared.extension.Column.{Column}
use Rattle.td_eval.proofs.code_lemmas.WalkedExtension.{apart_given, checked_of, columns_fit, columns_of_additions, columns_refused, distinct_given, extended_given, same_attributes}
use Rattle.td_eval.specs.code.NewColumns.{AreColumnsFor, named_columns}
use Rattle.td_eval.specs.model.OperatorValues.{additions_of}
use Rattle.td_tree.specs.model.Outcomes.{Answers, Valued, gathered}
use Rattle.td_types.specs.model.Headings.{are_distinct, have_no_common}
use Rattle.td_types.specs.model.Types.{attribute_names}
use Rattle.td_types.specs.code.Views.{pairs_view}
use Rattle.td_eval.proofs.extension.extension_by.Goals as goal

pub returns-in_err-columns : goal.returns-in_err-columns
returns-in_err-columns c fs lengths a =
    let attributes = pairs_view c.args.attributes.now in
    let view = λ (cs : Vec (List ℕ × Column)). columns_view cs.items in
    let e = err_from_is_err_and c.from_residual-in_err-columns.result c.from_residual-in_err-columns.ensures.1 in
    rw (e.1, e.2)
    (columns_refused (Valued attributes) fs c.args.rel.now attributes (checked_of c.args.rel.now.heading attributes _ (sym c.heading.ensures) c.in_ok-ask_new.ensures) view c.in_err-columns.field-0.0 attributes refl
    (subst (λ x. Answers view x (gathered (named_columns attributes fs c.args.rel.now.body))) c.in_err-columns.was a))

pub extension_value-requires-clause-distinct : goal.extension_value-requires-clause-distinct
extension_value-requires-clause-distinct c =
    let attributes = pairs_view c.args.attributes.now in
    let r = c.args.rel.now in
    let fit = subst (λ x. IfOk x (λ (cs : Vec (List ℕ × Column)). AreColumnsFor attributes r.body (columns_view cs.items))) c.in_ok-columns.was c.requires in
    ap (λ xs. are_distinct (attribute_names xs))
    (same_attributes (Valued attributes) fit.0 r attributes (checked_of c.args.rel.now.heading attributes _ (sym c.heading.ensures) c.in_ok-ask_new.ensures) (columns_view c.in_ok-columns.field-0.items) fit.2 fit.1)
    ∙ distinct_given (Valued attributes) fit.0 r attributes (checked_of c.args.rel.now.heading attributes _ (sym c.heading.ensures) c.in_ok-ask_new.ensures)

pub extension_value-requires-clause-new : goal.extension_value-requires-clause-new
extension_value-requires-clause-new c =
    let attributes = pairs_view c.args.attributes.now in
    let r = c.args.rel.now in
    let fit = subst (λ x. IfOk x (λ (cs : Vec (List ℕ × Column)). AreColumnsFor attributes r.body (columns_view cs.items))) c.in_ok-columns.was c.requires in
    ap (λ xs. have_no_common xs r.heading)
    (same_attributes (Valued attributes) fit.0 r attributes (checked_of c.args.rel.now.heading attributes _ (sym c.heading.ensures) c.in_ok-ask_new.ensures) (columns_view c.in_ok-columns.field-0.items) fit.2 fit.1)
    ∙ apart_given (Valued attributes) fit.0 r attributes (checked_of c.args.rel.now.heading attributes _ (sym c.heading.ensures) c.in_ok-ask_new.ensures)

pub extension_value-requires-clause-fit : goal.extension_value-requires-clause-fit
extension_value-requires-clause-fit c =
    let attributes = pairs_view c.args.attributes.now in
    let r = c.args.rel.now in
    let fit = subst (λ x. IfOk x (λ (cs : Vec (List ℕ × Column)). AreColumnsFor attributes r.body (columns_view cs.items))) c.in_ok-columns.was c.requires in
    columns_fit (Valued attributes) fit.0 r attributes (checked_of c.args.rel.now.heading attributes _ (sym c.heading.ensures) c.in_ok-ask_new.ensures) (columns_view c.in_ok-columns.field-0.items) fit.2

pub returns : goal.returns
returns c fs lengths a =
    let attributes = pairs_view c.args.attributes.now in
    let r = c.args.rel.now in
    let view = λ (cs : Vec (List ℕ × Column)). columns_view cs.items in
    let given = subst (λ x. Answers view x (gathered (named_columns attributes fs r.body))) c.in_ok-columns.was a in
    extended_given (Valued attributes) fs r attributes (checked_of c.args.rel.now.heading attributes _ (sym c.heading.ensures) c.in_ok-ask_new.ensures) (columns_view c.in_ok-columns.field-0.items) given c.extension_value.result
    (c.extension_value.ensures (additions_of attributes fs)
    (columns_of_additions (Valued attributes) fs r attributes (checked_of c.args.rel.now.heading attributes _ (sym c.heading.ensures) c.in_ok-ask_new.ensures) (columns_view c.in_ok-columns.field-0.items) given))
