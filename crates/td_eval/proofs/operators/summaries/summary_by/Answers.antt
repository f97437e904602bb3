use Rattle.std.proofs.Common.{◌≡◌, ◌∙◌, ℕ, Err, List, ap, length, map, refl, subst, sym}
use Rattle.std.proofs.lemmas.List.{length-map}
use Rattle.std.proofs.lemmas.Result.{err_from_is_err_and}
use Rattle.std.specs.Global.{Vec}
use Rattle.td_algebra.specs.code.Columns.{columns_view}
use Rattle.td_algebra.specs.declared.extension.Column.{Column}
use Rattle.td_eval.proofs.code_lemmas.WalkedExtension.{apart_given, checked_of, columns_fit, columns_of_additions, columns_refused, distinct_given, extended_given, same_attributes}
use Rattle.td_eval.proofs.code_lemmas.WalkedTotals.{as_many_totals, columns_same}
use Rattle.td_eval.specs.model.AggregateValues.{summary_in}
use Rattle.td_eval.specs.code.NewColumns.{named_columns}
use Rattle.td_eval.specs.model.OperatorValues.{additions_of}
use Rattle.td_eval.specs.code.Totals.{total_view}
use Rattle.td_group.specs.model.Groups.{groups}
use Rattle.td_tree.specs.model.Outcomes.{Answers, Valued, gathered}
use Rattle.td_types.specs.model.Headings.{are_distinct, have_no_common}
use Rattle.td_types.specs.code.Pairs.{pair_view}
use Rattle.td_types.specs.model.Types.{attribute_names}
use Rattle.td_types.specs.code.Views.{pairs_view}
use Rattle.td_eval.proofs.operators.summaries.summary_by.Goals as goal

pub returns-in_err-columns : goal.returns-in_err-columns
returns-in_err-columns c r items given =
    let p = c.args.per.now in
    let fs = map (summary_in r p) items in
    let attributes = pairs_view c.args.attributes.now in
    let view = λ (cs : Vec (List ℕ × Column)). columns_view cs.items in
    let e = err_from_is_err_and c.from_residual-in_err-columns.result c.from_residual-in_err-columns.ensures.1 in
    rw (e.1, e.2)
    (columns_refused (Valued attributes) fs p attributes (checked_of c.args.per.now.heading attributes _ (sym c.heading.ensures) c.in_ok-ask_new.ensures) view c.in_err-columns.field-0.0 attributes refl
    (subst (λ os. Answers view (Err c.in_err-columns.field-0.0) (gathered os)) (columns_same r p attributes items (map total_view c.args.totals.now) given)
    c.in_err-columns.ensures))

-- the columns are those of some items
columns_given : (c : goal.In_ok-columns) →
    let some = c.requires.totals in
    gathered (named_columns (pairs_view c.args.attributes.now) (map (summary_in some.0 c.args.per.now) some.1) c.args.per.now.body)
    ≡ Valued (columns_view c.in_ok-columns.columns.items)
columns_given c =
    let some = c.requires.totals in
    ap gathered (sym (columns_same some.0 c.args.per.now (pairs_view c.args.attributes.now) some.1 (map total_view c.args.totals.now) some.2)) ∙ c.in_ok-columns.ensures

-- there are as many as attributes
lengths_given : (c : goal.In_ok-columns) →
    let some = c.requires.totals in
    length (pairs_view c.args.attributes.now) ≡ length (map (summary_in some.0 c.args.per.now) some.1)
lengths_given c =
    let some = c.requires.totals in
    length-map c.args.attributes.now pair_view ∙ c.requires.lengths
    ∙ sym (length-map c.args.totals.now total_view)
    ∙ as_many_totals (groups some.0 c.args.per.now) some.1 (map total_view c.args.totals.now) some.2
    ∙ sym (length-map some.1 (summary_in some.0 c.args.per.now))

pub extension_value-requires-clause-distinct : goal.extension_value-requires-clause-distinct
extension_value-requires-clause-distinct c =
    let some = c.requires.totals in
    let attributes = pairs_view c.args.attributes.now in
    let fs = map (summary_in some.0 c.args.per.now) some.1 in
    ap (λ xs. are_distinct (attribute_names xs))
    (same_attributes (Valued attributes) fs c.args.per.now attributes (checked_of c.args.per.now.heading attributes _ (sym c.heading.ensures) c.in_ok-ask_new.ensures) (columns_view c.in_ok-columns.columns.items) (columns_given c) (lengths_given c))
    ∙ distinct_given (Valued attributes) fs c.args.per.now attributes (checked_of c.args.per.now.heading attributes _ (sym c.heading.ensures) c.in_ok-ask_new.ensures)

pub extension_value-requires-clause-new : goal.extension_value-requires-clause-new
extension_value-requires-clause-new c =
    let some = c.requires.totals in
    let attributes = pairs_view c.args.attributes.now in
    let fs = map (summary_in some.0 c.args.per.now) some.1 in
    ap (λ xs. have_no_common xs c.args.per.now.heading)
    (same_attributes (Valued attributes) fs c.args.per.now attributes (checked_of c.args.per.now.heading attributes _ (sym c.heading.ensures) c.in_ok-ask_new.ensures) (columns_view c.in_ok-columns.columns.items) (columns_given c) (lengths_given c))
    ∙ apart_given (Valued attributes) fs c.args.per.now attributes (checked_of c.args.per.now.heading attributes _ (sym c.heading.ensures) c.in_ok-ask_new.ensures)

pub extension_value-requires-clause-fit : goal.extension_value-requires-clause-fit
extension_value-requires-clause-fit c =
    let some = c.requires.totals in
    let attributes = pairs_view c.args.attributes.now in
    columns_fit (Valued attributes) (map (summary_in some.0 c.args.per.now) some.1) c.args.per.now attributes (checked_of c.args.per.now.heading attributes _ (sym c.heading.ensures) c.in_ok-ask_new.ensures) (columns_view c.in_ok-columns.columns.items) (columns_given c)

pub returns : goal.returns
returns c r items given =
    let p = c.args.per.now in
    let fs = map (summary_in r p) items in
    let attributes = pairs_view c.args.attributes.now in
    let columns : gathered (named_columns attributes fs p.body) ≡ Valued (columns_view c.in_ok-columns.columns.items) =
    ap gathered (sym (columns_same r p attributes items (map total_view c.args.totals.now) given)) ∙ c.in_ok-columns.ensures in
    extended_given (Valued attributes) fs p attributes (checked_of c.args.per.now.heading attributes _ (sym c.heading.ensures) c.in_ok-ask_new.ensures) (columns_view c.in_ok-columns.columns.items) columns c.extension_value.result
    (c.extension_value.ensures (additions_of attributes fs)
    (columns_of_additions (Valued attributes) fs p attributes (checked_of c.args.per.now.heading attributes _ (sym c.heading.ensures) c.in_ok-ask_new.ensures) (columns_view c.in_ok-columns.columns.items) columns))
