use Rattle.std.proofs.Common.{◌≡◌, ◌∙◌, ℕ, Err, List, ap, length, reverse, subst, sym}
use Rattle.std.proofs.lemmas.List.{length-map}
use Rattle.std.proofs.lemmas.Result.{err_from_is_err_and}
use Rattle.std.specs.Global.{Vec}
use Rattle.td_algebra.specs.code.Columns.{columns_view}
use Rattle.td_algebra.specs.declared.extension.Column.{Column}
use Rattle.td_eval.proofs.code_lemmas.WalkedLists.{as_many_parts}
use Rattle.td_eval.proofs.code_lemmas.WalkedSettings.{set_columns, set_columns_fit, set_names, setting_given, setting_refused}
use Rattle.td_eval.specs.code.NewColumns.{named_columns}
use Rattle.td_eval.specs.model.OperatorValues.{additions_of}
use Rattle.td_eval.specs.code.LentWorlds.{seen_by, tuples_in_hand, world_in}
use Rattle.td_eval.specs.model.TreeValues.{values_in_tuples}
use Rattle.td_tree.specs.model.Outcomes.{Answers, Valued, gathered}
use Rattle.td_tree.specs.code.TreeViews.{named_view}
use Rattle.td_types.specs.model.Headings.{are_distinct}
use Rattle.td_types.specs.model.Types.{attribute_names}
use Rattle.td_types.specs.code.Views.{pairs_view}
use Rattle.td_eval.proofs.in_tuples.set_in_tuples.Goals as goal

pub returns-in_err-columns : goal.returns-in_err-columns
returns-in_err-columns g c =
    let attributes = pairs_view c.args.attributes.now in
    let parts = named_view c.args.parts.now in
    let fs = values_in_tuples (world_in c.args.env.now) (tuples_in_hand c.args.env.now) parts in
    let seen : values_in_tuples (seen_by c.of_env-lent.result) (reverse c.deref.result.now) parts ≡ fs =
    λ i. values_in_tuples (c.of_env-lent.ensures.exact i) (reverse ((c.deref.ensures.value ∙ c.in_ok-copies_of_lent.ensures) i)) parts in
    let view = λ (cs : Vec (List ℕ × Column)). columns_view cs.items in
    let e = err_from_is_err_and c.from_residual-in_err-columns.result c.from_residual-in_err-columns.ensures.1 in
    rw (e.1, e.2)
    (setting_refused attributes fs c.args.rel.now view _
    (subst (λ gs. Answers view (Err c.in_err-columns.field-0.0) (gathered (named_columns attributes gs c.args.rel.now.body))) seen c.in_err-columns.ensures))

pub set_all-requires-clause-distinct : goal.set_all-requires-clause-distinct
set_all-requires-clause-distinct g c =
    let attributes = pairs_view c.args.attributes.now in
    let parts = named_view c.args.parts.now in
    let fs = values_in_tuples (world_in c.args.env.now) (tuples_in_hand c.args.env.now) parts in
    let seen : values_in_tuples (seen_by c.of_env-lent.result) (reverse c.deref.result.now) parts ≡ fs =
    λ i. values_in_tuples (c.of_env-lent.ensures.exact i) (reverse ((c.deref.ensures.value ∙ c.in_ok-copies_of_lent.ensures) i)) parts in
    let cs = columns_view c.deref-2.result.now in
    let given : gathered (named_columns attributes fs c.args.rel.now.body) ≡ Valued cs =
    subst (λ gs. gathered (named_columns attributes gs c.args.rel.now.body) ≡ Valued cs) seen
    (c.in_ok-columns.ensures ∙ ap (λ xs. Valued (columns_view xs)) (sym c.deref-2.ensures.value)) in
    let lengths : length attributes ≡ length fs =
    length-map c.args.attributes.now _ ∙ c.requires.lengths ∙ sym (as_many_parts (world_in c.args.env.now) (tuples_in_hand c.args.env.now) c.args.parts.now) in
    ap (λ xs. are_distinct (attribute_names xs)) (set_names attributes fs c.args.rel.now cs given lengths) ∙ c.requires.distinct

pub set_all-requires-clause-fit : goal.set_all-requires-clause-fit
set_all-requires-clause-fit g c =
    let attributes = pairs_view c.args.attributes.now in
    let parts = named_view c.args.parts.now in
    let fs = values_in_tuples (world_in c.args.env.now) (tuples_in_hand c.args.env.now) parts in
    let seen : values_in_tuples (seen_by c.of_env-lent.result) (reverse c.deref.result.now) parts ≡ fs =
    λ i. values_in_tuples (c.of_env-lent.ensures.exact i) (reverse ((c.deref.ensures.value ∙ c.in_ok-copies_of_lent.ensures) i)) parts in
    let cs = columns_view c.deref-2.result.now in
    let given : gathered (named_columns attributes fs c.args.rel.now.body) ≡ Valued cs =
    subst (λ gs. gathered (named_columns attributes gs c.args.rel.now.body) ≡ Valued cs) seen
    (c.in_ok-columns.ensures ∙ ap (λ xs. Valued (columns_view xs)) (sym c.deref-2.ensures.value)) in
    set_columns_fit attributes fs c.args.rel.now cs given

pub returns : goal.returns
returns g c =
    let attributes = pairs_view c.args.attributes.now in
    let parts = named_view c.args.parts.now in
    let fs = values_in_tuples (world_in c.args.env.now) (tuples_in_hand c.args.env.now) parts in
    let seen : values_in_tuples (seen_by c.of_env-lent.result) (reverse c.deref.result.now) parts ≡ fs =
    λ i. values_in_tuples (c.of_env-lent.ensures.exact i) (reverse ((c.deref.ensures.value ∙ c.in_ok-copies_of_lent.ensures) i)) parts in
    let cs = columns_view c.deref-2.result.now in
    let given : gathered (named_columns attributes fs c.args.rel.now.body) ≡ Valued cs =
    subst (λ gs. gathered (named_columns attributes gs c.args.rel.now.body) ≡ Valued cs) seen
    (c.in_ok-columns.ensures ∙ ap (λ xs. Valued (columns_view xs)) (sym c.deref-2.ensures.value)) in
    setting_given attributes fs c.args.rel.now cs given
    ∙ ap (λ q. Valued q) (sym (c.in_ok-set_all.ensures (additions_of attributes fs) (set_columns attributes fs c.args.rel.now cs given)))
