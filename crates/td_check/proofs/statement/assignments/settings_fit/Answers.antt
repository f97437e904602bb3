use Rattle.std.proofs.Common.{◌≡◌, ◌∙◌, ap, map, subst, sym}
use Rattle.std.specs.Prelude.{Bool, ⊤}
use Rattle.td_tree.specs.declared.cause.Cause.TheVariants as causes
use Rattle.td_tree.specs.model.Outcomes.{Answers, value_if}
use Rattle.td_types.specs.model.Headings.{are_distinct}
use Rattle.td_types.specs.model.Types.{attribute_names}
use Rattle.td_types.specs.code.Views.{pairs_view}
use Rattle.td_types.proofs.Made.{names_of_pairs}
use Rattle.td_check.proofs.statement.assignments.settings_fit.Goals as goal

pub returns : goal.returns
returns c =
    let distinct : c.are_distinct.result ≡ are_distinct (attribute_names (pairs_view c.args.settings.items)) =
    c.are_distinct.ensures
    ∙ ap are_distinct (c.deref-2.ensures.value ∙ c.in_ok-names.ensures ∙ ap (map (λ e. e.0)) c.deref.ensures.value ∙ sym (names_of_pairs c.args.settings.items)) in
    c.both_hold.ensures _ _
    (subst (λ (test : Bool). Answers (λ (u : ⊤). u) c.ask-distinct.result (value_if test tt causes.Heading)) distinct c.ask-distinct.ensures)
    (rw c.deref-3.ensures.value at c.each_setting_fits.ensures)
