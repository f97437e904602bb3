use Rattle.std.proofs.Common.{◌≡◌, ◌∙◌, true, false, ap, sym}
use Rattle.std.specs.Prelude.{◌&&◌, not}
use Rattle.std.specs.List.{list_all}
use Rattle.td_types.specs.model.Headings.{are_distinct, has_attribute}
use Rattle.td_types.specs.model.Types.{attribute_names}
use Rattle.td_types.specs.code.Views.{pairs_view}
use Rattle.td_eval.proofs.code_lemmas.NewAttributes.{are_new, names_of_pairs, new_given, not_new, old_refused}
use Rattle.td_eval.proofs.extension.ask_new.Goals as goal
use Rattle.td_eval.proofs.extension.ask_new.Goals.{else-are_distinct-via-then-are_distinct+else-are_apart, else-are_distinct-via-else-are_distinct}

pub returns-then-are_apart : goal.returns-then-are_apart
returns-then-are_apart c =
    let names = c.deref.ensures.value ∙ c.in_ok-names.ensures ∙ sym (names_of_pairs c.args.attributes.now) in
    let distinct : are_distinct (attribute_names (pairs_view c.args.attributes.now)) ≡ true =
    ap are_distinct (sym names) ∙ sym c.are_distinct.ensures ∙ c.if-are_distinct.true in
    let apart : list_all (λ a. not (has_attribute a.0 c.args.heading.now)) (pairs_view c.args.attributes.now) ≡ true =
    sym c.are_apart.ensures ∙ c.if-are_apart.true in
    new_given c.args.heading.now (pairs_view c.args.attributes.now) (λ i. distinct i && apart i)

pub returns : goal.returns
returns c =
    let names = c.deref.ensures.value ∙ c.in_ok-names.ensures ∙ sym (names_of_pairs c.args.attributes.now) in
    old_refused c.args.heading.now (pairs_view c.args.attributes.now)
    (elim c.else-are_distinct.branch as (λ _. are_new c.args.heading.now (pairs_view c.args.attributes.now) ≡ false) [
      | else-are_distinct-via-then-are_distinct+else-are_apart w ↦
          not_new c.args.heading.now (pairs_view c.args.attributes.now) (sym w.are_apart.ensures ∙ w.if-are_apart.false)
      | else-are_distinct-via-else-are_distinct w ↦
          (let distinct : are_distinct (attribute_names (pairs_view c.args.attributes.now)) ≡ false =
          ap are_distinct (sym names) ∙ sym c.are_distinct.ensures ∙ w.if-are_distinct.false in
          ap (λ b. b && list_all (λ a. not (has_attribute a.0 c.args.heading.now)) (pairs_view c.args.attributes.now)) distinct)
    ])
