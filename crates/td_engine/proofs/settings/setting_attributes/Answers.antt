use Rattle.std.proofs.Common.{◌≡◌, ◌∙◌, ap, map, sym, true, false}
use Rattle.td_check.proofs.GatheredAnswers.{map_twice}
use Rattle.td_engine.proofs.law_lemmas.SettingNames.{as_many_attributes, names_are}
use Rattle.td_engine.specs.model.Assignments.{setting_names}
use Rattle.std.proofs.lemmas.List.{length-map}
use Rattle.td_tree.specs.declared.cause.Cause.TheVariants as causes
use Rattle.td_tree.specs.model.Outcomes.{named_cause, value_if, with_value}
use Rattle.td_tree.specs.code.TreeViews.{named_view}
use Rattle.td_types.specs.model.Headings.{are_distinct}
use Rattle.td_types.specs.code.Pairs.{pair_view}
use Rattle.td_types.specs.model.Types.{Attribute}
use Rattle.td_engine.proofs.settings.setting_attributes.Goals as goal

-- the test is of the names that are set
pub returns-then-are_distinct-clause-distinct : goal.returns-then-are_distinct-clause-distinct
returns-then-are_distinct-clause-distinct c =
    let items = c.in_ok-attributes.attributes.items in
    ap are_distinct (map_twice (λ (a : Attribute). a.0) pair_view items ∙ sym (c.deref-2.ensures.value ∙ c.in_ok-names.ensures ∙ ap (map (λ e. e.0)) c.deref.ensures.value))
    ∙ sym c.if-are_distinct.ensures

pub returns-then-are_distinct-clause-answer : goal.returns-then-are_distinct-clause-answer
returns-then-are_distinct-clause-answer c =
    let items = c.in_ok-attributes.attributes.items in
    let names = setting_names (named_view c.args.settings.now) in
    let is = c.in_ok-attributes.ensures in
    let test : are_distinct names ≡ true =
    ap are_distinct (sym (names_are c.args.heading.now names (map pair_view items) is) ∙ map_twice (λ (a : Attribute). a.0) pair_view items
    ∙ sym (c.deref-2.ensures.value ∙ c.in_ok-names.ensures ∙ ap (map (λ e. e.0)) c.deref.ensures.value)) ∙ sym c.if-are_distinct.ensures in
    ap (λ o. with_value o (λ attributes. value_if (are_distinct names) attributes causes.Heading)) is
    ∙ ap (λ b. value_if b (map pair_view items) causes.Heading) test

pub returns-then-are_distinct-clause-lengths : goal.returns-then-are_distinct-clause-lengths
returns-then-are_distinct-clause-lengths c =
    let items = c.in_ok-attributes.attributes.items in
    sym (length-map items pair_view) ∙ as_many_attributes c.args.heading.now c.args.settings.now (map pair_view items) c.in_ok-attributes.ensures

pub returns-else-are_distinct-clause-answer : goal.returns-else-are_distinct-clause-answer
returns-else-are_distinct-clause-answer c =
    let items = c.in_ok-attributes.attributes.items in
    let names = setting_names (named_view c.args.settings.now) in
    let is = c.in_ok-attributes.ensures in
    let test : are_distinct names ≡ false =
    ap are_distinct (sym (names_are c.args.heading.now names (map pair_view items) is) ∙ map_twice (λ (a : Attribute). a.0) pair_view items
    ∙ sym (c.deref-2.ensures.value ∙ c.in_ok-names.ensures ∙ ap (map (λ e. e.0)) c.deref.ensures.value)) ∙ sym c.if-are_distinct.ensures in
    ap named_cause
    (ap (λ o. with_value o (λ attributes. value_if (are_distinct names) attributes causes.Heading)) is
    ∙ ap (λ b. value_if b (map pair_view items) causes.Heading) test)
