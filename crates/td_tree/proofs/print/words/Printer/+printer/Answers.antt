use Rattle.std.proofs.Common.{◌≡◌, ◌∙◌, List, [], ◌∷◌, ◌++◌, ap, append-nil, refl, sym}
use Rattle.td_tree.proofs.code_lemmas.Rows.{binding_is, extend_is, extend_setting_is, headed_relation_is, relation_is, select_is, summarize_by_is, summarize_per_is, tuple_is}
use Rattle.td_tree.proofs.code_lemmas.Writing.{both_put, item_put, last_put}
use Rattle.td_tree.specs.declared.expression.Summary.{Summary}
use Rattle.td_tree.specs.declared.expression.Summary.TheVariants as s
use Rattle.td_tree.specs.declared.keyword.Keyword.TheVariants as k
use Rattle.td_tree.specs.declared.token.Sign.TheVariants as signs
use Rattle.td_tree.specs.model.Grammar.{aggregate_word}
use Rattle.td_tree.specs.model.Lexemes.{Lexeme, keyword, name, sign}
use Rattle.td_tree.specs.model.Lists.{with_braces, with_parentheses}
use Rattle.td_tree.specs.model.Prints.{addition_lexemes, all_lexemes, as_lexemes, attributes_lexemes, commas, heading_lexemes, lexemes_of, part_lexemes, setting_lexemes, summary_lexemes}
use Rattle.td_tree.specs.code.TreeViews.{attributes_view, heading_tree_view, named_view, summaries_view, tree_view, trees_view}
use Rattle.td_tree.specs.code.Written.{comma_lexeme_if, written_text}
use Rattle.td_tree.proofs.print.words.Printer.+printer.Goals as goal

-- ---- loops

pub additions-loop-part-preserved : goal.additions-loop-part-preserved
additions-loop-part-preserved t c =
    let value = lexemes_of (tree_view c.part-item.result.value) in
    let alias = as_lexemes c.part-item.result.name in
    item_put (λ ps. addition_lexemes (named_view ps)) (λ p. lexemes_of (tree_view p.value) ++ as_lexemes p.name) (λ x r. refl) c.args.parts.now c.loop-part.part-index
    c.part-item.result c.loop-part.out c.in_ok-out-2.out _ c.loop-part.later c.loop-part-test.true c.part-item.is
    (both_put c.loop-part.out c.in_ok-comma.field-0 c.in_ok-out-2.out (comma_lexeme_if c.loop-part.later) (value ++ alias) c.in_ok-comma.ensures
    (both_put c.in_ok-comma.field-0 c.in_ok-expr.field-0 c.in_ok-out-2.out value alias c.in_ok-expr.ensures c.in_ok-out-2.ensures))
    c.loop-part.invariant

pub targets-loop-part-preserved : goal.targets-loop-part-preserved
targets-loop-part-preserved t c =
    let target = name c.part-item.result.name ∷ (sign signs.Assign ∷ []) in
    let value = lexemes_of (tree_view c.part-item.result.value) in
    item_put (λ ps. setting_lexemes (named_view ps)) (λ p. name p.name ∷ (sign signs.Assign ∷ lexemes_of (tree_view p.value))) (λ x r. refl) c.args.parts.now c.loop-part.part-index
    c.part-item.result c.loop-part.out c.in_ok-out.out _ c.loop-part.later c.loop-part-test.true c.part-item.is
    (both_put c.loop-part.out c.in_ok-comma.field-0 c.in_ok-out.out (comma_lexeme_if c.loop-part.later) (target ++ value) c.in_ok-comma.ensures
    (both_put c.in_ok-comma.field-0 c.in_ok-target.field-0 c.in_ok-out.out target value c.in_ok-target.ensures c.in_ok-out.ensures))
    c.loop-part.invariant

-- the lexemes of one summary
abbrev one_summary : Summary → List Lexeme
one_summary x = commas (summary_lexemes (summaries_view (x ∷ [])))

summary_first : (x : Summary) (r : List Summary) → summary_lexemes (summaries_view (x ∷ r)) ≡ one_summary x ∷ summary_lexemes (summaries_view r)
summary_first (s.Count n) r = refl
summary_first (s.Of op value n) r =
    ap (λ item. item ∷ summary_lexemes (summaries_view r)) (sym (append-nil (keyword (aggregate_word op) ∷ (with_parentheses (lexemes_of (tree_view value)) ++ as_lexemes n))))

pub summaries-loop-summary-preserved : goal.summaries-loop-summary-preserved
summaries-loop-summary-preserved t c =
    item_put (λ ss. summary_lexemes (summaries_view ss)) one_summary summary_first c.args.added.now c.loop-summary.summary-index
    c.summary-item.result c.loop-summary.out c.in_ok-out-2.out _ c.loop-summary.later c.loop-summary-test.true c.summary-item.is
    (both_put c.loop-summary.out c.in_ok-comma.field-0 c.in_ok-out-2.out (comma_lexeme_if c.loop-summary.later) (one_summary c.summary-item.result) c.in_ok-comma.ensures c.in_ok-out-2.ensures)
    c.loop-summary.invariant

pub summary-returns-in_ok-with_parentheses-in-Of : goal.summary-returns-in_ok-with_parentheses-in-Of
summary-returns-in_ok-with_parentheses-in-Of t c =
    let value = with_parentheses (lexemes_of (tree_view c.in-Of.value)) in
    let alias = as_lexemes c.in-Of.name in
    last_put c.alias-in-Of.result c.args.self c.in_ok-keyword-in-Of.field-0 (keyword (aggregate_word c.in-Of.op) ∷ []) (value ++ alias) (one_summary c.args.summary.now)
    (sym (append-nil (keyword (aggregate_word c.in-Of.op) ∷ (value ++ alias))) ∙ ap one_summary (sym c.in-Of.is))
    (c.in_ok-keyword-in-Of.ensures ∙ ap (λ w. c.args.self ++ written_text (keyword w ∷ [])) c.keyword-in-Of.ensures)
    (last_put c.alias-in-Of.result c.in_ok-keyword-in-Of.field-0 c.in_ok-with_parentheses-in-Of.field-0 value alias (value ++ alias) refl c.in_ok-with_parentheses-in-Of.ensures c.alias-in-Of.ensures)

pub summary-returns-in_ok-sign-in-Count : goal.summary-returns-in_ok-sign-in-Count
summary-returns-in_ok-sign-in-Count t c =
    last_put c.alias.result c.args.self c.in_ok-sign-in-Count.field-0 (keyword k.Count ∷ (sign signs.OpenParenthesis ∷ (sign signs.CloseParenthesis ∷ []))) (as_lexemes c.in-Count.name)
    (one_summary c.args.summary.now) (ap one_summary (sym c.in-Count.is))
    (both_put c.args.self c.in_ok-keyword-in-Count.field-0 c.in_ok-sign-in-Count.field-0 (keyword k.Count ∷ []) (sign signs.OpenParenthesis ∷ (sign signs.CloseParenthesis ∷ []))
    c.in_ok-keyword-in-Count.ensures
    (both_put c.in_ok-keyword-in-Count.field-0 c.in_ok-out-in-Count.out c.in_ok-sign-in-Count.field-0 (sign signs.OpenParenthesis ∷ []) (sign signs.CloseParenthesis ∷ [])
    c.in_ok-out-in-Count.ensures c.in_ok-sign-in-Count.ensures))
    c.alias.ensures

-- ---- variants with lists

pub expr-returns-in_ok-name-in-Select : goal.expr-returns-in_ok-name-in-Select
expr-returns-in_ok-name-in-Select t c =
    last_put c.arguments.result _ _ (name c.in-Select.ty ∷ []) (with_parentheses (commas (all_lexemes (trees_view c.deref-in-Select.result.now)))) _
    (ap (λ d. name c.in-Select.ty ∷ with_parentheses (commas (all_lexemes (trees_view d)))) c.deref-in-Select.ensures.value
    ∙ sym (ap lexemes_of (ap tree_view c.in-Select.is ∙ select_is c.in-Select.ty c.in-Select.arguments)))
    c.in_ok-name-in-Select.ensures c.arguments.ensures

pub expr-returns-in_ok-keyword-in-Relation : goal.expr-returns-in_ok-keyword-in-Relation
expr-returns-in_ok-keyword-in-Relation t c =
    last_put c.elements.result _ _ (keyword k.Relation ∷ []) (with_braces (commas (all_lexemes (trees_view c.deref-in-Relation.result.now)))) _
    (ap (λ d. keyword k.Relation ∷ with_braces (commas (all_lexemes (trees_view d)))) c.deref-in-Relation.ensures.value
    ∙ sym (ap lexemes_of (ap tree_view c.in-Relation.is ∙ relation_is c.in-Relation.elements)))
    c.in_ok-keyword-in-Relation.ensures c.elements.ensures

pub expr-returns-in_ok-keyword-in-Tuple : goal.expr-returns-in_ok-keyword-in-Tuple
expr-returns-in_ok-keyword-in-Tuple t c =
    last_put c.parts.result _ _ (keyword k.Tuple ∷ []) (with_braces (commas (part_lexemes (named_view c.deref-in-Tuple.result.now)))) _
    (ap (λ d. keyword k.Tuple ∷ with_braces (commas (part_lexemes (named_view d)))) c.deref-in-Tuple.ensures.value
    ∙ sym (ap lexemes_of (ap tree_view c.in-Tuple.is ∙ tuple_is c.in-Tuple.parts)))
    c.in_ok-keyword-in-Tuple.ensures c.parts.ensures

pub expr-returns-in_ok-relation_type-in-HeadedRelation : goal.expr-returns-in_ok-relation_type-in-HeadedRelation
expr-returns-in_ok-relation_type-in-HeadedRelation t c =
    last_put c.elements-in-HeadedRelation.result _ _ (keyword k.Relation ∷ heading_lexemes (heading_tree_view c.deref-in-HeadedRelation.result.now))
    (with_braces (commas (all_lexemes (trees_view c.deref-in-HeadedRelation-2.result.now)))) _
    ((cc (c.deref-in-HeadedRelation.ensures.value, c.deref-in-HeadedRelation-2.ensures.value))
    ∙ sym (ap lexemes_of (ap tree_view c.in-HeadedRelation.is ∙ headed_relation_is c.in-HeadedRelation.heading c.in-HeadedRelation.elements)))
    c.in_ok-relation_type-in-HeadedRelation.ensures c.elements-in-HeadedRelation.ensures

pub expr-returns-in_ok-after-in-Extend : goal.expr-returns-in_ok-after-in-Extend
expr-returns-in_ok-after-in-Extend t c =
    last_put c.additions.result _ _ (keyword k.Extend ∷ lexemes_of (tree_view c.deref-in-Extend.result.now))
    (keyword k.Add ∷ with_parentheses (commas (addition_lexemes (named_view c.deref-in-Extend-2.result.now)))) _
    ((cc (c.deref-in-Extend.ensures, c.deref-in-Extend-2.ensures.value))
    ∙ sym (ap lexemes_of (ap tree_view c.in-Extend.is ∙ extend_is c.in-Extend.operand c.in-Extend.parts)))
    c.in_ok-after-in-Extend.ensures c.additions.ensures

pub expr-returns-in_ok-after-in-ExtendSetting : goal.expr-returns-in_ok-after-in-ExtendSetting
expr-returns-in_ok-after-in-ExtendSetting t c =
    last_put c.settings.result _ _ (keyword k.Extend ∷ lexemes_of (tree_view c.deref-in-ExtendSetting.result.now))
    (sign signs.Colon ∷ with_braces (commas (setting_lexemes (named_view c.deref-in-ExtendSetting-2.result.now)))) _
    ((cc (c.deref-in-ExtendSetting.ensures, c.deref-in-ExtendSetting-2.ensures.value))
    ∙ sym (ap lexemes_of (ap tree_view c.in-ExtendSetting.is ∙ extend_setting_is c.in-ExtendSetting.operand c.in-ExtendSetting.parts)))
    c.in_ok-after-in-ExtendSetting.ensures c.settings.ensures

pub expr-returns-in_ok-per-in-SummarizePer : goal.expr-returns-in_ok-per-in-SummarizePer
expr-returns-in_ok-per-in-SummarizePer t c =
    let first = keyword k.Summarize ∷ lexemes_of (tree_view c.deref-in-SummarizePer.result.now) in
    let per = keyword k.Per ∷ with_parentheses (lexemes_of (tree_view c.deref-in-SummarizePer-2.result.now)) in
    let added = keyword k.Add ∷ with_parentheses (commas (summary_lexemes (summaries_view c.deref-in-SummarizePer-3.result.now))) in
    last_put c.summaries.result c.args.self c.in_ok-out-in-SummarizePer.out first (per ++ added) _
    ((cc (c.deref-in-SummarizePer.ensures, c.deref-in-SummarizePer-2.ensures, c.deref-in-SummarizePer-3.ensures.value))
    ∙ sym (ap lexemes_of (ap tree_view c.in-SummarizePer.is ∙ summarize_per_is c.in-SummarizePer.operand c.in-SummarizePer.per c.in-SummarizePer.added)))
    c.in_ok-out-in-SummarizePer.ensures
    (last_put c.summaries.result c.in_ok-out-in-SummarizePer.out c.in_ok-per-in-SummarizePer.field-0 per added (per ++ added) refl
    c.in_ok-per-in-SummarizePer.ensures c.summaries.ensures)

pub expr-returns-in_ok-attributes-in-SummarizeBy : goal.expr-returns-in_ok-attributes-in-SummarizeBy
expr-returns-in_ok-attributes-in-SummarizeBy t c =
    let first = keyword k.Summarize ∷ lexemes_of (tree_view c.deref-in-SummarizeBy.result.now) in
    let by = attributes_lexemes (attributes_view c.in-SummarizeBy.by) in
    let added = keyword k.Add ∷ with_parentheses (commas (summary_lexemes (summaries_view c.deref-in-SummarizeBy-2.result.now))) in
    last_put c.summaries-in-SummarizeBy.result c.args.self c.in_ok-out-in-SummarizeBy.out first (keyword k.By ∷ (by ++ added)) _
    ((cc (c.deref-in-SummarizeBy.ensures, c.deref-in-SummarizeBy-2.ensures.value))
    ∙ sym (ap lexemes_of (ap tree_view c.in-SummarizeBy.is ∙ summarize_by_is c.in-SummarizeBy.operand c.in-SummarizeBy.by c.in-SummarizeBy.added)))
    c.in_ok-out-in-SummarizeBy.ensures
    (last_put c.summaries-in-SummarizeBy.result c.in_ok-out-in-SummarizeBy.out c.in_ok-keyword-in-SummarizeBy.field-0 (keyword k.By ∷ []) (by ++ added)
    (keyword k.By ∷ (by ++ added)) refl c.in_ok-keyword-in-SummarizeBy.ensures
    (last_put c.summaries-in-SummarizeBy.result c.in_ok-keyword-in-SummarizeBy.field-0 c.in_ok-attributes-in-SummarizeBy.field-0 by added (by ++ added) refl
    c.in_ok-attributes-in-SummarizeBy.ensures c.summaries-in-SummarizeBy.ensures))

pub expr-returns-in_ok-sign-in-With : goal.expr-returns-in_ok-sign-in-With
expr-returns-in_ok-sign-in-With t c =
    let items = with_parentheses (commas (setting_lexemes (named_view c.deref-in-With.result.now))) in
    let result = lexemes_of (tree_view c.deref-in-With-2.result.now) in
    last_put c.expr-in-With.result c.args.self c.in_ok-out-in-With.out (keyword k.With ∷ items) (sign signs.Colon ∷ result) _
    ((cc (c.deref-in-With.ensures.value, c.deref-in-With-2.ensures))
    ∙ sym (ap lexemes_of (ap tree_view c.in-With.is ∙ binding_is c.in-With.items c.in-With.result)))
    (both_put c.args.self c.in_ok-keyword-in-With.field-0 c.in_ok-out-in-With.out (keyword k.With ∷ []) items c.in_ok-keyword-in-With.ensures c.in_ok-out-in-With.ensures)
    (last_put c.expr-in-With.result c.in_ok-out-in-With.out c.in_ok-sign-in-With.field-0 (sign signs.Colon ∷ []) result (sign signs.Colon ∷ result) refl
    c.in_ok-sign-in-With.ensures c.expr-in-With.ensures)
