use Rattle.std.proofs.Common.{◌∙◌, [], ◌∷◌, ap, sym}
use Rattle.td_tree.proofs.code_lemmas.Rows.{relation_type_is, tuple_type_is}
use Rattle.td_tree.proofs.code_lemmas.Writing.{last_put}
use Rattle.td_tree.specs.declared.keyword.Keyword.TheVariants as k
use Rattle.td_tree.specs.model.Lexemes.{keyword}
use Rattle.td_tree.specs.model.Prints.{heading_lexemes, type_lexemes}
use Rattle.td_tree.specs.code.TreeViews.{heading_tree_view, type_tree_view}
use Rattle.td_tree.proofs.print.words.Printer.+type_printer.Goals as goal

pub ty-returns-in_ok-keyword-in-Tuple : goal.ty-returns-in_ok-keyword-in-Tuple
ty-returns-in_ok-keyword-in-Tuple t c =
    last_put c.heading.result _ _ (keyword k.Tuple ∷ []) (heading_lexemes (heading_tree_view c.deref.result.now)) _
    (ap (λ h. keyword k.Tuple ∷ heading_lexemes (heading_tree_view h)) c.deref.ensures.value
    ∙ sym (ap type_lexemes (ap type_tree_view c.in-Tuple.is ∙ tuple_type_is c.in-Tuple.heading)))
    c.in_ok-keyword-in-Tuple.ensures c.heading.ensures

pub ty-returns-in_ok-keyword-in-Relation : goal.ty-returns-in_ok-keyword-in-Relation
ty-returns-in_ok-keyword-in-Relation t c =
    last_put c.heading-in-Relation.result _ _ (keyword k.Relation ∷ []) (heading_lexemes (heading_tree_view c.deref-in-Relation.result.now)) _
    (ap (λ h. keyword k.Relation ∷ heading_lexemes (heading_tree_view h)) c.deref-in-Relation.ensures.value
    ∙ sym (ap type_lexemes (ap type_tree_view c.in-Relation.is ∙ relation_type_is c.in-Relation.heading)))
    c.in_ok-keyword-in-Relation.ensures c.heading-in-Relation.ensures
