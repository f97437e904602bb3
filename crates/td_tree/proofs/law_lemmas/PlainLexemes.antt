-- What is spelled holds no bad token, and no number out of range.
use Rattle.std.proofs.Common.{◌^◌, ◌<◌, List, [], ◌∷◌, ◌++◌, arith}
use Rattle.td_tree.specs.declared.operator.Level.{Level}
use Rattle.td_tree.specs.declared.operator.Operator.{Operator}
use Rattle.td_tree.specs.declared.operator.Operator.TheVariants as operators
use Rattle.td_tree.specs.declared.operator.Comparison.{Comparison}
use Rattle.td_tree.specs.declared.operator.Comparison.TheVariants as comparisons
use Rattle.td_tree.specs.model.Grammar as g
use Rattle.td_tree.specs.model.Grammar.{TypeSpelling, HeadingSpelling, AttributesSpelling, NameSpelling, name_item, NamesSpelling, AttributeListSpelling, RenamingSpelling, PostfixSpelling, LiteralSpelling, Spelling, ListSpelling, ExpressionsSpelling, PartsSpelling, AdditionsSpelling, SettingsSpelling, SummariesSpelling, operator_words, comparison_word}
use Rattle.td_tree.specs.model.Lexemes.{Lexeme}
use Rattle.td_tree.specs.model.Lexemes as lexeme
use Rattle.td_tree.specs.model.Lists.{Listed, no_items, some_items, Separated, one_item, next_item, with_braces, with_parentheses}
use Rattle.td_tree.specs.model.Trees.{Text, TypeTree, AttributeTrees, Attributes, Renaming, Postfix, Literal, Tree, Trees, NamedTrees, Summaries}

abbrev pub IsPlain : Lexeme → Type 0
IsPlain (lexeme.number n) = n < 2 ^ 64
IsPlain lexeme.bad = ⊥
IsPlain _ = Unit {0}

pub data AllPlain : List Lexeme → Type 0 where
  none_left : AllPlain []
  also : {x : Lexeme} {xs : List Lexeme} → IsPlain x → AllPlain xs → AllPlain (x ∷ xs)

join : {xs ys : List Lexeme} → AllPlain xs → AllPlain ys → AllPlain (xs ++ ys)
join none_left q = q
join (also p ps) q = also p (join ps q)

in_braces : {xs : List Lexeme} → AllPlain xs → AllPlain (with_braces xs)
in_braces p = also tt (join p (also tt none_left))

in_parentheses : {xs : List Lexeme} → AllPlain xs → AllPlain (with_parentheses xs)
in_parentheses p = also tt (join p (also tt none_left))

-- ---- types

mutual
  pub plain_type : {xs : List Lexeme} {t : TypeTree} → TypeSpelling xs t → AllPlain xs
  plain_type g.integer_type = (also tt none_left)
  plain_type g.char_type = (also tt none_left)
  plain_type g.boolean_type = (also tt none_left)
  plain_type g.user_type = (also tt none_left)
  plain_type (g.relation_type p) = (also tt (plain_heading p))
  plain_type (g.tuple_type p) = (also tt (plain_heading p))

  plain_heading : {xs : List Lexeme} {h : AttributeTrees} → HeadingSpelling xs h → AllPlain xs
  plain_heading g.empty_heading = (also tt (also tt none_left))
  plain_heading (g.heading p) = in_braces (plain_attributes p)

  plain_attributes : {xs : List Lexeme} {h : AttributeTrees} → AttributesSpelling xs h → AllPlain xs
  plain_attributes (g.last_attribute p) = (also tt (plain_type p))
  plain_attributes (g.next_attribute p q) = (also tt (join (plain_type p) (also tt (plain_attributes q))))

-- ---- what holds no expression

module _ {A : Type 0} (Item : List Lexeme → A → Type 0) (plain_item : (xs : List Lexeme) (a : A) → Item xs a → AllPlain xs) where
  plain_separated : {xs : List Lexeme} {all : List A} → Separated Item xs all → AllPlain xs
  plain_separated (one_item p) = plain_item _ _ p
  plain_separated (next_item p q) = join (plain_item _ _ p) (also tt (plain_separated q))

  plain_listed : {xs : List Lexeme} {all : List A} → Listed Item xs all → AllPlain xs
  plain_listed no_items = none_left
  plain_listed (some_items p) = plain_separated p

plain_name : (xs : List Lexeme) (n : Text) → NameSpelling xs n → AllPlain xs
plain_name _ _ name_item = (also tt none_left)

plain_names : {xs : List Lexeme} {ns : List Text} → Listed NameSpelling xs ns → AllPlain xs
plain_names p = plain_listed NameSpelling plain_name p

plain_braced : {xs : List Lexeme} {ns : List Text} → NamesSpelling xs ns → AllPlain xs
plain_braced (g.names p) = in_braces (plain_names p)

plain_attribute_list : {xs : List Lexeme} {a : Attributes} → AttributeListSpelling xs a → AllPlain xs
plain_attribute_list (g.only_names p) = plain_braced p
plain_attribute_list (g.all_but_names p) = (also tt (also tt (also tt (join (plain_names p) (also tt none_left)))))

plain_renaming : (xs : List Lexeme) (r : Renaming) → RenamingSpelling xs r → AllPlain xs
plain_renaming _ _ g.renaming = (also tt (also tt (also tt none_left)))

plain_postfix : {xs : List Lexeme} {p : Postfix} → PostfixSpelling xs p → AllPlain xs
plain_postfix (g.projection a) = plain_attribute_list a
plain_postfix (g.renamings rs) = (also tt (in_parentheses (plain_separated RenamingSpelling plain_renaming rs)))
plain_postfix (g.grouping a) = (also tt (in_parentheses (join (plain_attribute_list a) (also tt (also tt none_left)))))
plain_postfix (g.wrapping a) = (also tt (in_parentheses (join (plain_attribute_list a) (also tt (also tt none_left)))))
plain_postfix (g.renamings_in_braces rs) = (also tt (in_braces (plain_separated RenamingSpelling plain_renaming rs)))
plain_postfix (g.open_grouping a) = (also tt (join (plain_attribute_list a) (also tt (also tt none_left))))
plain_postfix (g.open_wrapping a) = (also tt (join (plain_attribute_list a) (also tt (also tt none_left))))
plain_postfix g.ungrouping = (also tt (also tt (also tt (also tt none_left))))
plain_postfix g.unwrapping = (also tt (also tt (also tt (also tt none_left))))

plain_literal : {xs : List Lexeme} {l : Literal} → LiteralSpelling xs l → AllPlain xs
plain_literal (g.number_literal low) = (also (omega arith) none_left)
plain_literal (g.minus_literal low) = (also tt (also (omega arith) none_left))
plain_literal g.text_literal = (also tt none_left)
plain_literal g.true_literal = (also tt none_left)
plain_literal g.false_literal = (also tt none_left)
plain_literal g.dee_literal = (also tt none_left)
plain_literal g.dum_literal = (also tt none_left)

plain_operator : (op : Operator) → AllPlain (operator_words op)
plain_operator operators.NotMatching = (also tt (also tt none_left))
plain_operator _ = (also tt none_left)

plain_comparison : (op : Comparison) → IsPlain (comparison_word op)
plain_comparison comparisons.In = tt
plain_comparison _ = tt

-- ---- expressions

mutual
  pub plain : {level : Level} {xs : List Lexeme} {t : Tree} → Spelling level xs t → AllPlain xs
  plain (g.looser p) = plain p
  plain (g.binding p q) = (also tt (join (in_parentheses (plain_settings p)) (also tt (plain q))))
  plain (g.restriction p q) = join (plain p) (also tt (plain q))
  plain (g.between {op} p q) = join (plain p) (join (plain_operator op) (plain q))
  plain (g.negation p) = (also tt (plain p))
  plain (g.comparison {op} p q) = join (plain p) (also (plain_comparison op) (plain q))
  plain (g.minus h p) = (also tt (plain p))
  plain (g.closure p) = (also tt (plain p))
  plain (g.tuple_from p) = (also tt (also tt (plain p)))
  plain (g.extraction p) = (also tt (also tt (plain p)))
  plain (g.behind p q) = join (plain p) (plain_postfix q)
  plain (g.literal l) = plain_literal l
  plain g.reference = (also tt none_left)
  plain (g.selector p) = (also tt (in_parentheses (plain_list p)))
  plain (g.component p) = (also tt (in_parentheses (plain p)))
  plain (g.parentheses p) = in_parentheses (plain p)
  plain (g.measure p) = (also tt (in_parentheses (plain p)))
  plain (g.aggregate p q) = (also tt (in_parentheses (join (plain p) (also tt (plain q)))))
  plain (g.headed_relation h p) = (also tt (join (plain_heading h) (in_braces (plain_list p))))
  plain (g.relation p) = (also tt (in_braces (plain_expressions p)))
  plain g.empty_tuple = (also tt (also tt (also tt none_left)))
  plain (g.tuple p) = (also tt (in_braces (plain_parts p)))
  plain (g.extension p q) = (also tt (join (plain p) (also tt (in_parentheses (plain_additions q)))))
  plain (g.setting_extension p q) = (also tt (join (plain p) (also tt (in_braces (plain_settings q)))))
  plain (g.summary_per p q r) = (also tt (join (plain p) (also tt (join (in_parentheses (plain q)) (also tt (in_parentheses (plain_summaries r)))))))
  plain (g.summary_by p q r) = (also tt (join (plain p) (also tt (join (plain_attribute_list q) (also tt (in_parentheses (plain_summaries r)))))))
  plain (g.choice p q r) = (also tt (join (plain p) (also tt (join (plain q) (also tt (join (plain r) (also tt (also tt none_left))))))))

  plain_list : {xs : List Lexeme} {all : Trees} → ListSpelling xs all → AllPlain xs
  plain_list g.no_expressions = none_left
  plain_list (g.some_expressions p) = plain_expressions p

  plain_expressions : {xs : List Lexeme} {all : Trees} → ExpressionsSpelling xs all → AllPlain xs
  plain_expressions (g.last_expression p) = plain p
  plain_expressions (g.next_expression p q) = join (plain p) (also tt (plain_expressions q))

  plain_parts : {xs : List Lexeme} {parts : NamedTrees} → PartsSpelling xs parts → AllPlain xs
  plain_parts (g.last_part p) = (also tt (plain p))
  plain_parts (g.next_part p q) = (also tt (join (plain p) (also tt (plain_parts q))))

  plain_additions : {xs : List Lexeme} {parts : NamedTrees} → AdditionsSpelling xs parts → AllPlain xs
  plain_additions (g.last_addition p) = join (plain p) (also tt (also tt none_left))
  plain_additions (g.next_addition p q) = join (plain p) (also tt (also tt (also tt (plain_additions q))))

  plain_settings : {xs : List Lexeme} {parts : NamedTrees} → SettingsSpelling xs parts → AllPlain xs
  plain_settings (g.last_setting p) = (also tt (also tt (plain p)))
  plain_settings (g.next_setting p q) = (also tt (also tt (join (plain p) (also tt (plain_settings q)))))

  plain_summaries : {xs : List Lexeme} {items : Summaries} → SummariesSpelling xs items → AllPlain xs
  plain_summaries g.last_count = (also tt (also tt (also tt (also tt (also tt none_left)))))
  plain_summaries (g.next_count p) = (also tt (also tt (also tt (also tt (also tt (also tt (plain_summaries p)))))))
  plain_summaries (g.last_sum p) = (also tt (join (in_parentheses (plain p)) (also tt (also tt none_left))))
  plain_summaries (g.next_sum p q) = (also tt (join (in_parentheses (plain p)) (also tt (also tt (also tt (plain_summaries q))))))
