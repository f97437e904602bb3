-- The lexemes that spell a tree are its own.
use Rattle.std.proofs.Common.{◌≡◌, List, [], ◌∷◌, ◌++◌, refl, sym, ap, append-nil, append_assoc}
use Rattle.std.specs.Prelude.{map}
use Rattle.td_tree.specs.declared.keyword.Keyword.TheVariants as k
use Rattle.td_tree.specs.declared.operator.Level.{Level}
use Rattle.td_tree.specs.declared.token.Sign.TheVariants as signs
use Rattle.td_tree.specs.model.Grammar as g
use Rattle.td_tree.specs.model.Grammar.{TypeSpelling, HeadingSpelling, AttributesSpelling, NameSpelling, name_item, NamesSpelling, AttributeListSpelling, RenamingSpelling, PostfixSpelling, LiteralSpelling, Spelling, ListSpelling, ExpressionsSpelling, PartsSpelling, AdditionsSpelling, SettingsSpelling, SummariesSpelling}
use Rattle.td_tree.specs.model.Lexemes.{Lexeme, keyword, sign}
use Rattle.td_tree.specs.model.Lexemes as lexeme
use Rattle.td_tree.specs.model.Lists.{Listed, no_items, some_items, Separated, one_item, next_item}
use Rattle.td_tree.specs.model.Prints.{following, commas, type_lexemes, attribute_lexemes, heading_lexemes, literal_lexemes, name_lexemes, attributes_lexemes, renaming_lexemes, postfix_lexemes, lexemes_of, all_lexemes, part_lexemes, addition_lexemes, setting_lexemes, summary_lexemes}
use Rattle.td_tree.specs.model.Trees.{Text, TypeTree, AttributeTrees, Attributes, Renaming, Postfix, Literal, Tree, Trees, NamedTrees, Summaries}

abbrev comma : Lexeme
comma = sign signs.Comma

-- ---- types

mutual
  pub type_is : {xs : List Lexeme} {t : TypeTree} → TypeSpelling xs t → xs ≡ type_lexemes t
  type_is g.integer_type = refl
  type_is g.char_type = refl
  type_is g.boolean_type = refl
  type_is g.user_type = refl
  type_is (g.relation_type p) = rw (heading_is p) refl
  type_is (g.tuple_type p) = rw (heading_is p) refl

  pub heading_is : {xs : List Lexeme} {h : AttributeTrees} → HeadingSpelling xs h → xs ≡ heading_lexemes h
  heading_is g.empty_heading = refl
  heading_is (g.heading p) = rw (attributes_are p) refl

  pub attributes_are : {xs : List Lexeme} {h : AttributeTrees} → AttributesSpelling xs h → xs ≡ commas (attribute_lexemes h)
  attributes_are (g.last_attribute {n} p) = rw (type_is p) (ap (λ r. lexeme.name n ∷ r) (sym (append-nil _)))
  attributes_are (g.next_attribute p q) = rw (type_is p, attributes_follow q) refl

  attributes_follow : {xs : List Lexeme} {h : AttributeTrees} → AttributesSpelling xs h → comma ∷ xs ≡ following (attribute_lexemes h)
  attributes_follow (g.last_attribute {n} p) = rw (type_is p) (ap (λ r. comma ∷ (lexeme.name n ∷ r)) (sym (append-nil _)))
  attributes_follow (g.next_attribute p q) = rw (type_is p, attributes_follow q) refl

-- ---- what holds no expression

-- where each item has its own lexemes
module _ {A : Type 0} (Item : List Lexeme → A → Type 0) (own : A → List Lexeme) (item_is : (xs : List Lexeme) (a : A) → Item xs a → xs ≡ own a) where
  mutual
    pub separated_are : {xs : List Lexeme} {all : List A} → Separated Item xs all → xs ≡ commas (map own all)
    separated_are (one_item p) = rw (item_is _ _ p) (sym (append-nil _))
    separated_are (next_item p q) = rw (item_is _ _ p, separated_follow q) refl

    separated_follow : {xs : List Lexeme} {all : List A} → Separated Item xs all → comma ∷ xs ≡ following (map own all)
    separated_follow (one_item p) = rw (item_is _ _ p) (ap (λ r. comma ∷ r) (sym (append-nil _)))
    separated_follow (next_item p q) = rw (item_is _ _ p, separated_follow q) refl

  pub listed_are : {xs : List Lexeme} {all : List A} → Listed Item xs all → xs ≡ commas (map own all)
  listed_are no_items = refl
  listed_are (some_items p) = separated_are p

name_is : (xs : List Lexeme) (n : Text) → NameSpelling xs n → xs ≡ lexeme.name n ∷ []
name_is _ _ name_item = refl

names_are : {xs : List Lexeme} {ns : List Text} → Listed NameSpelling xs ns → xs ≡ name_lexemes ns
names_are p = listed_are NameSpelling (λ n. lexeme.name n ∷ []) name_is p

braced_names_are : {xs : List Lexeme} {ns : List Text} → NamesSpelling xs ns → xs ≡ attributes_lexemes (Rattle.td_tree.specs.model.Trees.only ns)
braced_names_are (g.names p) = rw (names_are p) refl

attribute_list_is : {xs : List Lexeme} {a : Attributes} → AttributeListSpelling xs a → xs ≡ attributes_lexemes a
attribute_list_is (g.only_names p) = braced_names_are p
attribute_list_is (g.all_but_names p) = rw (names_are p) refl

renaming_is : (xs : List Lexeme) (r : Renaming) → RenamingSpelling xs r → xs ≡ renaming_lexemes r
renaming_is _ _ g.renaming = refl

postfix_is : {xs : List Lexeme} {p : Postfix} → PostfixSpelling xs p → xs ≡ postfix_lexemes p
postfix_is (g.projection a) = attribute_list_is a
postfix_is (g.renamings rs) = rw (separated_are RenamingSpelling renaming_lexemes renaming_is rs) refl
postfix_is (g.grouping a) = rw (attribute_list_is a) refl
postfix_is (g.wrapping a) = rw (attribute_list_is a) refl
postfix_is (g.renamings_in_braces rs) = rw (separated_are RenamingSpelling renaming_lexemes renaming_is rs) refl
postfix_is (g.open_grouping a) = rw (attribute_list_is a) refl
postfix_is (g.open_wrapping a) = rw (attribute_list_is a) refl
postfix_is g.ungrouping = refl
postfix_is g.unwrapping = refl

literal_is : {xs : List Lexeme} {l : Literal} → LiteralSpelling xs l → xs ≡ literal_lexemes l
literal_is (g.number_literal low) = refl
literal_is (g.minus_literal low) = refl
literal_is g.text_literal = refl
literal_is g.true_literal = refl
literal_is g.false_literal = refl
literal_is g.dee_literal = refl
literal_is g.dum_literal = refl

-- ---- expressions

name_last : (a : Tree) (n : Text) (items : Summaries)
    → (lexemes_of a ++ (sign signs.CloseParenthesis ∷ [])) ++ (keyword k.As ∷ (lexeme.name n ∷ following (summary_lexemes items)))
    ≡ ((lexemes_of a ++ (sign signs.CloseParenthesis ∷ [])) ++ (keyword k.As ∷ (lexeme.name n ∷ []))) ++ following (summary_lexemes items)
name_last a n items = sym (append_assoc (lexemes_of a ++ (sign signs.CloseParenthesis ∷ [])) (keyword k.As ∷ (lexeme.name n ∷ [])) (following (summary_lexemes items)))

mutual
  pub expression_is : {level : Level} {xs : List Lexeme} {t : Tree} → Spelling level xs t → xs ≡ lexemes_of t
  expression_is (g.looser p) = expression_is p
  expression_is (g.binding p q) = rw (settings_are p, expression_is q) refl
  expression_is (g.restriction p q) = rw (expression_is p, expression_is q) refl
  expression_is (g.between p q) = rw (expression_is p, expression_is q) refl
  expression_is (g.negation p) = rw (expression_is p) refl
  expression_is (g.comparison p q) = rw (expression_is p, expression_is q) refl
  expression_is (g.minus h p) = rw (expression_is p) refl
  expression_is (g.closure p) = rw (expression_is p) refl
  expression_is (g.tuple_from p) = rw (expression_is p) refl
  expression_is (g.extraction p) = rw (expression_is p) refl
  expression_is (g.behind p q) = rw (expression_is p, postfix_is q) refl
  expression_is (g.literal l) = literal_is l
  expression_is g.reference = refl
  expression_is (g.selector p) = rw (list_is p) refl
  expression_is (g.component p) = rw (expression_is p) refl
  expression_is (g.parentheses p) = rw (expression_is p) refl
  expression_is (g.measure p) = rw (expression_is p) refl
  expression_is (g.aggregate p q) = rw (expression_is p, expression_is q) refl
  expression_is (g.headed_relation h p) = rw (heading_is h, list_is p) refl
  expression_is (g.relation p) = rw (expressions_are p) refl
  expression_is g.empty_tuple = refl
  expression_is (g.tuple p) = rw (parts_are p) refl
  expression_is (g.extension p q) = rw (expression_is p, additions_are q) refl
  expression_is (g.setting_extension p q) = rw (expression_is p, settings_are q) refl
  expression_is (g.summary_per p q r) = rw (expression_is p, expression_is q, summaries_are r) refl
  expression_is (g.summary_by p q r) = rw (expression_is p, attribute_list_is q, summaries_are r) refl
  expression_is (g.choice p q r) = rw (expression_is p, expression_is q, expression_is r) refl

  pub list_is : {xs : List Lexeme} {all : Trees} → ListSpelling xs all → xs ≡ commas (all_lexemes all)
  list_is g.no_expressions = refl
  list_is (g.some_expressions p) = expressions_are p

  pub expressions_are : {xs : List Lexeme} {all : Trees} → ExpressionsSpelling xs all → xs ≡ commas (all_lexemes all)
  expressions_are (g.last_expression p) = rw (expression_is p) (sym (append-nil _))
  expressions_are (g.next_expression p q) = rw (expression_is p, expressions_follow q) refl

  expressions_follow : {xs : List Lexeme} {all : Trees} → ExpressionsSpelling xs all → comma ∷ xs ≡ following (all_lexemes all)
  expressions_follow (g.last_expression p) = rw (expression_is p) (ap (λ r. comma ∷ r) (sym (append-nil _)))
  expressions_follow (g.next_expression p q) = rw (expression_is p, expressions_follow q) refl

  pub parts_are : {xs : List Lexeme} {parts : NamedTrees} → PartsSpelling xs parts → xs ≡ commas (part_lexemes parts)
  parts_are (g.last_part {n} p) = rw (expression_is p) (ap (λ r. lexeme.name n ∷ r) (sym (append-nil _)))
  parts_are (g.next_part p q) = rw (expression_is p, parts_follow q) refl

  parts_follow : {xs : List Lexeme} {parts : NamedTrees} → PartsSpelling xs parts → comma ∷ xs ≡ following (part_lexemes parts)
  parts_follow (g.last_part {n} p) = rw (expression_is p) (ap (λ r. comma ∷ (lexeme.name n ∷ r)) (sym (append-nil _)))
  parts_follow (g.next_part p q) = rw (expression_is p, parts_follow q) refl

  pub additions_are : {xs : List Lexeme} {parts : NamedTrees} → AdditionsSpelling xs parts → xs ≡ commas (addition_lexemes parts)
  additions_are (g.last_addition {n} p) = rw (expression_is p) (sym (append-nil _))
  additions_are (g.next_addition {n} p q) = rw (expression_is p, additions_follow q) (sym (append_assoc _ (keyword k.As ∷ (lexeme.name n ∷ [])) _))

  additions_follow : {xs : List Lexeme} {parts : NamedTrees} → AdditionsSpelling xs parts → comma ∷ xs ≡ following (addition_lexemes parts)
  additions_follow (g.last_addition {n} p) = rw (expression_is p) (ap (λ r. comma ∷ r) (sym (append-nil _)))
  additions_follow (g.next_addition {n} p q) = rw (expression_is p, additions_follow q) (ap (λ r. comma ∷ r) (sym (append_assoc _ (keyword k.As ∷ (lexeme.name n ∷ [])) _)))

  pub settings_are : {xs : List Lexeme} {parts : NamedTrees} → SettingsSpelling xs parts → xs ≡ commas (setting_lexemes parts)
  settings_are (g.last_setting {n} p) = rw (expression_is p) (ap (λ r. lexeme.name n ∷ (sign signs.Assign ∷ r)) (sym (append-nil _)))
  settings_are (g.next_setting p q) = rw (expression_is p, settings_follow q) refl

  settings_follow : {xs : List Lexeme} {parts : NamedTrees} → SettingsSpelling xs parts → comma ∷ xs ≡ following (setting_lexemes parts)
  settings_follow (g.last_setting {n} p) = rw (expression_is p) (ap (λ r. comma ∷ (lexeme.name n ∷ (sign signs.Assign ∷ r))) (sym (append-nil _)))
  settings_follow (g.next_setting p q) = rw (expression_is p, settings_follow q) refl

  pub summaries_are : {xs : List Lexeme} {items : Summaries} → SummariesSpelling xs items → xs ≡ commas (summary_lexemes items)
  summaries_are g.last_count = refl
  summaries_are (g.next_count p) = rw (summaries_follow p) refl
  summaries_are (g.last_sum p) = rw (expression_is p) (sym (append-nil _))
  summaries_are (g.next_sum {op} {n} {xs} {ys} {a} {items} p q) = rw (expression_is p, summaries_follow q) (ap (λ r. keyword (g.aggregate_word op) ∷ (sign signs.OpenParenthesis ∷ r)) (name_last a n items))

  summaries_follow : {xs : List Lexeme} {items : Summaries} → SummariesSpelling xs items → comma ∷ xs ≡ following (summary_lexemes items)
  summaries_follow g.last_count = refl
  summaries_follow (g.next_count p) = rw (summaries_follow p) refl
  summaries_follow (g.last_sum p) = rw (expression_is p) (ap (λ r. comma ∷ r) (sym (append-nil _)))
  summaries_follow (g.next_sum {op} {n} {xs} {ys} {a} {items} p q) = rw (expression_is p, summaries_follow q) (ap (λ r. comma ∷ (keyword (g.aggregate_word op) ∷ (sign signs.OpenParenthesis ∷ r))) (name_last a n items))
