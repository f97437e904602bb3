-- No lexeme of an expression or of a type is a `;` or bad.
use Rattle.std.proofs.Common.{List, [], ◌∷◌, ◌++◌, map, true, false}
use Rattle.td_tree.specs.declared.operator.Comparison.{Comparison}
use Rattle.td_tree.specs.declared.operator.Comparison.TheVariants as comparisons
use Rattle.td_tree.specs.declared.operator.Operator.{Operator}
use Rattle.td_tree.specs.declared.operator.Operator.TheVariants as operators
use Rattle.td_tree.specs.declared.operator.Prefix.{Prefix}
use Rattle.td_tree.specs.declared.operator.Prefix.TheVariants as prefixes
use Rattle.td_tree.specs.declared.operator.Style.TheVariants as styles
use Rattle.td_tree.specs.declared.token.Sign.TheVariants as signs
use Rattle.td_tree.specs.model.Grammar.{comparison_word, operator_words}
use Rattle.td_tree.specs.model.Lexemes.{Lexeme}
use Rattle.td_tree.specs.model.Lexemes as lexeme
use Rattle.td_tree.specs.model.Lists.{with_braces, with_parentheses}
use Rattle.td_tree.specs.model.Prints.{addition_lexemes, all_lexemes, attribute_lexemes, attributes_lexemes, commas, following, lexemes_of, literal_lexemes, part_lexemes, postfix_lexemes, prefix_words, renaming_lexemes, setting_lexemes, summary_lexemes, type_lexemes}
use Rattle.td_tree.specs.model.Trees as trees
use Rattle.td_tree.specs.model.Trees.{AttributeTrees, Attributes, Literal, NamedTrees, Postfix, Renaming, Summaries, Text, Tree, Trees, TypeTree}

abbrev pub IsInner : Lexeme → Type 0
IsInner (lexeme.sign signs.Semicolon) = ⊥
IsInner lexeme.bad = ⊥
IsInner _ = Unit {0}

pub data AllInner : List Lexeme → Type 0 where
  none_left : AllInner []
  also : {x : Lexeme} {xs : List Lexeme} → IsInner x → AllInner xs → AllInner (x ∷ xs)

pub join : {xs ys : List Lexeme} → AllInner xs → AllInner ys → AllInner (xs ++ ys)
join none_left q = q
join (also p ps) q = also p (join ps q)

pub in_braces : {xs : List Lexeme} → AllInner xs → AllInner (with_braces xs)
in_braces p = also tt (join p (also tt none_left))

pub in_parentheses : {xs : List Lexeme} → AllInner xs → AllInner (with_parentheses xs)
in_parentheses p = also tt (join p (also tt none_left))

-- ---- items with a comma between

pub data EachInner : List (List Lexeme) → Type 0 where
  no_item : EachInner []
  and_item : {item : List Lexeme} {items : List (List Lexeme)} → AllInner item → EachInner items → EachInner (item ∷ items)

following_inner : {items : List (List Lexeme)} → EachInner items → AllInner (following items)
following_inner no_item = none_left
following_inner (and_item p ps) = also tt (join p (following_inner ps))

pub commas_inner : {items : List (List Lexeme)} → EachInner items → AllInner (commas items)
commas_inner no_item = none_left
commas_inner (and_item p ps) = join p (following_inner ps)

-- ---- types

mutual
  pub type_inner : (t : TypeTree) → AllInner (type_lexemes t)
  type_inner trees.integer = also tt none_left
  type_inner trees.char = also tt none_left
  type_inner trees.boolean = also tt none_left
  type_inner (trees.user n) = also tt none_left
  type_inner (trees.tuple_type h) = also tt (in_braces (commas_inner (attributes_inner h)))
  type_inner (trees.relation_type h) = also tt (in_braces (commas_inner (attributes_inner h)))

  pub attributes_inner : (h : AttributeTrees) → EachInner (attribute_lexemes h)
  attributes_inner trees.no_attributes = no_item
  attributes_inner (trees.attribute n t h) = and_item (also tt (type_inner t)) (attributes_inner h)

-- ---- what holds no expression

pub names_inner : (ns : List Text) → EachInner (map (λ n. lexeme.name n ∷ []) ns)
names_inner [] = no_item
names_inner (n ∷ ns) = and_item (also tt none_left) (names_inner ns)

attribute_list_inner : (a : Attributes) → AllInner (attributes_lexemes a)
attribute_list_inner (trees.only ns) = in_braces (commas_inner (names_inner ns))
attribute_list_inner (trees.all_but ns) = in_braces (also tt (also tt (commas_inner (names_inner ns))))

renamings_inner : (rs : List Renaming) → EachInner (map renaming_lexemes rs)
renamings_inner [] = no_item
renamings_inner (r ∷ rs) = and_item (also tt (also tt (also tt none_left))) (renamings_inner rs)

postfix_inner : (p : Postfix) → AllInner (postfix_lexemes p)
postfix_inner (trees.project a) = attribute_list_inner a
postfix_inner (trees.rename styles.Older rs) = also tt (in_parentheses (commas_inner (renamings_inner rs)))
postfix_inner (trees.rename styles.Newer rs) = also tt (in_braces (commas_inner (renamings_inner rs)))
postfix_inner (trees.group styles.Older a n) = also tt (in_parentheses (join (attribute_list_inner a) (also tt (also tt none_left))))
postfix_inner (trees.group styles.Newer a n) = also tt (join (attribute_list_inner a) (also tt (also tt none_left)))
postfix_inner (trees.ungroup n) = also tt (in_parentheses (also tt none_left))
postfix_inner (trees.wrap styles.Older a n) = also tt (in_parentheses (join (attribute_list_inner a) (also tt (also tt none_left))))
postfix_inner (trees.wrap styles.Newer a n) = also tt (join (attribute_list_inner a) (also tt (also tt none_left)))
postfix_inner (trees.unwrap n) = also tt (in_parentheses (also tt none_left))

literal_inner : (l : Literal) → AllInner (literal_lexemes l)
literal_inner (trees.number true n) = also tt (also tt none_left)
literal_inner (trees.number false n) = also tt none_left
literal_inner (trees.text said) = also tt none_left
literal_inner (trees.truth true) = also tt none_left
literal_inner (trees.truth false) = also tt none_left
literal_inner trees.table_dee = also tt none_left
literal_inner trees.table_dum = also tt none_left

prefix_inner : (op : Prefix) → AllInner (prefix_words op)
prefix_inner prefixes.TupleFrom = also tt (also tt none_left)
prefix_inner _ = also tt none_left

operator_inner : (op : Operator) → AllInner (operator_words op)
operator_inner operators.NotMatching = also tt (also tt none_left)
operator_inner _ = also tt none_left

comparison_inner : (op : Comparison) → IsInner (comparison_word op)
comparison_inner comparisons.In = tt
comparison_inner _ = tt

-- ---- expressions

mutual
  pub tree_inner : (e : Tree) → AllInner (lexemes_of e)
  tree_inner (trees.literal l) = literal_inner l
  tree_inner (trees.name n) = also tt none_left
  tree_inner (trees.parentheses a) = in_parentheses (tree_inner a)
  tree_inner (trees.prefix op a) = join (prefix_inner op) (tree_inner a)
  tree_inner (trees.extract n a) = also tt (also tt (tree_inner a))
  tree_inner (trees.restriction a p) = join (tree_inner a) (also tt (tree_inner p))
  tree_inner (trees.binary a op b) = join (tree_inner a) (join (operator_inner op) (tree_inner b))
  tree_inner (trees.compare a op b) = join (tree_inner a) (also (comparison_inner op) (tree_inner b))
  tree_inner (trees.postfix a op) = join (tree_inner a) (postfix_inner op)
  tree_inner (trees.select n all) = also tt (in_parentheses (commas_inner (all_inner all)))
  tree_inner (trees.component rest a) = also tt (in_parentheses (tree_inner a))
  tree_inner (trees.measure op a) = also tt (in_parentheses (tree_inner a))
  tree_inner (trees.aggregate op a b) = also tt (in_parentheses (join (tree_inner a) (also tt (tree_inner b))))
  tree_inner (trees.relation all) = also tt (in_braces (commas_inner (all_inner all)))
  tree_inner (trees.headed_relation h all) = also tt (join (in_braces (commas_inner (attributes_inner h))) (in_braces (commas_inner (all_inner all))))
  tree_inner (trees.tuple parts) = also tt (in_braces (commas_inner (parts_inner parts)))
  tree_inner (trees.extend a parts) = also tt (join (tree_inner a) (also tt (in_parentheses (commas_inner (additions_inner parts)))))
  tree_inner (trees.extend_setting a settings) = also tt (join (tree_inner a) (also tt (in_braces (commas_inner (settings_inner settings)))))
  tree_inner (trees.summarize_per a b items) =
      also tt (join (tree_inner a) (also tt (join (in_parentheses (tree_inner b)) (also tt (in_parentheses (commas_inner (summaries_inner items)))))))
  tree_inner (trees.summarize_by a by items) =
      also tt (join (tree_inner a) (also tt (join (attribute_list_inner by) (also tt (in_parentheses (commas_inner (summaries_inner items)))))))
  tree_inner (trees.choice a b c) =
      also tt (join (tree_inner a) (also tt (join (tree_inner b) (also tt (join (tree_inner c) (also tt (also tt none_left)))))))
  tree_inner (trees.binding items a) = also tt (join (in_parentheses (commas_inner (settings_inner items))) (also tt (tree_inner a)))

  all_inner : (all : Trees) → EachInner (all_lexemes all)
  all_inner trees.none = no_item
  all_inner (trees.more a all) = and_item (tree_inner a) (all_inner all)

  parts_inner : (parts : NamedTrees) → EachInner (part_lexemes parts)
  parts_inner trees.none_named = no_item
  parts_inner (trees.more_named n a parts) = and_item (also tt (tree_inner a)) (parts_inner parts)

  additions_inner : (parts : NamedTrees) → EachInner (addition_lexemes parts)
  additions_inner trees.none_named = no_item
  additions_inner (trees.more_named n a parts) = and_item (join (tree_inner a) (also tt (also tt none_left))) (additions_inner parts)

  settings_inner : (settings : NamedTrees) → EachInner (setting_lexemes settings)
  settings_inner trees.none_named = no_item
  settings_inner (trees.more_named n a settings) = and_item (also tt (also tt (tree_inner a))) (settings_inner settings)

  summaries_inner : (items : Summaries) → EachInner (summary_lexemes items)
  summaries_inner trees.no_summaries = no_item
  summaries_inner (trees.counted n items) = and_item (also tt (also tt (also tt (also tt (also tt none_left))))) (summaries_inner items)
  summaries_inner (trees.summed op a n items) =
      and_item (also tt (join (in_parentheses (tree_inner a)) (also tt (also tt none_left)))) (summaries_inner items)
