-- The lexemes of a type spell it; the lexemes of lists spell them where those of each item do.
use Rattle.std.proofs.Common.{◌≡◌, List, [], ◌∷◌, ◌++◌, refl, sym, subst, append-nil, Bool, true, false}
use Rattle.td_tree.specs.declared.operator.Level.{Level}
use Rattle.td_tree.specs.declared.operator.Level.TheVariants as levels
use Rattle.td_tree.specs.model.Grammar as g
use Rattle.td_tree.specs.model.Grammar.{AttributesSpelling, ExpressionsSpelling, HeadingSpelling, ListSpelling, PartsSpelling, Spelling, TypeSpelling, loosest}
use Rattle.td_tree.specs.model.Lexemes.{Lexeme}
use Rattle.td_tree.specs.model.Lexemes as lexeme
use Rattle.td_tree.specs.model.Prints.{all_lexemes, attribute_lexemes, commas, following, heading_lexemes, lexemes_of, part_lexemes, type_lexemes}
use Rattle.td_tree.specs.model.Trees as trees
use Rattle.td_tree.specs.model.Trees.{AttributeTrees, NamedTrees, Text, Tree, Trees, TypeTree}
use Rattle.td_tree.specs.code.Written.{comma_lexeme_if}

-- ---- types

mutual
  -- the lexemes of a type spell it
  pub type_spelled : (t : TypeTree) → TypeSpelling (type_lexemes t) t
  type_spelled trees.integer = g.integer_type
  type_spelled trees.char = g.char_type
  type_spelled trees.boolean = g.boolean_type
  type_spelled (trees.user n) = g.user_type
  type_spelled (trees.tuple_type h) = g.tuple_type (heading_spelled h)
  type_spelled (trees.relation_type h) = g.relation_type (heading_spelled h)

  pub heading_spelled : (h : AttributeTrees) → HeadingSpelling (heading_lexemes h) h
  heading_spelled trees.no_attributes = g.empty_heading
  heading_spelled (trees.attribute n t h) = g.heading (attributes_spelled n t h (type_spelled t))

  attributes_spelled : (n : Text) (t : TypeTree) (h : AttributeTrees) → TypeSpelling (type_lexemes t) t → AttributesSpelling (commas (attribute_lexemes (trees.attribute n t h))) (trees.attribute n t h)
  attributes_spelled n t trees.no_attributes p =
      subst (λ xs. AttributesSpelling xs (trees.attribute n t trees.no_attributes)) (sym (append-nil (lexeme.name n ∷ type_lexemes t))) (g.last_attribute p)
  attributes_spelled n t (trees.attribute m s h) p = g.next_attribute p (attributes_spelled m s h (type_spelled s))

-- ---- expressions

-- what stands between is an expression of every level
pub at_level : (level : Level) (xs : List Lexeme) (a : Tree) → Spelling levels.Primary xs a → Spelling level xs a
at_level levels.Primary xs a p = p
at_level levels.Postfixed xs a p = g.looser p
at_level levels.Prefixed xs a p = g.looser (g.looser p)
at_level levels.Multiplicative xs a p = g.looser (g.looser (g.looser p))
at_level levels.Additive xs a p = g.looser (g.looser (g.looser (g.looser p)))
at_level levels.Relational xs a p = g.looser (g.looser (g.looser (g.looser (g.looser p))))
at_level levels.Comparison xs a p = g.looser (g.looser (g.looser (g.looser (g.looser (g.looser p)))))
at_level levels.Negation xs a p = g.looser (g.looser (g.looser (g.looser (g.looser (g.looser (g.looser p))))))
at_level levels.Conjunction xs a p = g.looser (g.looser (g.looser (g.looser (g.looser (g.looser (g.looser (g.looser p)))))))
at_level levels.Disjunction xs a p = g.looser (g.looser (g.looser (g.looser (g.looser (g.looser (g.looser (g.looser (g.looser p))))))))
at_level levels.Restriction xs a p = g.looser (g.looser (g.looser (g.looser (g.looser (g.looser (g.looser (g.looser (g.looser (g.looser p)))))))))
at_level levels.Binding xs a p = g.looser (g.looser (g.looser (g.looser (g.looser (g.looser (g.looser (g.looser (g.looser (g.looser (g.looser p))))))))))

-- its lexemes spell it
abbrev pub IsSpelled : Tree → Type 0
IsSpelled a = Spelling levels.Primary (lexemes_of a) a

abbrev pub AllSpelled : Trees → Type 0
AllSpelled trees.none = Unit {0}
AllSpelled (trees.more a all) = IsSpelled a × AllSpelled all

abbrev pub AllNamedSpelled : NamedTrees → Type 0
AllNamedSpelled trees.none_named = Unit {0}
AllNamedSpelled (trees.more_named n a parts) = IsSpelled a × AllNamedSpelled parts

loosest_spelled : (a : Tree) → IsSpelled a → Spelling loosest (lexemes_of a) a
loosest_spelled a p = at_level loosest (lexemes_of a) a p

expressions_spelled : (a : Tree) (all : Trees) → IsSpelled a → AllSpelled all → ExpressionsSpelling (commas (all_lexemes (trees.more a all))) (trees.more a all)
expressions_spelled a trees.none p q =
    subst (λ xs. ExpressionsSpelling xs (trees.more a trees.none)) (sym (append-nil (lexemes_of a))) (g.last_expression (loosest_spelled a p))
expressions_spelled a (trees.more b all) p q = g.next_expression (loosest_spelled a p) (expressions_spelled b all q.0 q.1)

pub list_spelled : (all : Trees) → AllSpelled all → ListSpelling (commas (all_lexemes all)) all
list_spelled trees.none p = g.no_expressions
list_spelled (trees.more a all) p = g.some_expressions (expressions_spelled a all p.0 p.1)

parts_spelled : (n : Text) (a : Tree) (parts : NamedTrees) → IsSpelled a → AllNamedSpelled parts → PartsSpelling (commas (part_lexemes (trees.more_named n a parts))) (trees.more_named n a parts)
parts_spelled n a trees.none_named p q =
    subst (λ xs. PartsSpelling xs (trees.more_named n a trees.none_named)) (sym (append-nil (lexeme.name n ∷ lexemes_of a))) (g.last_part (loosest_spelled a p))
parts_spelled n a (trees.more_named m b parts) p q = g.next_part (loosest_spelled a p) (parts_spelled m b parts q.0 q.1)

pub tuple_spelled : (parts : NamedTrees) → AllNamedSpelled parts → IsSpelled (trees.tuple parts)
tuple_spelled trees.none_named p = g.empty_tuple
tuple_spelled (trees.more_named n a parts) p = g.tuple (parts_spelled n a parts p.0 p.1)

-- ---- items with a comma between

-- these, where an item stands before them or none does
abbrev pub items_after : Bool → List (List Lexeme) → List Lexeme
items_after later [] = []
items_after later (item ∷ items) = comma_lexeme_if later ++ (item ++ following items)

pub items_first : (items : List (List Lexeme)) → items_after false items ≡ commas items
items_first [] = refl
items_first (item ∷ items) = refl

pub items_follow : (items : List (List Lexeme)) → items_after true items ≡ following items
items_follow [] = refl
items_follow (item ∷ items) = refl
