-- A type that is spelled is read again.
use Rattle.std.proofs.Common.{◌≡◌, ℕ, zero, suc, ◌<◌, ◌≤◌, List, [], ◌∷◌, ◌++◌, Some, None, refl, ap, append_assoc, arith}
use Rattle.td_tree.specs.declared.keyword.Keyword.TheVariants as k
use Rattle.td_tree.specs.declared.token.Sign.TheVariants as signs
use Rattle.td_tree.specs.model.Grammar.{TypeSpelling, integer_type, char_type, boolean_type, user_type, relation_type, tuple_type, HeadingSpelling, empty_heading, AttributesSpelling, last_attribute, next_attribute}
use Rattle.td_tree.specs.model.Grammar as grammar
use Rattle.td_tree.specs.model.Heights.{type_height, attributes_height}
use Rattle.td_tree.specs.model.Lexemes.{Lexeme, keyword, sign}
use Rattle.td_tree.specs.model.Lexemes as lexeme
use Rattle.td_tree.specs.model.Lists.{with_braces}
use Rattle.td_parse.specs.code.ReadingSteps.{expect, read_name}
use Rattle.td_parse.specs.code.ReadingTypes.{attribute, attribute_trees_from, heading, type_of_word, type_of_first, read_type, relation_heading}
use Rattle.td_tree.specs.model.Trees as tree
use Rattle.td_tree.specs.model.Trees.{Text, TypeTree, AttributeTrees}
use Rattle.td_parse.proofs.AgainLists.{ItemAgain, SeparatedAgain, last_again, next_again, listed_again, empty_again, brace_closes}
use Rattle.td_parse.proofs.AgainNames.{Anything}

pub record TypeAgain (xs : List Lexeme) (t : TypeTree) : Type 0 where
  pub reads : (d : ℕ) (s : List Lexeme) → type_height t ≤ d → read_type d (xs ++ s) ≡ Some (t, s)

pub record HeadingAgain (xs : List Lexeme) (h : AttributeTrees) : Type 0 where
  pub reads : (d : ℕ) (s : List Lexeme) → attributes_height h ≤ d → heading (read_type d) (xs ++ s) ≡ Some (h, s)

-- names with their types, one by one
abbrev pub attribute_items : AttributeTrees → List (Text × TypeTree)
attribute_items tree.no_attributes = []
attribute_items (tree.attribute n t rest) = (n, t) ∷ attribute_items rest

pub attributes_back : (h : AttributeTrees) → attribute_trees_from (attribute_items h) ≡ h
attributes_back tree.no_attributes = refl
attributes_back (tree.attribute n t rest) = ap (λ r. tree.attribute n t r) (attributes_back rest)

pub record AttributesAgain (xs : List Lexeme) (h : AttributeTrees) : Type 0 where
  pub reads : (d : ℕ) → attributes_height h ≤ d → SeparatedAgain (attribute (read_type d)) Anything xs (attribute_items h)

type_height_pos : (t : TypeTree) → 0 < type_height t
type_height_pos tree.integer = omega arith
type_height_pos tree.char = omega arith
type_height_pos tree.boolean = omega arith
type_height_pos (tree.user n) = omega arith
type_height_pos (tree.tuple_type h) = omega arith
type_height_pos (tree.relation_type h) = omega arith

type_from : (xs : List Lexeme) (t : TypeTree) → ((d : ℕ) (s : List Lexeme) → type_height t ≤ suc d → type_of_first (read_type d) (xs ++ s) ≡ Some (t, s)) → TypeAgain xs t
unfolding read_type
type_from xs t first = record {
  reads = λ d s.
      elim d as (λ n. type_height t ≤ n → read_type n (xs ++ s) ≡ Some (t, s)) [
        | zero ↦ λ lt. absurd (omega (arith, type_height_pos t))
        | suc n ↦ λ lt. first n s lt
      ];
}

integer_reads : TypeAgain (keyword k.Integer ∷ []) tree.integer
unfolding type_of_first type_of_word
integer_reads = type_from _ _ λ d s lt. refl

char_reads : TypeAgain (keyword k.Char ∷ []) tree.char
unfolding type_of_first type_of_word
char_reads = type_from _ _ λ d s lt. refl

boolean_reads : TypeAgain (keyword k.Boolean ∷ []) tree.boolean
unfolding type_of_first type_of_word
boolean_reads = type_from _ _ λ d s lt. refl

user_reads : (n : Text) → TypeAgain (lexeme.name n ∷ []) (tree.user n)
unfolding type_of_first
user_reads n = type_from _ _ λ d s lt. refl

relation_reads : (xs : List Lexeme) (h : AttributeTrees) → HeadingAgain xs h → TypeAgain (keyword k.Relation ∷ xs) (tree.relation_type h)
unfolding type_of_first type_of_word
relation_reads xs h r = type_from _ _ λ d s lt. rw (r.reads d s (omega arith)) refl

tuple_reads : (xs : List Lexeme) (h : AttributeTrees) → HeadingAgain xs h → TypeAgain (keyword k.Tuple ∷ xs) (tree.tuple_type h)
unfolding type_of_first type_of_word
tuple_reads xs h r = type_from _ _ λ d s lt. rw (r.reads d s (omega arith)) refl

attribute_reads : (n : Text) (xs : List Lexeme) (t : TypeTree) (d : ℕ) → TypeAgain xs t → type_height t ≤ d → ItemAgain (attribute (read_type d)) Anything (lexeme.name n ∷ xs) (n, t)
unfolding attribute read_name
attribute_reads n xs t d r lt = record { reads = λ s st. rw (r.reads d s lt) refl }

empty_heading_reads : HeadingAgain (with_braces []) tree.no_attributes
unfolding heading expect
empty_heading_reads = record { reads = λ d s lt. rw (empty_again (attribute (read_type d)) (sign signs.CloseBrace) brace_closes s) refl }

attributes_begin : {xs : List Lexeme} {h : AttributeTrees} → AttributesSpelling xs h → (s : List Lexeme) → expect (sign signs.CloseBrace) (xs ++ s) ≡ None
unfolding expect
attributes_begin (last_attribute p) s = refl
attributes_begin (next_attribute p q) s = refl

heading_reads : (xs : List Lexeme) (h : AttributeTrees) → AttributesSpelling xs h → AttributesAgain xs h → HeadingAgain (with_braces xs) h
unfolding heading expect
heading_reads xs h p r = record {
  reads = λ d s lt.
      rw (append_assoc xs (sign signs.CloseBrace ∷ []) s, listed_again (attribute (read_type d)) Anything xs (attribute_items h) (sign signs.CloseBrace) brace_closes (r.reads d lt) s tt (attributes_begin p (sign signs.CloseBrace ∷ s)), attributes_back h) refl;
}

mutual
  pub type_reads : {xs : List Lexeme} {t : TypeTree} → TypeSpelling xs t → TypeAgain xs t
  type_reads integer_type = integer_reads
  type_reads char_type = char_reads
  type_reads boolean_type = boolean_reads
  type_reads (user_type {n}) = user_reads n
  type_reads (relation_type {xs} {h} p) = relation_reads xs h (heading_again p)
  type_reads (tuple_type {xs} {h} p) = tuple_reads xs h (heading_again p)

  pub heading_again : {xs : List Lexeme} {h : AttributeTrees} → HeadingSpelling xs h → HeadingAgain xs h
  heading_again empty_heading = empty_heading_reads
  heading_again (grammar.heading {xs} {h} p) = heading_reads xs h p (attributes_again p)

  pub attributes_again : {xs : List Lexeme} {h : AttributeTrees} → AttributesSpelling xs h → AttributesAgain xs h
  attributes_again (last_attribute {n} {xs} {t} p) = record { reads = λ d lt. last_again (attribute (read_type d)) Anything (lexeme.name n ∷ xs) (n, t) (attribute_reads n xs t d (type_reads p) (omega arith)) }
  attributes_again (next_attribute {n} {xs} {ys} {t} {h} p q) = record {
    reads = λ d lt. next_again (attribute (read_type d)) Anything (lexeme.name n ∷ xs) ys (n, t) (attribute_items h) (λ s. tt) (attribute_reads n xs t d (type_reads p) (omega arith)) ((attributes_again q).reads d (omega arith));
  }

-- the heading of a relation type, within the type's height
pub relation_heading_again : {xs : List Lexeme} {h : AttributeTrees} → HeadingSpelling xs h → (d : ℕ) (s : List Lexeme) → type_height (tree.relation_type h) ≤ d → relation_heading d (xs ++ s) ≡ Some (h, s)
unfolding relation_heading
relation_heading_again p zero s lt = absurd (omega arith)
relation_heading_again p (suc d) s lt = (heading_again p).reads d s (omega arith)
