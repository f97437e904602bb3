-- What is read as a type is spelled, and not too high.
use Rattle.std.proofs.Common.{◌≡◌, ℕ, zero, suc, ◌≤◌, List, [], ◌∷◌, Some, refl, arith}
use Rattle.td_tree.specs.declared.keyword.Keyword.{Keyword}
use Rattle.td_tree.specs.declared.keyword.Keyword.TheVariants as k
use Rattle.td_tree.specs.declared.token.Sign.TheVariants as signs
use Rattle.td_tree.specs.model.Grammar.{TypeSpelling, integer_type, char_type, boolean_type, user_type, relation_type, tuple_type, HeadingSpelling, empty_heading, AttributesSpelling, last_attribute, next_attribute}
use Rattle.td_tree.specs.model.Grammar as grammar
use Rattle.td_tree.specs.model.Heights.{type_height, attributes_height}
use Rattle.td_tree.specs.model.Lexemes.{Lexeme, keyword, sign}
use Rattle.td_tree.specs.model.Lexemes as lexeme
use Rattle.td_tree.specs.model.Lists.{Listed, no_items, some_items, Separated, one_item, next_item, with_braces}
use Rattle.td_parse.specs.code.ReadingSteps.{ReadOf, expect, read_name, listed_to}
use Rattle.td_parse.specs.code.ReadingTypes.{attribute, attribute_trees_from, heading, type_of_word, type_of_first, read_type, relation_heading}
use Rattle.td_tree.specs.model.Trees as tree
use Rattle.td_tree.specs.model.Trees.{Text, TypeTree, AttributeTrees}
use Rattle.td_parse.proofs.SoundNames.{after_word}
use Rattle.td_parse.proofs.SoundSteps.{some, bind_some, glue, expect_front, Takes, Sound, retake, name_front, listed_sound}

-- a type of at most this height
pub record IsType (d : ℕ) (xs : List Lexeme) (t : TypeTree) : Type 0 where
  pub spelled : TypeSpelling xs t
  pub low : type_height t ≤ d

-- a heading of types of at most this height
pub record IsHeading (d : ℕ) (xs : List Lexeme) (h : AttributeTrees) : Type 0 where
  pub spelled : HeadingSpelling xs h
  pub low : attributes_height h ≤ d

-- names with types of at most this height
pub record AreAttributes (d : ℕ) (xs : List Lexeme) (h : AttributeTrees) : Type 0 where
  pub spelled : AttributesSpelling xs h
  pub low : attributes_height h ≤ d

pub data IsAttribute (d : ℕ) : List Lexeme → Text × TypeTree → Type 0 where
  attribute_item : {n : Text} {xs : List Lexeme} {t : TypeTree} → TypeSpelling xs t → type_height t ≤ d → IsAttribute d (lexeme.name n ∷ xs) (n, t)

pub are_attributes : {d : ℕ} {xs : List Lexeme} {all : List (Text × TypeTree)} → Separated (IsAttribute d) xs all → AreAttributes d xs (attribute_trees_from all)
are_attributes (one_item (attribute_item p lt)) = record { spelled = last_attribute p; low = omega arith }
are_attributes (next_item (attribute_item p lt) q) =
    let r = are_attributes q in
    record { spelled = next_attribute p r.spelled; low = omega (arith, r.low) }

is_heading : {d : ℕ} {xs : List Lexeme} {all : List (Text × TypeTree)} → Listed (IsAttribute d) xs all → IsHeading d (with_braces xs) (attribute_trees_from all)
is_heading no_items = record { spelled = empty_heading; low = omega arith }
is_heading (some_items p) =
    let r = are_attributes p in
    record { spelled = grammar.heading r.spelled; low = r.low }

module _ (inner : List Lexeme → ReadOf TypeTree) (d : ℕ) (inside : Sound (IsType d) inner) where
  pub attribute_sound : Sound (IsAttribute d) (attribute inner)
  unfolding attribute
  attribute_sound ts a rest e =
      let b = bind_some (read_name ts) _ _ e in
      let c = bind_some (inner b.0.1) _ _ b.2 in
      let t = inside b.0.1 c.0.0 c.0.1 c.1 in
      retake (IsAttribute d) c.2 (attribute_item t.spelled.spelled t.spelled.low) (glue (name_front ts b.0.0 b.0.1 b.1) t.parts)

  pub heading_sound : Sound (IsHeading d) (heading inner)
  unfolding heading
  heading_sound ts h rest e =
      let b = bind_some (expect (sign signs.OpenBrace) ts) _ _ e in
      let c = bind_some (listed_to (sign signs.CloseBrace) (attribute inner) b.0) _ _ b.2 in
      let t = listed_sound (attribute inner) attribute_sound (sign signs.CloseBrace) b.0 c.0.0 c.0.1 c.1 in
      retake (IsHeading d) c.2 (is_heading t.spelled) (glue (expect_front (sign signs.OpenBrace) ts b.0 b.1) t.parts)

  one_word : (w : Keyword) (a t : TypeTree) (ts rest : List Lexeme) → TypeSpelling (keyword w ∷ []) a → type_height a ≤ suc d → some {A = TypeTree × List Lexeme} (a, ts) ≡ some {A = TypeTree × List Lexeme} (t, rest) → Takes (IsType (suc d)) (keyword w ∷ ts) t rest
  one_word w a t ts rest p lt e = retake (IsType (suc d)) e (record { spelled = p; low = lt }) (record { parts = refl })

  type_word_sound : (w : Keyword) (ts : List Lexeme) (t : TypeTree) (rest : List Lexeme) → type_of_word inner w ts ≡ Some (t, rest) → Takes (IsType (suc d)) (keyword w ∷ ts) t rest
  unfolding type_of_word
  type_word_sound k.Integer ts t rest e = one_word k.Integer tree.integer t ts rest integer_type (omega arith) e
  type_word_sound k.Char ts t rest e = one_word k.Char tree.char t ts rest char_type (omega arith) e
  type_word_sound k.Boolean ts t rest e = one_word k.Boolean tree.boolean t ts rest boolean_type (omega arith) e
  type_word_sound k.Relation ts t rest e =
      let b = bind_some (heading inner ts) _ _ e in
      let h = heading_sound ts b.0.0 b.0.1 b.1 in
      retake (IsType (suc d)) b.2 (record { spelled = relation_type h.spelled.spelled; low = omega (arith, h.spelled.low) }) (after_word (keyword k.Relation) h.parts)
  type_word_sound k.Tuple ts t rest e =
      let b = bind_some (heading inner ts) _ _ e in
      let h = heading_sound ts b.0.0 b.0.1 b.1 in
      retake (IsType (suc d)) b.2 (record { spelled = tuple_type h.spelled.spelled; low = omega (arith, h.spelled.low) }) (after_word (keyword k.Tuple) h.parts)
  type_word_sound _ ts t rest e = absurd cc

  type_first_sound : Sound (IsType (suc d)) (type_of_first inner)
  unfolding type_of_first
  type_first_sound (keyword w ∷ ts) t rest e = type_word_sound w ts t rest e
  type_first_sound (lexeme.name n ∷ ts) t rest e = retake (IsType (suc d)) e (record { spelled = user_type; low = omega arith }) (record { parts = refl })
  type_first_sound _ t rest e = absurd cc

pub type_sound : (d : ℕ) → Sound (IsType d) (read_type d)
unfolding read_type
type_sound zero ts t rest e = absurd cc
type_sound (suc d) ts t rest e = type_first_sound (read_type d) d (type_sound d) ts t rest e

-- a heading whose relation type is of at most this height
pub record IsRelationHeading (d : ℕ) (xs : List Lexeme) (h : AttributeTrees) : Type 0 where
  pub spelled : HeadingSpelling xs h
  pub low : type_height (tree.relation_type h) ≤ d

pub relation_heading_sound : (d : ℕ) → Sound (IsRelationHeading d) (relation_heading d)
unfolding relation_heading
relation_heading_sound zero ts h rest e = absurd cc
relation_heading_sound (suc d) ts h rest e =
    let t = heading_sound (read_type d) d (type_sound d) ts h rest e in
    record { front = t.front; spelled = record { spelled = t.spelled.spelled; low = omega (arith, t.spelled.low) }; parts = t.parts }
