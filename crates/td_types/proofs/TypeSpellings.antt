-- The grammar sees the text of a type as the lexemes of its tree.
use Rattle.std.proofs.Common.{◌≡◌, ap, sym, refl, ℕ, List, [], ◌∷◌, ◌++◌, Bool, true, false, append-nil, append_assoc, codes, subst}
use Rattle.td_tree.specs.declared.keyword.Keyword.TheVariants as k
use Rattle.td_tree.specs.declared.token.Sign.TheVariants as signs
use Rattle.td_tree.specs.model.Grammar.{TypeSpelling}
use Rattle.td_tree.specs.model.Lexemes.{Lexeme, keyword, sign}
use Rattle.td_tree.specs.model.Lexemes as lexeme
use Rattle.td_tree.specs.model.Prints.{attribute_lexemes, commas, following, heading_lexemes, type_lexemes}
use Rattle.td_tree.specs.code.Written.{comma_lexeme_if}
use Rattle.td_tree.proofs.law_lemmas.Boundaries.{IsBounded}
use Rattle.td_tree.proofs.law_lemmas.OwnSpellings.{items_after, items_first, items_follow, type_spelled}
use Rattle.td_tree.proofs.law_lemmas.SeenLaws.{IsSeen, between_braces, close_brace_seen, comma_seen, lexeme_seen, nothing_seen, seen_same, space_seen}
use Rattle.td_types.specs.model.Texts.{attributes_text, comma_if, heading_text, type_text}
use Rattle.td_types.specs.model.Types.{Type', boolean, integer, char, user, tuple, relation, Attrs, no_attrs, attr, IsHeading, IsType}
use Rattle.td_types.specs.laws.TypeTrees.{TypeTextsSpellTheirTrees, attribute_trees, type_tree}
use Rattle.td_types.proofs.TypeTexts.{regroup_3, regroup_5}

-- what stands before a part
pub comma_if_seen : (later : Bool) (rest : List ℕ) (ls : List Lexeme) → IsSeen rest ls → IsSeen (comma_if later ++ rest) (comma_lexeme_if later ++ ls)
comma_if_seen true rest ls seen = comma_seen (32 ∷ rest) ls (space_seen rest ls seen)
comma_if_seen false rest ls seen = seen

-- an item and those that follow it, before what is left
pub regroup_items : (c item items ls : List Lexeme) → (c ++ (item ++ items)) ++ ls ≡ c ++ (item ++ (items ++ ls))
regroup_items c item items ls = simp append_assoc

-- what follows an item ends it
pub attributes_bounded : (h : Attrs) (rest : List ℕ) → IsBounded rest → IsBounded (attributes_text true h ++ rest)
attributes_bounded no_attrs rest bounded = bounded
attributes_bounded (attr n t h) rest bounded = refl

-- attributes between braces
braced_seen : (h : Attrs) (rest : List ℕ) (ls : List Lexeme) → IsSeen (attributes_text false h ++ 125 ∷ rest) (items_after false (attribute_lexemes (attribute_trees h)) ++ (sign signs.CloseBrace ∷ ls))
    → IsSeen (123 ∷ (attributes_text false h ++ 125 ∷ rest)) (heading_lexemes (attribute_trees h) ++ ls)
braced_seen h rest ls seen =
    let items : List (List Lexeme) = attribute_lexemes (attribute_trees h) in
    between_braces (attributes_text false h ++ 125 ∷ rest) (commas items) ls
    (seen_same _ _ _ _ refl (ap (λ xs. xs ++ (sign signs.CloseBrace ∷ ls)) (sym (items_first items))) seen)

mutual
  pub type_seen : (t : Type') → IsType t → (rest : List ℕ) (ls : List Lexeme) → IsBounded rest → IsSeen rest ls → IsSeen (type_text t ++ rest) (type_lexemes (type_tree t) ++ ls)
  type_seen boolean p rest ls bounded seen = lexeme_seen (keyword k.Boolean) rest ls tt tt bounded seen
  type_seen integer p rest ls bounded seen = lexeme_seen (keyword k.Integer) rest ls tt tt bounded seen
  type_seen char p rest ls bounded seen = lexeme_seen (keyword k.Char) rest ls tt tt bounded seen
  type_seen (user n) p rest ls bounded seen = lexeme_seen (lexeme.name n) rest ls tt (p.utf8, p.named) bounded seen
  type_seen (tuple h) p rest ls bounded seen =
      seen_same (type_text (tuple h) ++ rest) (codes "TUPLE {" ++ (attributes_text false h ++ 125 ∷ rest)) _ (keyword k.Tuple ∷ (heading_lexemes (attribute_trees h) ++ ls))
      (regroup_3 (codes "TUPLE {") (attributes_text false h) (codes "}") rest) refl
      (lexeme_seen (keyword k.Tuple) (32 ∷ 123 ∷ (attributes_text false h ++ 125 ∷ rest)) (heading_lexemes (attribute_trees h) ++ ls) tt tt refl
      (space_seen (123 ∷ (attributes_text false h ++ 125 ∷ rest)) (heading_lexemes (attribute_trees h) ++ ls) (braced_seen h rest ls (attributes_seen false h p (125 ∷ rest) (sign signs.CloseBrace ∷ ls) refl (close_brace_seen rest ls seen)))))
  type_seen (relation h) p rest ls bounded seen =
      seen_same (type_text (relation h) ++ rest) (codes "RELATION {" ++ (attributes_text false h ++ 125 ∷ rest)) _ (keyword k.Relation ∷ (heading_lexemes (attribute_trees h) ++ ls))
      (regroup_3 (codes "RELATION {") (attributes_text false h) (codes "}") rest) refl
      (lexeme_seen (keyword k.Relation) (32 ∷ 123 ∷ (attributes_text false h ++ 125 ∷ rest)) (heading_lexemes (attribute_trees h) ++ ls) tt tt refl
      (space_seen (123 ∷ (attributes_text false h ++ 125 ∷ rest)) (heading_lexemes (attribute_trees h) ++ ls) (braced_seen h rest ls (attributes_seen false h p (125 ∷ rest) (sign signs.CloseBrace ∷ ls) refl (close_brace_seen rest ls seen)))))

  attributes_seen : (later : Bool) (h : Attrs) → IsHeading h → (rest : List ℕ) (ls : List Lexeme) → IsBounded rest → IsSeen rest ls
      → IsSeen (attributes_text later h ++ rest) (items_after later (attribute_lexemes (attribute_trees h)) ++ ls)
  attributes_seen later no_attrs p rest ls bounded seen = seen
  attributes_seen later (attr n t h) p rest ls bounded seen =
      let items : List (List Lexeme) = attribute_lexemes (attribute_trees h) in
      let item : List Lexeme = type_lexemes (type_tree t) in
      let left : List ℕ = attributes_text true h ++ rest in
      let others : IsSeen left (following items ++ ls) = seen_same left left _ _ refl (ap (λ xs. xs ++ ls) (sym (items_follow items))) (attributes_seen true h p.3 rest ls bounded seen) in
      let ty : IsSeen (type_text t ++ left) (item ++ (following items ++ ls)) = type_seen t p.1 left (following items ++ ls) (attributes_bounded h rest bounded) others in
      let named : IsSeen (n ++ 32 ∷ (type_text t ++ left)) (lexeme.name n ∷ (item ++ (following items ++ ls)))
      = lexeme_seen (lexeme.name n) (32 ∷ (type_text t ++ left)) (item ++ (following items ++ ls)) tt (p.0.utf8, p.0.named) refl (space_seen (type_text t ++ left) (item ++ (following items ++ ls)) ty) in
      seen_same _ (comma_if later ++ (n ++ 32 ∷ (type_text t ++ left))) _ (comma_lexeme_if later ++ (lexeme.name n ∷ (item ++ (following items ++ ls))))
      (regroup_5 (comma_if later) n (codes " ") (type_text t) (attributes_text true h) rest)
      (regroup_items (comma_lexeme_if later) (lexeme.name n ∷ item) (following items) ls)
      (comma_if_seen later (n ++ 32 ∷ (type_text t ++ left)) (lexeme.name n ∷ (item ++ (following items ++ ls))) named)

-- a heading's text between braces, with what stands after it
pub heading_seen : (h : Attrs) → IsHeading h → (rest : List ℕ) (ls : List Lexeme) → IsSeen rest ls → IsSeen (heading_text h ++ rest) (heading_lexemes (attribute_trees h) ++ ls)
heading_seen h p rest ls seen =
    seen_same (heading_text h ++ rest) (123 ∷ (attributes_text false h ++ 125 ∷ rest)) _ _ (regroup_3 (codes "{") (attributes_text false h) (codes "}") rest) refl (braced_seen h rest ls (attributes_seen false h p (125 ∷ rest) (sign signs.CloseBrace ∷ ls) refl (close_brace_seen rest ls seen)))

-- the tokens of a type's text spell its tree
pub texts_spell : TypeTextsSpellTheirTrees
texts_spell t p =
    let seen = type_seen t p [] [] tt nothing_seen in
    let same = seen_same (type_text t) (type_text t ++ []) (type_lexemes (type_tree t)) _ (sym (append-nil _)) (sym (append-nil _)) seen in
    subst (λ xs. TypeSpelling xs (type_tree t)) (sym (same 0)) (type_spelled (type_tree t))
