-- The grammar sees the literal of a value as the lexemes of its tree, which spell the tree.
use Rattle.std.proofs.Common.{◌≤◌, ◌<◌, ◌^◌, ap, sym, refl, arith, ℕ, pos, negsuc, suc, List, [], ◌∷◌, ◌++◌, Bool, true, false, append-nil, append_assoc, codes, subst}
use Rattle.std.specs.Fmt.{decimal}
use Rattle.std.proofs.lemmas.Int.{ints}
use Rattle.td_tree.specs.declared.keyword.Keyword.TheVariants as k
use Rattle.td_tree.specs.declared.token.Sign.TheVariants as signs
use Rattle.td_tree.specs.model.Grammar as g
use Rattle.td_tree.specs.model.Grammar.{Spelling, loosest}
use Rattle.td_tree.specs.model.Lexemes.{Lexeme, keyword, sign}
use Rattle.td_tree.specs.model.Lexemes as lexeme
use Rattle.td_tree.specs.model.Numbers.{numeral_limit}
use Rattle.td_tree.specs.model.Prints.{all_lexemes, commas, following, heading_lexemes, lexemes_of, part_lexemes}
use Rattle.td_tree.specs.model.Trees as trees
use Rattle.td_tree.specs.model.Lists.{with_braces, with_parentheses}
use Rattle.td_tree.specs.code.Written.{comma_lexeme_if}
use Rattle.td_tree.proofs.law_lemmas.Boundaries.{IsBounded}
use Rattle.td_tree.proofs.law_lemmas.OwnSpellings.{AllNamedSpelled, AllSpelled, IsSpelled, at_level, heading_spelled, items_after, items_first, items_follow, list_spelled, tuple_spelled}
use Rattle.td_tree.proofs.law_lemmas.SeenLaws.{IsSeen, between_braces, between_parentheses, close_brace_seen, close_parenthesis_seen, lexeme_seen, minus_seen, nothing_seen, seen_same, space_seen}
use Rattle.td_types.specs.model.Texts.{comma_if, type_text}
use Rattle.td_types.specs.model.Types.{Attrs}
use Rattle.td_types.specs.model.Types as types
use Rattle.td_types.specs.laws.TypeTrees.{attribute_trees}
use Rattle.td_types.proofs.TypeSpellings.{comma_if_seen, regroup_items, type_seen}
use Rattle.td_types.proofs.TypeTexts.{regroup_3, regroup_5}
use Rattle.td_value.specs.model.Literal.{literal, fields_literal, parts_literal, rows_literal}
use Rattle.td_value.specs.laws.LiteralTrees.{LiteralsSpellTheirTrees, field_trees, literal_tree, part_trees, row_trees}
use Rattle.td_value.specs.model.Values.{Val, boolean, integer, char, user, tuple, relation, Parts, no_parts, part, Fields, no_fields, field, Rows, no_rows, row, AreFields, AreRows, AreValues, IsInRange, IsValue}

-- ---- the lexemes of a literal's tree spell it

in_range : (n : ℕ) → IsInRange (pos n) → n ≤ numeral_limit false
in_range n h = omega (arith, ints, h.1)

in_range_below : (n : ℕ) → IsInRange (negsuc n) → suc n ≤ numeral_limit true
in_range_below n h = omega (arith, ints, h.0)

mutual
  value_spelled : (v : Val) → IsValue v → IsSpelled (literal_tree v)
  value_spelled (boolean true) p = g.literal g.true_literal
  value_spelled (boolean false) p = g.literal g.false_literal
  value_spelled (integer (pos n)) p = g.literal (g.number_literal (in_range n p))
  value_spelled (integer (negsuc n)) p = g.literal (g.minus_literal (in_range_below n p))
  value_spelled (char s) p = g.literal g.text_literal
  value_spelled (user n ps) p = g.selector (list_spelled (part_trees ps) (values_spelled ps p.1))
  value_spelled (tuple fs) p = tuple_spelled (field_trees fs) (fields_spelled fs p.0)
  value_spelled (relation h rs) p = g.headed_relation (heading_spelled (attribute_trees h)) (list_spelled (row_trees rs) (rows_spelled h rs p.0))

  values_spelled : (ps : Parts) → AreValues ps → AllSpelled (part_trees ps)
  values_spelled no_parts p = tt
  values_spelled (part v ps) p = (value_spelled v p.0, values_spelled ps p.1)

  fields_spelled : (fs : Fields) → AreFields fs → AllNamedSpelled (field_trees fs)
  fields_spelled no_fields p = tt
  fields_spelled (field n v fs) p = (value_spelled v p.1, fields_spelled fs p.2)

  rows_spelled : (h : Attrs) (rs : Rows) → AreRows h rs → AllSpelled (row_trees rs)
  rows_spelled h no_rows p = tt
  rows_spelled h (row fs rs) p = (tuple_spelled (field_trees fs) (fields_spelled fs p.0.0), rows_spelled h rs p.1)

-- ---- a literal is seen as these

-- what follows an item ends it
parts_bounded : (ps : Parts) (rest : List ℕ) → IsBounded rest → IsBounded (parts_literal true ps ++ rest)
parts_bounded no_parts rest bounded = bounded
parts_bounded (part v ps) rest bounded = refl

fields_bounded : (fs : Fields) (rest : List ℕ) → IsBounded rest → IsBounded (fields_literal true fs ++ rest)
fields_bounded no_fields rest bounded = bounded
fields_bounded (field n v fs) rest bounded = refl

-- items after one, seen as those that follow it
follows : (bytes : List ℕ) (items : List (List Lexeme)) (ls : List Lexeme) → IsSeen bytes (items_after true items ++ ls) → IsSeen bytes (following items ++ ls)
follows bytes items ls seen = seen_same bytes bytes _ _ refl (ap (λ xs. xs ++ ls) (sym (items_follow items))) seen

-- the first items, seen as all
first : (bytes : List ℕ) (items : List (List Lexeme)) (ls : List Lexeme) → IsSeen bytes (items_after false items ++ ls) → IsSeen bytes (commas items ++ ls)
first bytes items ls seen = seen_same bytes bytes _ _ refl (ap (λ xs. xs ++ ls) (sym (items_first items))) seen

-- TUPLE and its fields between braces
tuple_seen : (fs : Fields) (rest : List ℕ) (ls : List Lexeme) → IsSeen (fields_literal false fs ++ 125 ∷ rest) (items_after false (part_lexemes (field_trees fs)) ++ (sign signs.CloseBrace ∷ ls))
    → IsSeen (codes "TUPLE {" ++ (fields_literal false fs ++ 125 ∷ rest)) (lexemes_of (trees.tuple (field_trees fs)) ++ ls)
tuple_seen fs rest ls fields =
    let items : List (List Lexeme) = part_lexemes (field_trees fs) in
    let inner : List ℕ = fields_literal false fs ++ 125 ∷ rest in
    let closed : IsSeen (123 ∷ inner) (with_braces (commas items) ++ ls) = between_braces inner (commas items) ls (first inner items (sign signs.CloseBrace ∷ ls) fields) in
    lexeme_seen (keyword k.Tuple) (32 ∷ 123 ∷ inner) (with_braces (commas items) ++ ls) tt tt refl (space_seen (123 ∷ inner) (with_braces (commas items) ++ ls) closed)

mutual
  pub value_seen : (v : Val) → IsValue v → (rest : List ℕ) (ls : List Lexeme) → IsBounded rest → IsSeen rest ls → IsSeen (literal v ++ rest) (lexemes_of (literal_tree v) ++ ls)
  value_seen (boolean true) p rest ls bounded seen = lexeme_seen (keyword k.True) rest ls tt tt bounded seen
  value_seen (boolean false) p rest ls bounded seen = lexeme_seen (keyword k.False) rest ls tt tt bounded seen
  value_seen (integer (pos n)) p rest ls bounded seen =
      let low : n < 2 ^ 64 = omega (arith, in_range n p) in
      lexeme_seen (lexeme.number n) rest ls low tt bounded seen
  value_seen (integer (negsuc n)) p rest ls bounded seen =
      let low : suc n < 2 ^ 64 = omega (arith, in_range_below n p) in
      minus_seen (decimal (suc n) ++ rest) (lexeme.number (suc n) ∷ ls) (lexeme_seen (lexeme.number (suc n)) rest ls low tt bounded seen)
  value_seen (char s) p rest ls bounded seen = lexeme_seen (lexeme.text s) rest ls tt p bounded seen
  value_seen (user n ps) p rest ls bounded seen =
      let items : List (List Lexeme) = all_lexemes (part_trees ps) in
      let inner : List ℕ = parts_literal false ps ++ 41 ∷ rest in
      let parts : IsSeen inner (items_after false items ++ (sign signs.CloseParenthesis ∷ ls))
      = parts_seen false ps p.1 (41 ∷ rest) (sign signs.CloseParenthesis ∷ ls) refl (close_parenthesis_seen rest ls seen) in
      let closed : IsSeen (40 ∷ inner) (with_parentheses (commas items) ++ ls) = between_parentheses inner (commas items) ls (first inner items (sign signs.CloseParenthesis ∷ ls) parts) in
      seen_same (literal (user n ps) ++ rest) (n ++ 40 ∷ inner) _ (lexeme.name n ∷ (with_parentheses (commas items) ++ ls))
      (regroup_5 [] n (codes "(") (parts_literal false ps) (codes ")") rest) refl
      (lexeme_seen (lexeme.name n) (40 ∷ inner) (with_parentheses (commas items) ++ ls) tt (p.0.utf8, p.0.named) refl closed)
  value_seen (tuple fs) p rest ls bounded seen =
      seen_same (literal (tuple fs) ++ rest) (codes "TUPLE {" ++ (fields_literal false fs ++ 125 ∷ rest)) _ _
      (regroup_3 (codes "TUPLE {") (fields_literal false fs) (codes "}") rest) refl (tuple_seen fs rest ls (fields_seen false fs p.0 (125 ∷ rest) (sign signs.CloseBrace ∷ ls) refl (close_brace_seen rest ls seen)))
  value_seen (relation h rs) p rest ls bounded seen =
      let items : List (List Lexeme) = all_lexemes (row_trees rs) in
      let inner : List ℕ = rows_literal false rs ++ 125 ∷ rest in
      let rows : IsSeen inner (items_after false items ++ (sign signs.CloseBrace ∷ ls))
      = rows_seen false h rs p.0 (125 ∷ rest) (sign signs.CloseBrace ∷ ls) refl (close_brace_seen rest ls seen) in
      let closed : IsSeen (123 ∷ inner) (with_braces (commas items) ++ ls) = between_braces inner (commas items) ls (first inner items (sign signs.CloseBrace ∷ ls) rows) in
      let typed = type_seen (types.relation h) p.2 (32 ∷ 123 ∷ inner) (with_braces (commas items) ++ ls) refl (space_seen (123 ∷ inner) (with_braces (commas items) ++ ls) closed) in
      seen_same (literal (relation h rs) ++ rest) (type_text (types.relation h) ++ (32 ∷ 123 ∷ inner)) _ _
      (regroup_5 [] (type_text (types.relation h)) (codes " {") (rows_literal false rs) (codes "}") rest)
      (ap (λ xs. keyword k.Relation ∷ xs) (append_assoc (heading_lexemes (attribute_trees h)) (with_braces (commas items)) ls)) typed

  parts_seen : (later : Bool) (ps : Parts) → AreValues ps → (rest : List ℕ) (ls : List Lexeme) → IsBounded rest → IsSeen rest ls
      → IsSeen (parts_literal later ps ++ rest) (items_after later (all_lexemes (part_trees ps)) ++ ls)
  parts_seen later no_parts p rest ls bounded seen = seen
  parts_seen later (part v ps) p rest ls bounded seen =
      let items : List (List Lexeme) = all_lexemes (part_trees ps) in
      let left : List ℕ = parts_literal true ps ++ rest in
      let others : IsSeen left (following items ++ ls) = follows left items ls (parts_seen true ps p.1 rest ls bounded seen) in
      let value : IsSeen (literal v ++ left) (lexemes_of (literal_tree v) ++ (following items ++ ls)) = value_seen v p.0 left (following items ++ ls) (parts_bounded ps rest bounded) others in
      seen_same _ (comma_if later ++ (literal v ++ left)) _ (comma_lexeme_if later ++ (lexemes_of (literal_tree v) ++ (following items ++ ls)))
      (regroup_3 (comma_if later) (literal v) (parts_literal true ps) rest)
      (regroup_items (comma_lexeme_if later) (lexemes_of (literal_tree v)) (following items) ls)
      (comma_if_seen later (literal v ++ left) (lexemes_of (literal_tree v) ++ (following items ++ ls)) value)

  fields_seen : (later : Bool) (fs : Fields) → AreFields fs → (rest : List ℕ) (ls : List Lexeme) → IsBounded rest → IsSeen rest ls
      → IsSeen (fields_literal later fs ++ rest) (items_after later (part_lexemes (field_trees fs)) ++ ls)
  fields_seen later no_fields p rest ls bounded seen = seen
  fields_seen later (field n v fs) p rest ls bounded seen =
      let items : List (List Lexeme) = part_lexemes (field_trees fs) in
      let item : List Lexeme = lexemes_of (literal_tree v) in
      let left : List ℕ = fields_literal true fs ++ rest in
      let others : IsSeen left (following items ++ ls) = follows left items ls (fields_seen true fs p.2 rest ls bounded seen) in
      let value : IsSeen (literal v ++ left) (item ++ (following items ++ ls)) = value_seen v p.1 left (following items ++ ls) (fields_bounded fs rest bounded) others in
      let named : IsSeen (n ++ 32 ∷ (literal v ++ left)) (lexeme.name n ∷ (item ++ (following items ++ ls)))
      = lexeme_seen (lexeme.name n) (32 ∷ (literal v ++ left)) (item ++ (following items ++ ls)) tt (p.0.utf8, p.0.named) refl (space_seen (literal v ++ left) (item ++ (following items ++ ls)) value) in
      seen_same _ (comma_if later ++ (n ++ 32 ∷ (literal v ++ left))) _ (comma_lexeme_if later ++ (lexeme.name n ∷ (item ++ (following items ++ ls))))
      (regroup_5 (comma_if later) n (codes " ") (literal v) (fields_literal true fs) rest)
      (regroup_items (comma_lexeme_if later) (lexeme.name n ∷ item) (following items) ls)
      (comma_if_seen later (n ++ 32 ∷ (literal v ++ left)) (lexeme.name n ∷ (item ++ (following items ++ ls))) named)

  rows_seen : (later : Bool) (h : Attrs) (rs : Rows) → AreRows h rs → (rest : List ℕ) (ls : List Lexeme) → IsBounded rest → IsSeen rest ls
      → IsSeen (rows_literal later rs ++ rest) (items_after later (all_lexemes (row_trees rs)) ++ ls)
  rows_seen later h no_rows p rest ls bounded seen = seen
  rows_seen later h (row fs rs) p rest ls bounded seen =
      let items : List (List Lexeme) = all_lexemes (row_trees rs) in
      let item : List Lexeme = lexemes_of (trees.tuple (field_trees fs)) in
      let left : List ℕ = rows_literal true rs ++ rest in
      let others : IsSeen left (following items ++ ls) = follows left items ls (rows_seen true h rs p.1 rest ls bounded seen) in
      let whole : IsSeen (codes "TUPLE {" ++ (fields_literal false fs ++ 125 ∷ left)) (item ++ (following items ++ ls)) = tuple_seen fs left (following items ++ ls) (fields_seen false fs p.0.0 (125 ∷ left) (sign signs.CloseBrace ∷ (following items ++ ls)) refl (close_brace_seen left (following items ++ ls) others)) in
      seen_same _ (comma_if later ++ (codes "TUPLE {" ++ (fields_literal false fs ++ 125 ∷ left))) _ (comma_lexeme_if later ++ (item ++ (following items ++ ls)))
      (regroup_5 (comma_if later) (codes "TUPLE {") (fields_literal false fs) (codes "}") (rows_literal true rs) rest)
      (regroup_items (comma_lexeme_if later) item (following items) ls)
      (comma_if_seen later (codes "TUPLE {" ++ (fields_literal false fs ++ 125 ∷ left)) (item ++ (following items ++ ls)) whole)

-- the tokens of a literal spell its tree
pub literals_spell : LiteralsSpellTheirTrees
literals_spell v p low =
    let tree = literal_tree v in
    let seen = seen_same (literal v) (literal v ++ []) (lexemes_of tree) (lexemes_of tree ++ []) (sym (append-nil (literal v))) (sym (append-nil (lexemes_of tree))) (value_seen v p [] [] tt nothing_seen) in
    record { spelled = subst (λ xs. Spelling loosest xs tree) (sym (seen 0)) (at_level loosest (lexemes_of tree) tree (value_spelled v p)); low = low }
