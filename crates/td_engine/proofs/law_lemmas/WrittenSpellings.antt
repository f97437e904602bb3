-- The names in what tokens spell are names, and its texts are UTF-8: a lexeme is a name, or a text, only where it is so.
use Rattle.std.proofs.Common.{◌≡◌, ℕ, Bool, true, false, List, [], ◌∷◌, ◌++◌, refl}
use Rattle.std.specs.Prelude.{◌&&◌, IsUtf8, ⊤, if◌then◌else◌}
use Rattle.std.specs.List.{AllByRecursion}
use Rattle.std.specs.Str.{is_utf8}
use Rattle.std.proofs.lemmas.Str.{IsUtf8-from_is_utf8}
use Rattle.td_tree.specs.declared.operator.Level.{Level}
use Rattle.td_tree.specs.declared.token.Kind.{Kind}
use Rattle.td_tree.specs.declared.token.Kind.TheVariants as kinds
use Rattle.td_tree.specs.declared.token.Sign.TheVariants as signs
use Rattle.td_tree.specs.model.Grammar as g
use Rattle.td_tree.specs.model.Grammar.{AdditionsSpelling, AttributesSpelling, ExpressionsSpelling, HeadingSpelling, ListSpelling, LiteralSpelling, PartsSpelling, PostfixSpelling, RenamingSpelling, SettingsSpelling, Spelling, SummariesSpelling, TypeSpelling, operator_words}
use Rattle.td_tree.specs.model.Lexemes.{Lexeme, sign}
use Rattle.td_tree.specs.model.Lexemes as lexeme
use Rattle.td_tree.specs.model.Lists.{Separated, next_item, one_item, with_parentheses}
use Rattle.td_tree.specs.model.Names.{IsName, is_name}
use Rattle.td_tree.specs.model.Statements.{PlacedToken}
use Rattle.td_tree.specs.model.TextTokens.{content}
use Rattle.td_tree.specs.model.TokenLexemes.{is_quoted_text, is_the_word, lexeme_of, lexemes}
use Rattle.td_tree.specs.model.Trees.{AttributeTrees, Literal, NamedTrees, Postfix, Renaming, Summaries, Text, Tree, Trees, TypeTree}
use Rattle.td_tree.specs.model.WrittenTrees.{GiveNames, HasNames, HaveNames, HaveTexts, IsUtf8Literal, IsWritten, ItemsGiveNames, ItemsHaveTexts, OperatorGivesNames, PartsGiveNames, PartsHaveTexts}

-- ---- lexemes

-- a lexeme of tokens: its name is a name, what its text says is UTF-8
abbrev pub IsOfToken : Lexeme → Type 0
IsOfToken (lexeme.name n) = IsName n
IsOfToken (lexeme.text said) = IsUtf8 said
IsOfToken _ = ⊤

abbrev pub AreOfTokens : List Lexeme → Type 0
AreOfTokens = AllByRecursion IsOfToken

two : (a b : Bool) → (a && b) ≡ true → (a ≡ true) × (b ≡ true)
two true b e = (refl, e)
two false b e = absurd cc

name_of_token : (t : Text) → IsOfToken (if is_utf8 t && is_name t then lexeme.name t else lexeme.bad)
name_of_token t =
    (elim (is_utf8 t && is_name t) as (λ b. (is_utf8 t && is_name t) ≡ b → IsOfToken (if b then lexeme.name t else lexeme.bad)) [
      | true ↦ λ is. (let both = two (is_utf8 t) (is_name t) is in record { utf8 = IsUtf8-from_is_utf8 t both.0; named = both.1 })
      | false ↦ λ is. tt
    ]) refl

text_of_token : (t : Text) → IsOfToken (if is_quoted_text t then lexeme.text (content t) else lexeme.bad)
text_of_token t =
    (elim (is_quoted_text t) as (λ b. is_quoted_text t ≡ b → IsOfToken (if b then lexeme.text (content t) else lexeme.bad)) [
      | true ↦ λ is. IsUtf8-from_is_utf8 (content t) (two (is_utf8 (content t)) _ is).0
      | false ↦ λ is. tt
    ]) refl

component_of_token : (b : Bool) (t : Text) → IsOfToken (if b then lexeme.component t else lexeme.bad)
component_of_token true t = tt
component_of_token false t = tt

number_of_token : (b : Bool) (n : ℕ) → IsOfToken (if b then lexeme.number n else lexeme.bad)
number_of_token true n = tt
number_of_token false n = tt

of_token : (kind : Kind) (t : Text) → IsOfToken (lexeme_of kind t)
of_token (kinds.Reserved w) t = tt
of_token kinds.Component t = component_of_token (is_the_word t) _
of_token kinds.Name t = name_of_token t
of_token kinds.Number t = number_of_token _ _
of_token kinds.Text t = text_of_token t
of_token (kinds.Sign s) t = tt
of_token kinds.Bad t = tt

-- the lexemes of any tokens are such
pub of_tokens : (ts : List PlacedToken) → AreOfTokens (lexemes ts)
of_tokens [] = tt
of_tokens (t ∷ ts) = (of_token t.kind t.text, of_tokens ts)

pub front : (xs ys : List Lexeme) → AreOfTokens (xs ++ ys) → AreOfTokens xs
front [] ys h = tt
front (x ∷ xs) ys h = (h.0, front xs ys h.1)

pub back : (xs ys : List Lexeme) → AreOfTokens (xs ++ ys) → AreOfTokens ys
back [] ys h = h
back (x ∷ xs) ys h = back xs ys h.1

-- between braces or parentheses
pub inside : (xs : List Lexeme) (x : Lexeme) → AreOfTokens (xs ++ (x ∷ [])) → AreOfTokens xs
inside xs x h = front xs (x ∷ []) h

-- ---- types

mutual
  pub type_written : {xs : List Lexeme} {t : TypeTree} → TypeSpelling xs t → AreOfTokens xs → HasNames t
  type_written g.integer_type h = tt
  type_written g.char_type h = tt
  type_written g.boolean_type h = tt
  type_written g.user_type h = h.0
  type_written (g.relation_type p) h = heading_written p h.1
  type_written (g.tuple_type p) h = heading_written p h.1

  pub heading_written : {xs : List Lexeme} {hs : AttributeTrees} → HeadingSpelling xs hs → AreOfTokens xs → HaveNames hs
  heading_written g.empty_heading h = tt
  heading_written (g.heading {xs} p) h = attributes_written p (inside xs _ h.1)

  pub attributes_written : {xs : List Lexeme} {hs : AttributeTrees} → AttributesSpelling xs hs → AreOfTokens xs → HaveNames hs
  attributes_written (g.last_attribute p) h = (h.0, type_written p h.1, tt)
  attributes_written (g.next_attribute {xs} {ys} p q) h = (h.0, type_written p (front xs _ h.1), attributes_written q (back xs _ h.1).1)

-- ---- what holds no expression

renamings_written : {xs : List Lexeme} {rs : List Renaming} → Separated RenamingSpelling xs rs → AreOfTokens xs → AllByRecursion (λ r. IsName r.new) rs
renamings_written (one_item g.renaming) h = (h.1.1.0, tt)
renamings_written (next_item g.renaming q) h = (h.1.1.0, renamings_written q h.1.1.1.1)

postfix_written : {xs : List Lexeme} {p : Postfix} → PostfixSpelling xs p → AreOfTokens xs → OperatorGivesNames p
postfix_written (g.projection a) h = tt
postfix_written (g.renamings {xs} rs) h = renamings_written rs (inside xs _ h.1.1)
postfix_written (g.grouping {xs} a) h = (back xs _ (inside (xs ++ _) _ h.1.1)).1.0
postfix_written (g.wrapping {xs} a) h = (back xs _ (inside (xs ++ _) _ h.1.1)).1.0
postfix_written (g.renamings_in_braces {xs} rs) h = renamings_written rs (inside xs _ h.1.1)
postfix_written (g.open_grouping {xs} a) h = (back xs _ h.1).1.0
postfix_written (g.open_wrapping {xs} a) h = (back xs _ h.1).1.0
postfix_written g.ungrouping h = tt
postfix_written g.unwrapping h = tt

literal_written : {xs : List Lexeme} {l : Literal} → LiteralSpelling xs l → AreOfTokens xs → IsUtf8Literal l
literal_written (g.number_literal low) h = tt
literal_written (g.minus_literal low) h = tt
literal_written g.text_literal h = h.0
literal_written g.true_literal h = tt
literal_written g.false_literal h = tt
literal_written g.dee_literal h = tt
literal_written g.dum_literal h = tt

-- ---- expressions

abbrev AreWritten : Trees → Type 0
AreWritten es = GiveNames es × HaveTexts es

abbrev PartsAreWritten : NamedTrees → Type 0
PartsAreWritten parts = PartsGiveNames parts × PartsHaveTexts parts

abbrev ItemsAreWritten : Summaries → Type 0
ItemsAreWritten items = ItemsGiveNames items × ItemsHaveTexts items

-- the two halves of each of two
both : {A B C D : Type 0} → A × B → C × D → (A × C) × (B × D)
both p q = ((p.0, q.0), (p.1, q.1))

three : {A B C D E F : Type 0} → A × B → C × D → E × F → (A × C × E) × (B × D × F)
three p q r = ((p.0, q.0, r.0), (p.1, q.1, r.1))

mutual
  pub written : {level : Level} {xs : List Lexeme} {t : Tree} → Spelling level xs t → AreOfTokens xs → IsWritten t
  written (g.looser p) h = written p h
  written (g.binding {xs} p q) h = both (settings_written p (inside xs _ (front (with_parentheses xs) _ h.1).1)) (written q (back (with_parentheses xs) _ h.1).1)
  written (g.restriction {xs} {ys} p q) h = both (written p (front xs _ h)) (written q (back xs _ h).1)
  written (g.between {op} {xs} {ys} p q) h = both (written p (front xs _ h)) (written q (back (operator_words op) ys (back xs _ h)))
  written (g.negation p) h = written p h.1
  written (g.comparison {op} {xs} {ys} p q) h = both (written p (front xs _ h)) (written q (back xs _ h).1)
  written (g.minus b p) h = written p h.1
  written (g.closure p) h = written p h.1
  written (g.tuple_from p) h = written p h.1.1
  written (g.extraction p) h = written p h.1.1
  written (g.behind {xs} {ys} p q) h =
      let operand = written p (front xs ys h) in ((operand.0, postfix_written q (back xs ys h)), operand.1)
  written (g.literal l) h = (tt, literal_written l h)
  written g.reference h = (tt, tt)
  written (g.selector {xs = xs} p) h = list_written p (inside xs _ h.1.1)
  written (g.component {xs = xs} p) h = written p (inside xs _ h.1.1)
  written (g.parentheses {xs} p) h = written p (inside xs _ h.1)
  written (g.measure {xs = xs} p) h = written p (inside xs _ h.1.1)
  written (g.aggregate {xs = xs} {ys = ys} p q) h =
      let within = inside (xs ++ (sign signs.Comma ∷ ys)) _ h.1.1 in both (written p (front xs _ within)) (written q (back xs _ within).1)
  written (g.headed_relation {hs} {xs} a p) h =
      let elements = list_written p (inside xs _ (back hs _ h.1).1) in ((heading_written a (front hs _ h.1), elements.0), elements.1)
  written (g.relation {xs} p) h = expressions_written p (inside xs _ h.1.1)
  written g.empty_tuple h = (tt, tt)
  written (g.tuple {xs} p) h = parts_written p (inside xs _ h.1.1)
  written (g.extension {xs} {ys} p q) h = both (written p (front xs _ h.1)) (additions_written q (inside ys _ (back xs _ h.1).1.1))
  written (g.setting_extension {xs} {ys} p q) h = both (written p (front xs _ h.1)) (settings_written q (inside ys _ (back xs _ h.1).1.1))
  written (g.summary_per {xs} {ys} {zs} p q r) h =
      let behind = (back xs _ h.1).1 in
      three (written p (front xs _ h.1)) (written q (inside ys _ (front (with_parentheses ys) _ behind).1)) (summaries_written r (inside zs _ (back (with_parentheses ys) _ behind).1.1))
  written (g.summary_by {xs} {ys} {zs} p by r) h =
      both (written p (front xs _ h.1)) (summaries_written r (inside zs _ (back ys _ (back xs _ h.1).1).1.1))
  written (g.choice {xs} {ys} {zs} p q r) h =
      let second = (back xs _ h.1).1 in
      three (written p (front xs _ h.1)) (written q (front ys _ second)) (written r (front zs _ (back ys _ second).1))

  list_written : {xs : List Lexeme} {all : Trees} → ListSpelling xs all → AreOfTokens xs → AreWritten all
  list_written g.no_expressions h = (tt, tt)
  list_written (g.some_expressions p) h = expressions_written p h

  expressions_written : {xs : List Lexeme} {all : Trees} → ExpressionsSpelling xs all → AreOfTokens xs → AreWritten all
  expressions_written (g.last_expression p) h = both (written p h) (tt, tt)
  expressions_written (g.next_expression {xs} p q) h = both (written p (front xs _ h)) (expressions_written q (back xs _ h).1)

  parts_written : {xs : List Lexeme} {parts : NamedTrees} → PartsSpelling xs parts → AreOfTokens xs → PartsAreWritten parts
  parts_written (g.last_part p) h = let value = written p h.1 in ((h.0, value.0, tt), (value.1, tt))
  parts_written (g.next_part {xs = xs} p q) h =
      let value = written p (front xs _ h.1) in
      let rest = parts_written q (back xs _ h.1).1 in
      ((h.0, value.0, rest.0), (value.1, rest.1))

  additions_written : {xs : List Lexeme} {parts : NamedTrees} → AdditionsSpelling xs parts → AreOfTokens xs → PartsAreWritten parts
  additions_written (g.last_addition {xs = xs} p) h = let value = written p (front xs _ h) in (((back xs _ h).1.0, value.0, tt), (value.1, tt))
  additions_written (g.next_addition {xs = xs} p q) h =
      let value = written p (front xs _ h) in
      let rest = additions_written q (back xs _ h).1.1.1 in
      (((back xs _ h).1.0, value.0, rest.0), (value.1, rest.1))

  pub settings_written : {xs : List Lexeme} {parts : NamedTrees} → SettingsSpelling xs parts → AreOfTokens xs → PartsAreWritten parts
  settings_written (g.last_setting p) h = let value = written p h.1.1 in ((h.0, value.0, tt), (value.1, tt))
  settings_written (g.next_setting {xs = xs} p q) h =
      let value = written p (front xs _ h.1.1) in
      let rest = settings_written q (back xs _ h.1.1).1 in
      ((h.0, value.0, rest.0), (value.1, rest.1))

  summaries_written : {xs : List Lexeme} {items : Summaries} → SummariesSpelling xs items → AreOfTokens xs → ItemsAreWritten items
  summaries_written g.last_count h = ((h.1.1.1.1.0, tt), tt)
  summaries_written (g.next_count p) h = let rest = summaries_written p h.1.1.1.1.1.1 in ((h.1.1.1.1.0, rest.0), rest.1)
  summaries_written (g.last_sum {xs = xs} p) h =
      let value = written p (inside xs _ (front (with_parentheses xs) _ h.1).1) in
      ((value.0, (back (with_parentheses xs) _ h.1).1.0, tt), (value.1, tt))
  summaries_written (g.next_sum {xs = xs} p q) h =
      let value = written p (inside xs _ (front (with_parentheses xs) _ h.1).1) in
      let behind = back (with_parentheses xs) _ h.1 in
      let rest = summaries_written q behind.1.1.1 in
      ((value.0, behind.1.0, rest.0), (value.1, rest.1))
