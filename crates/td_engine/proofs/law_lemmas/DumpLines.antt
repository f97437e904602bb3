-- Each line of a dump is seen as the lexemes of its statement with a `;` behind them, which spell it.
use Rattle.std.proofs.Common.{◌≡◌, ◌≤◌, ℕ, List, [], ◌∷◌, ◌++◌, Option, Some, None, ap, append_assoc, refl, subst}
use Rattle.std.specs.List.{AllByRecursion}
use Rattle.td_catalog.specs.model.Database.{BaseRelvar, NamedConstraint, VirtualRelvar}
use Rattle.td_catalog.specs.model.Dumps.{base_line, condition_text, constraint_line, line_end, type_line, virtual_line}
use Rattle.td_engine.specs.laws.Rebuilding.{base_statement, constraint_statement, type_statement, virtual_statement}
use Rattle.td_engine.specs.model.Legality.{IsSpelledExpression, IsSpelledIf}
use Rattle.td_tree.specs.declared.keyword.Keyword.{Keyword}
use Rattle.td_tree.specs.declared.keyword.Keyword.TheVariants as k
use Rattle.td_tree.specs.declared.token.Sign.TheVariants as signs
use Rattle.td_tree.specs.model.Grammar.{height_limit}
use Rattle.td_tree.specs.model.Heights.{attributes_height, type_height}
use Rattle.td_tree.specs.model.Keywords.{word_of}
use Rattle.td_tree.specs.model.Lexemes.{Lexeme, keyword, sign}
use Rattle.td_tree.specs.model.Lexemes as lexeme
use Rattle.td_tree.specs.model.Lists.{Optional, absent, with_braces, with_parentheses, present}
use Rattle.td_tree.specs.model.Names.{IsName}
use Rattle.td_tree.specs.model.Prints.{attribute_lexemes, commas, heading_lexemes, lexemes_of}
use Rattle.td_tree.specs.model.StatementGrammar.{BodySpelling, ConstraintPart, base_definition, base_word, constraint_definition, constraint_part, init_part, type_definition, virtual_definition}
use Rattle.td_tree.specs.model.Trees.{Statement, Tree, relation_type}
use Rattle.td_tree.proofs.law_lemmas.OwnSpellings.{heading_spelled}
use Rattle.td_types.specs.model.TypeLists.{DeclaredType}
use Rattle.td_types.specs.laws.TypeTrees.{attribute_trees}
use Rattle.td_types.specs.model.Types.{IsHeading, attribute_names, pack, relation}
use Rattle.td_value.specs.laws.LiteralTrees.{literal_tree}
use Rattle.td_value.specs.model.Literal.{literal}
use Rattle.td_value.specs.model.Values.{IsValue, Val, relation_value}
use Rattle.td_value.proofs.LiteralSpellings.{value_seen}
use Rattle.td_engine.proofs.law_lemmas.DumpInner.{AllInner, also, attributes_inner, commas_inner, in_braces, in_parentheses, join, none_left, tree_inner}
use Rattle.td_engine.proofs.law_lemmas.DumpLists.{AreTypedNames, components_show, components_spelled, keys_inner, keys_lexemes, keys_show, keys_spelled}
use Rattle.td_engine.proofs.law_lemmas.DumpPhrases.{KeepsBounds, Shows, ShowsBefore, a_close_brace, a_close_parenthesis, a_line_feed, a_name, a_print, a_semicolon, a_space, a_type, a_word_and_space, an_open_brace, an_open_parenthesis, anywhere, before_then, before_then_before, nothing, own_expression, shown_then, shown_then_before}

-- the body of a statement, which these bytes show with a `;` behind it
pub record IsLine (bytes : List ℕ) (s : Statement) : Type 0 where
  pub body : List Lexeme
  pub inner : AllInner body
  pub spelled : BodySpelling body s
  pub shows : Shows bytes (body ++ (sign signs.Semicolon ∷ []))

a_line_end : Shows line_end (sign signs.Semicolon ∷ [])
a_line_end = shown_then a_semicolon a_line_feed

-- a reserved word between spaces
spaced_word : (w : Keyword) → Shows ((32 ∷ []) ++ (word_of w ++ (32 ∷ []))) (keyword w ∷ [])
spaced_word w = shown_then a_space (a_word_and_space w)

-- a reserved word, a space and a name, before a boundary
named : (w : Keyword) (n : List ℕ) → IsName n → ShowsBefore ((word_of w ++ (32 ∷ [])) ++ n) (keyword w ∷ (lexeme.name n ∷ []))
named w n p = shown_then_before (a_word_and_space w) (a_name n p)

-- ---- types

abbrev condition_lexemes : Option Tree → List Lexeme
condition_lexemes None = []
condition_lexemes (Some e) = keyword k.Constraint ∷ lexemes_of e

condition_bounded : (c : Option Tree) → KeepsBounds (condition_text c)
condition_bounded None rest bounded = bounded
condition_bounded (Some e) rest bounded = refl

condition_shows : (c : Option Tree) → IsSpelledIf c → ShowsBefore (condition_text c) (condition_lexemes c)
condition_shows None h = anywhere nothing
condition_shows (Some e) h = shown_then_before (spaced_word k.Constraint) (a_print e h)

condition_spelled : (c : Option Tree) → IsSpelledIf c → Optional ConstraintPart (condition_lexemes c) c
condition_spelled None h = absent
condition_spelled (Some e) h = present (constraint_part (own_expression e h))

condition_inner : (c : Option Tree) → AllInner (condition_lexemes c)
condition_inner None = none_left
condition_inner (Some e) = also tt (tree_inner e)

pub type_line_is : (d : DeclaredType) → IsName d.name → (d.components ≡ [] → ⊥) → AreTypedNames d.components
    → attributes_height (attribute_trees (pack d.components)) ≤ height_limit → IsSpelledIf d.constraint → IsLine (type_line d) (type_statement d)
type_line_is d name some typed low tokens =
    let components : List Lexeme = commas (attribute_lexemes (attribute_trees (pack d.components))) in
    let opened = before_then (named k.«Type» d.name name) (λ rest. refl) (shown_then (spaced_word k.Possrep) an_open_brace) in
    let listed = shown_then_before opened (components_show d.components typed) in
    let inside = before_then_before listed (condition_bounded d.constraint) (condition_shows d.constraint tokens) in
    let parts : AllInner (components ++ condition_lexemes d.constraint)
    = join (commas_inner (attributes_inner (attribute_trees (pack d.components)))) (condition_inner d.constraint) in
    record {
      body = keyword k.«Type» ∷ (lexeme.name d.name ∷ (keyword k.Possrep ∷ with_braces (components ++ condition_lexemes d.constraint)));
      inner = also tt (also tt (also tt (in_braces parts)));
      spelled = type_definition (components_spelled d.components some) low (condition_spelled d.constraint tokens);
      shows = shown_then (before_then inside (λ rest. refl) a_close_brace) a_line_end;
    }

-- ---- relvars

regroup_base : (hs xs ys end : List Lexeme) (a b c : Lexeme)
    → ((((hs ++ (a ∷ (b ∷ []))) ++ xs) ++ (c ∷ [])) ++ ys) ++ end ≡ (hs ++ ((a ∷ (b ∷ (xs ++ (c ∷ [])))) ++ ys)) ++ end
regroup_base hs xs ys end a b c = simp append_assoc

-- VAR, a name, BASE and RELATION, before these
abbrev before_heading : List ℕ → List Lexeme → List Lexeme
before_heading n xs = keyword k.Var ∷ (lexeme.name n ∷ (keyword k.Base ∷ (keyword k.Relation ∷ xs)))

a_value : (v : Val) → IsValue v → ShowsBefore (literal v) (lexemes_of (literal_tree v))
a_value v p = record { seen = λ rest ls bounded seen. value_seen v p rest ls bounded seen }

pub base_line_is : (r : BaseRelvar) → IsName r.name → IsHeading (pack r.relation.heading)
    → AllByRecursion IsName (attribute_names r.relation.heading) → IsValue (relation_value r.relation)
    → type_height (relation_type (attribute_trees (pack r.relation.heading))) ≤ height_limit
    → IsSpelledExpression (literal_tree (relation_value r.relation)) → IsLine (base_line r) (base_statement r)
base_line_is r name heading names value low tokens =
    let h = r.relation.heading in
    let v = relation_value r.relation in
    let hs : List Lexeme = heading_lexemes (attribute_trees (pack h)) in
    let xs : List Lexeme = lexemes_of (literal_tree v) in
    let keys : List Lexeme = keys_lexemes h r.keys in
    let based = before_then (named k.Var r.name name) (λ rest. refl) (spaced_word k.Base) in
    let typed = shown_then_before based (a_type (relation (pack h)) heading) in
    let opened = before_then typed (λ rest. refl) (shown_then (spaced_word k.Init) an_open_parenthesis) in
    let valued = before_then (shown_then_before opened (a_value v value)) (λ rest. refl) a_close_parenthesis in
    let shown = shown_then (shown_then valued (keys_show h r.keys names)) a_line_end in
    let same = regroup_base hs xs keys (sign signs.Semicolon ∷ []) (keyword k.Init) (sign signs.OpenParenthesis) (sign signs.CloseParenthesis) in
    let heading_inner : AllInner hs = in_braces (commas_inner (attributes_inner (attribute_trees (pack h)))) in
    let init_inner : AllInner (keyword k.Init ∷ with_parentheses xs) = also tt (in_parentheses (tree_inner (literal_tree v))) in
    record {
      body = before_heading r.name (hs ++ ((keyword k.Init ∷ with_parentheses xs) ++ keys));
      inner = also tt (also tt (also tt (also tt (join heading_inner (join init_inner (keys_inner h r.keys))))));
      spelled = base_definition base_word (heading_spelled (attribute_trees (pack h))) low (present (init_part (own_expression (literal_tree v) tokens)))
          (keys_spelled h r.keys);
      shows = subst (Shows (base_line r)) (ap (before_heading r.name) same) shown;
    }

pub virtual_line_is : (v : VirtualRelvar) → IsName v.name → AllByRecursion IsName (attribute_names v.heading) → IsSpelledExpression v.tree
    → IsLine (virtual_line v) (virtual_statement v)
virtual_line_is v name names tokens =
    let opened = before_then (named k.Var v.name name) (λ rest. refl) (shown_then (spaced_word k.Virtual) an_open_parenthesis) in
    let valued = before_then (shown_then_before opened (a_print v.tree tokens)) (λ rest. refl) a_close_parenthesis in
    record {
      body = keyword k.Var ∷ (lexeme.name v.name ∷ (keyword k.Virtual ∷ (with_parentheses (lexemes_of v.tree) ++ keys_lexemes v.heading v.keys)));
      inner = also tt (also tt (also tt (join (in_parentheses (tree_inner v.tree)) (keys_inner v.heading v.keys))));
      spelled = virtual_definition (own_expression v.tree tokens) (keys_spelled v.heading v.keys);
      shows = shown_then (shown_then valued (keys_show v.heading v.keys names)) a_line_end;
    }

-- ---- constraints

pub constraint_line_is : (c : NamedConstraint) → IsName c.name → IsSpelledExpression c.tree → IsLine (constraint_line c) (constraint_statement c)
constraint_line_is c name tokens =
    let shown = shown_then_before (before_then (named k.Constraint c.name name) (λ rest. refl) a_space) (a_print c.tree tokens) in
    record {
      body = keyword k.Constraint ∷ (lexeme.name c.name ∷ lexemes_of c.tree);
      inner = also tt (also tt (tree_inner c.tree));
      spelled = constraint_definition (own_expression c.tree tokens);
      shows = before_then shown (λ rest. refl) a_line_end;
    }
