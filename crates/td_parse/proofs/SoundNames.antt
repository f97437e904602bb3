-- What is read as a list of names, or behind an operand, is spelled.
use Rattle.std.proofs.Common.{◌≡◌, List, [], ◌∷◌, ◌++◌, Some, ap, inl, inr}
use Rattle.td_tree.specs.declared.keyword.Keyword.{Keyword}
use Rattle.td_tree.specs.declared.keyword.Keyword.TheVariants as k
use Rattle.td_tree.specs.declared.operator.Style.{Style}
use Rattle.td_tree.specs.declared.operator.Style.TheVariants as styles
use Rattle.td_tree.specs.declared.token.Sign.TheVariants as signs
use Rattle.td_tree.specs.model.Grammar.{NameSpelling, name_item, NamesSpelling, AttributeListSpelling, only_names, all_but_names, RenamingSpelling, renaming, PostfixSpelling, projection, renamings, renamings_in_braces, grouping, wrapping, open_grouping, open_wrapping, ungrouping, unwrapping}
use Rattle.td_tree.specs.model.Grammar as grammar
use Rattle.td_tree.specs.model.Lexemes.{Lexeme, keyword, sign}
use Rattle.td_tree.specs.model.Lexemes as lexeme
use Rattle.td_tree.specs.model.Lists.{Listed, Separated, with_braces, with_parentheses}
use Rattle.td_parse.specs.code.Reading.{styled_renamings, named_attributes, styled_attributes, postfix_of_word, read_postfix}
use Rattle.td_parse.specs.code.ReadingSteps.{expect, read_name, read_as, read_up_to, in_parentheses_read, list_by_commas, names_to_brace, names, all_but, attribute_list, read_renaming}
use Rattle.td_tree.specs.model.Trees as tree
use Rattle.td_tree.specs.model.Trees.{Text, Attributes, Renaming, Postfix}
use Rattle.td_parse.proofs.SoundSteps.{bind_some, either_cases, Front, glue, expect_front, Takes, Sound, retake, TakesTo, name_front, as_front, up_to_sound, enclosed_sound, separated_sound, listed_sound}

name_sound : Sound NameSpelling read_name
name_sound ts n rest e = record { front = lexeme.name n ∷ []; spelled = name_item; parts = name_front ts n rest e }

to_brace_sound : (ts : List Lexeme) (ns : List Text) (rest : List Lexeme) → names_to_brace ts ≡ Some (ns, rest) → TakesTo (sign signs.CloseBrace) (Listed NameSpelling) ts ns rest
unfolding names_to_brace
to_brace_sound ts ns rest e = listed_sound read_name name_sound (sign signs.CloseBrace) ts ns rest e

pub names_sound : Sound NamesSpelling names
unfolding names
names_sound ts ns rest e =
    let b = bind_some (expect (sign signs.OpenBrace) ts) _ _ e in
    let t = to_brace_sound b.0 ns rest b.2 in
    record { front = _; spelled = grammar.names t.spelled; parts = glue (expect_front (sign signs.OpenBrace) ts b.0 b.1) t.parts }

pub attributes_sound : Sound AttributeListSpelling attribute_list
unfolding attribute_list all_but
attributes_sound ts a rest e =
    let b = bind_some (expect (sign signs.OpenBrace) ts) _ _ e in
    let opened = expect_front (sign signs.OpenBrace) ts b.0 b.1 in
    elim (either_cases _ _ (expect (keyword k.All) b.0) _ b.2) [
      | inl g ↦
          let c = bind_some (names_to_brace b.0) _ _ g.1 in
          let t = to_brace_sound b.0 c.0.0 c.0.1 c.1 in
          retake AttributeListSpelling c.2 (only_names (grammar.names t.spelled)) (glue opened t.parts)
      | inr g ↦
          let c = bind_some (expect (keyword k.But) g.0) _ _ g.2 in
          let f = bind_some (names_to_brace c.0) _ _ c.2 in
          let t = to_brace_sound c.0 f.0.0 f.0.1 f.1 in
          retake AttributeListSpelling f.2 (all_but_names t.spelled) (glue opened (glue (expect_front (keyword k.All) b.0 g.0 g.1) (glue (expect_front (keyword k.But) g.0 c.0 c.1) t.parts)))
    ]

renaming_sound : Sound RenamingSpelling read_renaming
unfolding read_renaming
renaming_sound ts r rest e =
    let b = bind_some (read_name ts) _ _ e in
    let c = bind_some (read_as b.0.1) _ _ b.2 in
    retake RenamingSpelling c.2 renaming (glue (name_front ts b.0.0 b.0.1 b.1) (as_front b.0.1 c.0.0 c.0.1 c.1))

-- attrs AS name
data NamedAttributes : List Lexeme → Attributes × Text → Type 0 where
  named_list : {xs : List Lexeme} {a : Attributes} {n : Text} → AttributeListSpelling xs a → NamedAttributes (xs ++ (keyword k.As ∷ (lexeme.name n ∷ []))) (a, n)

named_sound : Sound NamedAttributes named_attributes
unfolding named_attributes
named_sound ts a rest e =
    let b = bind_some (attribute_list ts) _ _ e in
    let c = bind_some (read_as b.0.1) _ _ b.2 in
    let t = attributes_sound ts b.0.0 b.0.1 b.1 in
    retake NamedAttributes c.2 (named_list t.spelled) (glue t.parts (as_front b.0.1 c.0.0 c.0.1 c.1))

-- ---- behind an operand

-- the renamings of RENAME, in their style
data StyledRenamings : List Lexeme → Style × List Renaming → Type 0 where
  older_renamings : {xs : List Lexeme} {rs : List Renaming} → Separated RenamingSpelling xs rs → StyledRenamings (with_parentheses xs) (styles.Older, rs)
  newer_renamings : {xs : List Lexeme} {rs : List Renaming} → Separated RenamingSpelling xs rs → StyledRenamings (with_braces xs) (styles.Newer, rs)

renamings_sound : Sound (Separated RenamingSpelling) (list_by_commas read_renaming)
renamings_sound = separated_sound read_renaming renaming_sound

styled_renamings_sound : Sound StyledRenamings styled_renamings
unfolding styled_renamings
styled_renamings_sound ts r rest e =
    elim (either_cases _ _ (expect (sign signs.OpenBrace) ts) _ e) [
      | inl g ↦
          let b = bind_some (in_parentheses_read (list_by_commas read_renaming) ts) _ _ g.1 in
          let t = enclosed_sound (list_by_commas read_renaming) renamings_sound ts b.0.0 b.0.1 b.1 in
          retake StyledRenamings b.2 (older_renamings t.spelled) t.parts
      | inr g ↦
          let b = bind_some (read_up_to (sign signs.CloseBrace) (list_by_commas read_renaming) g.0) _ _ g.2 in
          let t = up_to_sound (list_by_commas read_renaming) renamings_sound (sign signs.CloseBrace) g.0 b.0.0 b.0.1 b.1 in
          retake StyledRenamings b.2 (newer_renamings t.spelled) (glue (expect_front (sign signs.OpenBrace) ts g.0 g.1) t.parts)
    ]

rename_spelled : {xs : List Lexeme} {r : Style × List Renaming} → StyledRenamings xs r → PostfixSpelling (keyword k.Rename ∷ xs) (tree.rename r.0 r.1)
rename_spelled (older_renamings p) = renamings p
rename_spelled (newer_renamings p) = renamings_in_braces p

-- the attributes of GROUP or WRAP and their name, in their style
data StyledAttributes : List Lexeme → Style × Attributes × Text → Type 0 where
  older_attributes : {xs : List Lexeme} {x : Attributes × Text} → NamedAttributes xs x → StyledAttributes (with_parentheses xs) (styles.Older, x.0, x.1)
  newer_attributes : {xs : List Lexeme} {x : Attributes × Text} → NamedAttributes xs x → StyledAttributes xs (styles.Newer, x.0, x.1)

styled_attributes_sound : Sound StyledAttributes styled_attributes
unfolding styled_attributes
styled_attributes_sound ts a rest e =
    elim (either_cases _ _ (expect (sign signs.OpenParenthesis) ts) _ e) [
      | inl g ↦
          let b = bind_some (named_attributes ts) _ _ g.1 in
          let t = named_sound ts b.0.0 b.0.1 b.1 in
          retake StyledAttributes b.2 (newer_attributes t.spelled) t.parts
      | inr g ↦
          let b = bind_some (read_up_to (sign signs.CloseParenthesis) named_attributes g.0) _ _ g.2 in
          let t = up_to_sound named_attributes named_sound (sign signs.CloseParenthesis) g.0 b.0.0 b.0.1 b.1 in
          retake StyledAttributes b.2 (older_attributes t.spelled) (glue (expect_front (sign signs.OpenParenthesis) ts g.0 g.1) t.parts)
    ]

group_spelled : {xs : List Lexeme} {x : Style × Attributes × Text} → StyledAttributes xs x → PostfixSpelling (keyword k.Group ∷ xs) (tree.group x.0 x.1 x.2)
group_spelled (older_attributes (named_list p)) = grouping p
group_spelled (newer_attributes (named_list p)) = open_grouping p

wrap_spelled : {xs : List Lexeme} {x : Style × Attributes × Text} → StyledAttributes xs x → PostfixSpelling (keyword k.Wrap ∷ xs) (tree.wrap x.0 x.1 x.2)
wrap_spelled (older_attributes (named_list p)) = wrapping p
wrap_spelled (newer_attributes (named_list p)) = open_wrapping p

ungroup_spelled : {xs : List Lexeme} {n : Text} → NameSpelling xs n → PostfixSpelling (keyword k.Ungroup ∷ (sign signs.OpenParenthesis ∷ (xs ++ (sign signs.CloseParenthesis ∷ [])))) (tree.ungroup n)
ungroup_spelled name_item = ungrouping

unwrap_spelled : {xs : List Lexeme} {n : Text} → NameSpelling xs n → PostfixSpelling (keyword k.Unwrap ∷ (sign signs.OpenParenthesis ∷ (xs ++ (sign signs.CloseParenthesis ∷ [])))) (tree.unwrap n)
unwrap_spelled name_item = unwrapping

-- behind one word
pub after_word : (w : Lexeme) {ts xs rest : List Lexeme} → Front ts xs rest → Front (w ∷ ts) (w ∷ xs) rest
after_word w p = record { parts = ap (λ (l : List Lexeme). w ∷ l) p.parts }

postfix_word_sound : (w : Keyword) (ts : List Lexeme) (p : Postfix) (rest : List Lexeme) → postfix_of_word w ts ≡ Some (p, rest) → Takes PostfixSpelling (keyword w ∷ ts) p rest
unfolding postfix_of_word
postfix_word_sound k.Rename ts p rest e =
    let b = bind_some (styled_renamings ts) _ _ e in
    let t = styled_renamings_sound ts b.0.0 b.0.1 b.1 in
    retake PostfixSpelling b.2 (rename_spelled t.spelled) (after_word (keyword k.Rename) t.parts)
postfix_word_sound k.Group ts p rest e =
    let b = bind_some (styled_attributes ts) _ _ e in
    let t = styled_attributes_sound ts b.0.0 b.0.1 b.1 in
    retake PostfixSpelling b.2 (group_spelled t.spelled) (after_word (keyword k.Group) t.parts)
postfix_word_sound k.Wrap ts p rest e =
    let b = bind_some (styled_attributes ts) _ _ e in
    let t = styled_attributes_sound ts b.0.0 b.0.1 b.1 in
    retake PostfixSpelling b.2 (wrap_spelled t.spelled) (after_word (keyword k.Wrap) t.parts)
postfix_word_sound k.Ungroup ts p rest e =
    let b = bind_some (in_parentheses_read read_name ts) _ _ e in
    let t = enclosed_sound read_name name_sound ts b.0.0 b.0.1 b.1 in
    retake PostfixSpelling b.2 (ungroup_spelled t.spelled) (after_word (keyword k.Ungroup) t.parts)
postfix_word_sound k.Unwrap ts p rest e =
    let b = bind_some (in_parentheses_read read_name ts) _ _ e in
    let t = enclosed_sound read_name name_sound ts b.0.0 b.0.1 b.1 in
    retake PostfixSpelling b.2 (unwrap_spelled t.spelled) (after_word (keyword k.Unwrap) t.parts)
postfix_word_sound _ ts p rest e = absurd cc

pub postfix_sound : Sound PostfixSpelling read_postfix
unfolding read_postfix
postfix_sound (keyword w ∷ ts) p rest e = postfix_word_sound w ts p rest e
postfix_sound ts p rest e =
    let b = bind_some (attribute_list ts) _ _ e in
    let t = attributes_sound ts b.0.0 b.0.1 b.1 in
    retake PostfixSpelling b.2 (projection t.spelled) t.parts
