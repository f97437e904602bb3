-- Lists of names, and what stands behind an operand, are read again.
use Rattle.std.proofs.Common.{◌≡◌, true, List, [], ◌∷◌, ◌++◌, Some, None, refl, append_assoc}
use Rattle.td_tree.specs.declared.keyword.Keyword.TheVariants as k
use Rattle.td_tree.specs.declared.operator.Style.TheVariants as styles
use Rattle.td_tree.specs.declared.token.Sign.TheVariants as signs
use Rattle.td_tree.specs.model.Grammar.{NameSpelling, name_item, NamesSpelling, AttributeListSpelling, only_names, all_but_names, RenamingSpelling, renaming, PostfixSpelling, projection, renamings, renamings_in_braces, grouping, wrapping, open_grouping, open_wrapping, ungrouping, unwrapping}
use Rattle.td_tree.specs.model.Grammar as grammar
use Rattle.td_tree.specs.model.Lexemes.{Lexeme, keyword, sign}
use Rattle.td_tree.specs.model.Lexemes as lexeme
use Rattle.td_tree.specs.model.Lists.{Listed, no_items, some_items, Separated, with_braces, with_parentheses}
use Rattle.td_parse.specs.code.Reading.{styled_renamings, named_attributes, styled_attributes, postfix_of_word, read_postfix}
use Rattle.td_parse.specs.code.ReadingOperators.{postfix_at}
use Rattle.td_parse.specs.code.ReadingSteps.{expect, read_name, read_as, names_to_brace, names, all_but, attribute_list, read_renaming}
use Rattle.td_tree.specs.model.Trees as tree
use Rattle.td_tree.specs.model.Trees.{Text, Attributes, Renaming, Postfix}
use Rattle.td_parse.proofs.AgainLists.{ItemAgain, SeparatedAgain, items_again, items_begin, closed_again, listed_again, empty_again, up_to_again, enclosed_again, enclosed_items_again, brace_closes, parenthesis_closes}

-- whatever follows
abbrev pub Anything : List Lexeme → Type 0
Anything s = Unit {0}

name_again : (xs : List Lexeme) (n : Text) → NameSpelling xs n → ItemAgain read_name Anything xs n
unfolding read_name
name_again xs n (name_item {n = m}) = record { reads = λ s st. refl }

no_first : (l : Lexeme) → ((n : Text) (s : List Lexeme) → expect l (lexeme.name n ∷ s) ≡ None) → (xs : List Lexeme) (n : Text) → NameSpelling xs n → (s : List Lexeme) → expect l (xs ++ s) ≡ None
no_first l none xs n (name_item {n = m}) s = none m s

no_brace_before : (n : Text) (s : List Lexeme) → expect (sign signs.CloseBrace) (lexeme.name n ∷ s) ≡ None
unfolding expect
no_brace_before n s = refl

no_all_before : (n : Text) (s : List Lexeme) → expect (keyword k.All) (lexeme.name n ∷ s) ≡ None
unfolding expect
no_all_before n s = refl

pub to_brace_again : {xs : List Lexeme} {ns : List Text} → Listed NameSpelling xs ns → (s : List Lexeme) → names_to_brace (xs ++ (sign signs.CloseBrace ∷ s)) ≡ Some (ns, s)
unfolding names_to_brace
to_brace_again no_items s = empty_again read_name (sign signs.CloseBrace) brace_closes s
to_brace_again (some_items {xs} {all} p) s =
    listed_again read_name Anything xs all (sign signs.CloseBrace) brace_closes (items_again read_name Anything (λ t. tt) name_again p) s tt (items_begin (sign signs.CloseBrace) (no_first (sign signs.CloseBrace) no_brace_before) p (sign signs.CloseBrace ∷ s))

no_all : {xs : List Lexeme} {ns : List Text} → Listed NameSpelling xs ns → (s : List Lexeme) → expect (keyword k.All) (xs ++ (sign signs.CloseBrace ∷ s)) ≡ None
unfolding expect
no_all no_items s = refl
no_all (some_items {xs} {all} p) s = items_begin (keyword k.All) (no_first (keyword k.All) no_all_before) p (sign signs.CloseBrace ∷ s)

pub names_again : {xs : List Lexeme} {ns : List Text} → NamesSpelling xs ns → (s : List Lexeme) → names (xs ++ s) ≡ Some (ns, s)
unfolding names expect
names_again (grammar.names {xs} {ns} p) s = rw (append_assoc xs (sign signs.CloseBrace ∷ []) s, to_brace_again p s) refl

only_again : {xs : List Lexeme} {ns : List Text} → NamesSpelling xs ns → (s : List Lexeme) → attribute_list (xs ++ s) ≡ Some (tree.only ns, s)
unfolding attribute_list expect
only_again (grammar.names {xs} {ns} p) s = rw (append_assoc xs (sign signs.CloseBrace ∷ []) s, no_all p s, to_brace_again p s) refl

pub attributes_again : {xs : List Lexeme} {a : Attributes} → AttributeListSpelling xs a → (s : List Lexeme) → attribute_list (xs ++ s) ≡ Some (a, s)
unfolding attribute_list all_but expect
attributes_again (only_names p) s = only_again p s
attributes_again (all_but_names {xs} {ns} p) s = rw (append_assoc xs (sign signs.CloseBrace ∷ []) s, to_brace_again p s) refl

-- ---- behind an operand

renaming_again : (xs : List Lexeme) (r : Renaming) → RenamingSpelling xs r → ItemAgain read_renaming Anything xs r
unfolding read_renaming read_name read_as expect
renaming_again xs r renaming = record { reads = λ s st. refl }

renamings_again : {xs : List Lexeme} {rs : List Renaming} → Separated RenamingSpelling xs rs → SeparatedAgain read_renaming Anything xs rs
renamings_again p = items_again read_renaming Anything (λ t. tt) renaming_again p

older_renamings_again : {xs : List Lexeme} {rs : List Renaming} → Separated RenamingSpelling xs rs → (s : List Lexeme) → styled_renamings (with_parentheses xs ++ s) ≡ Some ((styles.Older, rs), s)
unfolding styled_renamings expect
older_renamings_again {xs} {rs} p s = rw (enclosed_items_again read_renaming Anything xs rs (renamings_again p) s tt) refl

newer_renamings_again : {xs : List Lexeme} {rs : List Renaming} → Separated RenamingSpelling xs rs → (s : List Lexeme) → styled_renamings (with_braces xs ++ s) ≡ Some ((styles.Newer, rs), s)
unfolding styled_renamings expect
newer_renamings_again {xs} {rs} p s = rw (append_assoc xs (sign signs.CloseBrace ∷ []) s, closed_again read_renaming Anything xs rs (sign signs.CloseBrace) brace_closes (renamings_again p) s tt) refl

named_again : (xs : List Lexeme) (a : Attributes) (n : Text) → AttributeListSpelling xs a → ItemAgain named_attributes Anything (xs ++ (keyword k.As ∷ (lexeme.name n ∷ []))) (a, n)
unfolding named_attributes read_as read_name expect
named_again xs a n p = record { reads = λ s st. rw (append_assoc xs (keyword k.As ∷ (lexeme.name n ∷ [])) s, attributes_again p (keyword k.As ∷ (lexeme.name n ∷ s))) refl }

-- a list of attributes and their name
abbrev as_name : List Lexeme → Text → List Lexeme
as_name xs n = xs ++ (keyword k.As ∷ (lexeme.name n ∷ []))

older_attributes_again : {xs : List Lexeme} {a : Attributes} → AttributeListSpelling xs a → (n : Text) (s : List Lexeme) → styled_attributes (with_parentheses (as_name xs n) ++ s) ≡ Some ((styles.Older, a, n), s)
unfolding styled_attributes expect
older_attributes_again {xs} {a} p n s =
    rw (append_assoc (as_name xs n) (sign signs.CloseParenthesis ∷ []) s, up_to_again named_attributes Anything (as_name xs n) (a, n) (sign signs.CloseParenthesis) parenthesis_closes.is_close (named_again xs a n p) s tt) refl

no_parenthesis : {xs : List Lexeme} {a : Attributes} → AttributeListSpelling xs a → (ys s : List Lexeme) → expect (sign signs.OpenParenthesis) ((xs ++ ys) ++ s) ≡ None
unfolding expect
no_parenthesis (only_names (grammar.names p)) ys s = refl
no_parenthesis (all_but_names p) ys s = refl

newer_attributes_again : {xs : List Lexeme} {a : Attributes} → AttributeListSpelling xs a → (n : Text) (s : List Lexeme) → styled_attributes (as_name xs n ++ s) ≡ Some ((styles.Newer, a, n), s)
unfolding styled_attributes
newer_attributes_again {xs} {a} p n s = rw (no_parenthesis p (keyword k.As ∷ (lexeme.name n ∷ [])) s, (named_again xs a n p).reads s tt) refl

one_name : (n : Text) → ItemAgain read_name Anything (lexeme.name n ∷ []) n
unfolding read_name
one_name n = record { reads = λ s st. refl }

projected_again : {xs : List Lexeme} {a : Attributes} → AttributeListSpelling xs a → (s : List Lexeme) → read_postfix (xs ++ s) ≡ Some (tree.project a, s)
unfolding read_postfix
projected_again (only_names (grammar.names {xs} {ns} p)) s = rw (attributes_again (only_names (grammar.names p)) s) refl
projected_again (all_but_names {xs} {ns} p) s = rw (attributes_again (all_but_names p) s) refl

pub postfix_again : {xs : List Lexeme} {p : Postfix} → PostfixSpelling xs p → (s : List Lexeme) → read_postfix (xs ++ s) ≡ Some (p, s)
unfolding read_postfix postfix_of_word
postfix_again (projection q) s = projected_again q s
postfix_again (renamings q) s = rw (older_renamings_again q s) refl
postfix_again (renamings_in_braces q) s = rw (newer_renamings_again q s) refl
postfix_again (grouping {n} q) s = rw (older_attributes_again q n s) refl
postfix_again (wrapping {n} q) s = rw (older_attributes_again q n s) refl
postfix_again (open_grouping {n} q) s = rw (newer_attributes_again q n s) refl
postfix_again (open_wrapping {n} q) s = rw (newer_attributes_again q n s) refl
postfix_again (ungrouping {n}) s = rw (enclosed_again read_name Anything (lexeme.name n ∷ []) n (one_name n) s tt) refl
postfix_again (unwrapping {n}) s = rw (enclosed_again read_name Anything (lexeme.name n ∷ []) n (one_name n) s tt) refl

-- what follows is an operator behind an operand
projection_is : {xs : List Lexeme} {a : Attributes} → AttributeListSpelling xs a → (s : List Lexeme) → postfix_at (xs ++ s) ≡ true
unfolding postfix_at
projection_is (only_names (grammar.names p)) s = refl
projection_is (all_but_names p) s = refl

pub postfix_is : {xs : List Lexeme} {p : Postfix} → PostfixSpelling xs p → (s : List Lexeme) → postfix_at (xs ++ s) ≡ true
unfolding postfix_at
postfix_is (projection q) s = projection_is q s
postfix_is (renamings q) s = refl
postfix_is (renamings_in_braces q) s = refl
postfix_is (grouping q) s = refl
postfix_is (wrapping q) s = refl
postfix_is (open_grouping q) s = refl
postfix_is (open_wrapping q) s = refl
postfix_is ungrouping s = refl
postfix_is unwrapping s = refl
