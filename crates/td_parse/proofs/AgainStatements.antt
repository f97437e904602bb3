-- Statements that are spelled are read again.
use Rattle.std.proofs.Common.{◌≡◌, ℕ, zero, suc, ◌≤◌, List, [], ◌∷◌, ◌++◌, length, Option, Some, None, refl, ◌∙◌, append_assoc, arith, length-append}
use Rattle.std.proofs.lemmas.List.{append-nil}
use Rattle.td_tree.specs.declared.keyword.Keyword.{Keyword}
use Rattle.td_tree.specs.declared.keyword.Keyword.TheVariants as k
use Rattle.td_tree.specs.declared.operator.Level.{Level}
use Rattle.td_tree.specs.declared.operator.Level.TheVariants as levels
use Rattle.td_tree.specs.declared.operator.Style.TheVariants as styles
use Rattle.td_tree.specs.declared.token.Sign.TheVariants as signs
use Rattle.td_tree.specs.model.Grammar.{AttributesSpelling, HeadingSpelling, SettingsSpelling, last_setting, next_setting, IsExpression, height_limit, loosest}
use Rattle.td_tree.specs.model.Heights.{type_height, attributes_height}
use Rattle.td_tree.specs.model.Lexemes.{Lexeme, keyword, sign}
use Rattle.td_tree.specs.model.Lexemes as lexeme
use Rattle.td_tree.specs.model.Lists.{Separated, one_item, next_item, Repeated, no_more, one_more, Optional, absent, present, with_braces, with_parentheses}
use Rattle.td_parse.specs.code.Reading.{read, setting}
use Rattle.td_parse.specs.code.ReadingOperators.{link_at, comparison_at, postfix_at, call_at}
use Rattle.td_parse.specs.code.ReadingSteps.{expect, read_name, read_up_to, in_parentheses_read, optional, repeated_from, list_by_words, names}
use Rattle.td_parse.specs.code.ReadingStatements as reading
use Rattle.td_parse.specs.code.ReadingTypes.{attribute, read_type}
use Rattle.td_tree.specs.model.StatementGrammar.{ExpressionItem, ConstraintPart, constraint_part, InitPart, init_part, WherePart, where_part, KeyPart, key_part, SettingItems, AssignmentSpelling, assignment, insertion, disjoint_insertion, deletion, included_deletion, changing, changing_in_braces, BaseWord, base_word, real_word, BodySpelling, no_body, type_definition, type_drop, var_drop, constraint_drop, base_definition, virtual_definition, constraint_definition, assignments, begin_transaction, commit, rollback, writing, dump, StatementSpelling, statement}
use Rattle.td_tree.specs.model.Trees as tree
use Rattle.td_tree.specs.model.Trees.{Text, AttributeTrees, Tree, NamedTrees, Assignment, Statement}
use Rattle.td_parse.proofs.Again.{again_from}
use Rattle.td_parse.proofs.AgainLists.{comma, ItemAgain, SeparatedAgain, items_again, separated_again, enclosed_again, enclosed_items_again, braced_items_again}
use Rattle.td_parse.proofs.AgainNames.{Anything, names_again}
use Rattle.td_parse.proofs.AgainParts.{named_items, named_back}
use Rattle.td_parse.proofs.AgainSpelled.{reads, settings_again}
use Rattle.td_parse.proofs.AgainTypes.{attribute_items, attributes_back, attributes_again, relation_heading_again}
use Rattle.td_parse.proofs.Stops.{Stops, Ends, close_stops, close_brace_stops, colon_stops, comma_stops, semicolon_stops}

-- an expression of a level that is not too high
pub level_again : (level : Level) (xs : List Lexeme) (t : Tree) → IsExpression level xs t → ItemAgain (read height_limit level) (Stops level) xs t
level_again level xs t p = record { reads = λ s st. (again_from level xs t (reads p.spelled)).reads height_limit s p.low st }

-- '(' e ')'
enclosed_expression : (xs : List Lexeme) (t : Tree) → ExpressionItem xs t → (s : List Lexeme) → in_parentheses_read reading.expression (sign signs.OpenParenthesis ∷ ((xs ++ (sign signs.CloseParenthesis ∷ [])) ++ s)) ≡ Some (t, s)
enclosed_expression xs t p s = enclosed_again reading.expression Ends xs t (level_again loosest xs t p) s (close_stops s)

-- ---- optional parts

-- what follows an optional WHERE and its condition
pub record EndsCondition (s : List Lexeme) : Type 0 where
  pub no_where : expect (keyword k.Where) s ≡ None
  pub stops : Stops levels.Disjunction s

condition_again : {xs : List Lexeme} {c : Option Tree} → Optional WherePart xs c → (s : List Lexeme) → EndsCondition s → reading.condition (xs ++ s) ≡ Some (c, s)
unfolding reading.condition optional expect
condition_again absent s st = rw (st.no_where) refl
condition_again (present (where_part {xs} {t} p)) s st = rw ((level_again levels.Disjunction xs t p).reads s st.stops) refl

-- [INIT '(' e ')']
init_again : {xs : List Lexeme} {c : Option Tree} → Optional InitPart xs c → (s : List Lexeme) → expect (keyword k.Init) s ≡ None → optional (keyword k.Init) (in_parentheses_read reading.expression) (xs ++ s) ≡ Some (c, s)
unfolding optional expect
init_again absent s st = rw st refl
init_again (present (init_part {xs} {t} p)) s st = rw (enclosed_expression xs t p s) refl

-- [CONSTRAINT e]
constraint_again : {xs : List Lexeme} {c : Option Tree} → Optional ConstraintPart xs c → (s : List Lexeme) → optional (keyword k.Constraint) reading.expression (xs ++ (sign signs.CloseBrace ∷ s)) ≡ Some (c, sign signs.CloseBrace ∷ s)
unfolding optional expect
constraint_again absent s = refl
constraint_again (present (constraint_part {xs} {t} p)) s = rw ((level_again loosest xs t p).reads (sign signs.CloseBrace ∷ s) (close_brace_stops s)) refl

-- (KEY names)*
keys_from : {xs : List Lexeme} {keys : List (List Text)} → Repeated KeyPart xs keys → (n : ℕ) (before : List (List Text)) (s : List Lexeme) → suc (length keys) ≤ n → expect (keyword k.Key) s ≡ None
    → repeated_from (keyword k.Key) names n before (xs ++ s) ≡ Some (before ++ keys, s)
unfolding repeated_from expect
keys_from p zero before s lt e = absurd (omega arith)
keys_from no_more (suc n) before s lt e = rw (e, append-nil before) refl
keys_from (one_more {ys} {rest} (key_part {xs} {ns} p) q) (suc n) before s lt e =
    rw (append_assoc xs ys s, names_again p (ys ++ s), keys_from q n (before ++ (ns ∷ [])) s (omega arith) e, append_assoc before (ns ∷ []) rest) refl

keys_length : {xs : List Lexeme} {keys : List (List Text)} → Repeated KeyPart xs keys → length keys ≤ length xs
keys_length no_more = omega arith
keys_length (one_more {ys} {rest} (key_part {xs} {ns} p) q) = omega (arith, keys_length q, length-append xs ys)

keys_again : {xs : List Lexeme} {keys : List (List Text)} → Repeated KeyPart xs keys → (s : List Lexeme) → expect (keyword k.Key) s ≡ None → reading.keys (xs ++ s) ≡ Some (keys, s)
unfolding reading.keys list_by_words
keys_again {xs} {keys} p s e = keys_from p (suc (length (xs ++ s))) [] s (omega (arith, keys_length p, length-append xs s)) e

-- ---- assignments

abbrev semicolon : Lexeme
semicolon = sign signs.Semicolon

all_settings : {xs : List Lexeme} {all : NamedTrees} → SettingItems xs all → SeparatedAgain (setting (read height_limit) height_limit) Ends xs (named_items all)
all_settings p = (settings_again p.spelled).reads height_limit p.low

older_settings_again : {xs : List Lexeme} {all : NamedTrees} → SettingItems xs all → (s : List Lexeme) → reading.styled_settings (with_parentheses xs ++ s) ≡ Some ((styles.Older, named_items all), s)
unfolding reading.styled_settings expect
older_settings_again {xs} {all} p s = rw (enclosed_items_again (setting (read height_limit) height_limit) Ends xs (named_items all) (all_settings p) s (close_stops s)) refl

newer_settings_again : {xs : List Lexeme} {all : NamedTrees} → SettingItems xs all → (s : List Lexeme) → reading.styled_settings (sign signs.Colon ∷ (with_braces xs ++ s)) ≡ Some ((styles.Newer, named_items all), s)
unfolding reading.styled_settings expect
newer_settings_again {xs} {all} p s = rw (braced_items_again (setting (read height_limit) height_limit) Ends xs (named_items all) (all_settings p) s (close_brace_stops s)) refl

-- settings are no arguments of a call
settings_stop : {xs : List Lexeme} {all : NamedTrees} → SettingsSpelling xs all → (ys s : List Lexeme) → EndsCondition (sign signs.OpenParenthesis ∷ ((xs ++ ys) ++ s))
unfolding link_at comparison_at postfix_at call_at expect
settings_stop (last_setting p) ys s = record { no_where = refl; stops = (refl, (refl, (refl, (refl, (refl, (refl, (refl, (refl, refl)))))))) }
settings_stop (next_setting p q) ys s = record { no_where = refl; stops = (refl, (refl, (refl, (refl, (refl, (refl, (refl, (refl, refl)))))))) }

-- nor does an operator begin with ':'
colon_stop : (s : List Lexeme) → EndsCondition (sign signs.Colon ∷ s)
unfolding expect
colon_stop s = record { no_where = refl; stops = (colon_stops s).1 }

-- what follows an assignment
pub record EndsAssignment (s : List Lexeme) : Type 0 where
  pub ends : Ends s
  pub no_where : expect (keyword k.Where) s ≡ None

comma_ends : (s : List Lexeme) → EndsAssignment (comma ∷ s)
unfolding expect
comma_ends s = record { ends = comma_stops s; no_where = refl }

semicolon_ends : (s : List Lexeme) → EndsAssignment (semicolon ∷ s)
unfolding expect
semicolon_ends s = record { ends = semicolon_stops s; no_where = refl }

ends_condition : (s : List Lexeme) → EndsAssignment s → EndsCondition s
ends_condition s st = record { no_where = st.no_where; stops = st.ends.1 }

assignment_again : (xs : List Lexeme) (a : Assignment) → AssignmentSpelling xs a → ItemAgain reading.assignment EndsAssignment xs a
unfolding reading.assignment reading.assignment_of_word reading.source reading.insertion reading.disjoint_insertion reading.deletion reading.included_deletion reading.changing read_name expect
assignment_again _ _ (assignment {n} {xs} {t} p) = record { reads = λ s st. rw ((level_again loosest xs t p).reads s st.ends) refl }
assignment_again _ _ (insertion {n} {xs} {t} p) = record { reads = λ s st. rw ((level_again loosest xs t p).reads s st.ends) refl }
assignment_again _ _ (disjoint_insertion {n} {xs} {t} p) = record { reads = λ s st. rw ((level_again loosest xs t p).reads s st.ends) refl }
assignment_again _ _ (deletion {n} {xs} {condition} p) = record { reads = λ s st. rw (condition_again p s (ends_condition s st)) refl }
assignment_again _ _ (included_deletion {n} {xs} {t} p) = record { reads = λ s st. rw ((level_again loosest xs t p).reads s st.ends) refl }
assignment_again _ _ (changing {n} {xs} {ys} {condition} {settings} p q) = record {
  reads = λ s st.
      let last : List Lexeme = with_parentheses ys ++ s in
      rw (append_assoc xs (with_parentheses ys) s, condition_again p last (settings_stop q.spelled (sign signs.CloseParenthesis ∷ []) s), older_settings_again q s, named_back settings) refl;
}
assignment_again _ _ (changing_in_braces {n} {xs} {ys} {condition} {settings} p q) = record {
  reads = λ s st.
      let last : List Lexeme = sign signs.Colon ∷ (with_braces ys ++ s) in
      rw (append_assoc xs (sign signs.Colon ∷ with_braces ys) s, condition_again p last (colon_stop (with_braces ys ++ s)), newer_settings_again q s, named_back settings) refl;
}

-- ---- bodies

-- a body is read up to its semicolon
pub record BodyAgain (xs : List Lexeme) (t : Statement) : Type 0 where
  pub reads : (s : List Lexeme) → reading.read_body (xs ++ (semicolon ∷ s)) ≡ Some (t, semicolon ∷ s)

assignment_begins : (xs : List Lexeme) (a : Assignment) → AssignmentSpelling xs a → (s : List Lexeme) → reading.read_body (xs ++ s) ≡ reading.assignments (xs ++ s)
unfolding reading.read_body reading.body reading.body_of_word expect
assignment_begins _ _ (assignment p) s = refl
assignment_begins _ _ (insertion p) s = refl
assignment_begins _ _ (disjoint_insertion p) s = refl
assignment_begins _ _ (deletion p) s = refl
assignment_begins _ _ (included_deletion p) s = refl
assignment_begins _ _ (changing p q) s = refl
assignment_begins _ _ (changing_in_braces p q) s = refl

assignments_begin : {xs : List Lexeme} {all : List Assignment} → Separated AssignmentSpelling xs all → (s : List Lexeme) → reading.read_body (xs ++ s) ≡ reading.assignments (xs ++ s)
assignments_begin (one_item {xs} {a} p) s = assignment_begins xs a p s
assignments_begin (next_item {xs} {ys} {a} {rest} p q) s = rw (append_assoc xs (comma ∷ ys) s) (assignment_begins xs a p (comma ∷ (ys ++ s)))

all_assigned : (xs : List Lexeme) (all : List Assignment) → Separated AssignmentSpelling xs all → (s : List Lexeme) → reading.assignments (xs ++ (semicolon ∷ s)) ≡ Some (tree.assign_all all, semicolon ∷ s)
unfolding reading.assignments expect
all_assigned xs all p s = rw (separated_again reading.assignment EndsAssignment xs all (items_again reading.assignment EndsAssignment comma_ends assignment_again p) (semicolon ∷ s) (semicolon_ends s) refl) refl

assignments_read : (xs : List Lexeme) (all : List Assignment) → Separated AssignmentSpelling xs all → BodyAgain xs (tree.assign_all all)
assignments_read xs all p = record { reads = λ s. assignments_begin p (semicolon ∷ s) ∙ all_assigned xs all p s }

no_comma : {xs : List Lexeme} {c : Option Tree} → Optional ConstraintPart xs c → (s : List Lexeme) → expect comma (xs ++ (sign signs.CloseBrace ∷ s)) ≡ None
unfolding expect
no_comma absent s = refl
no_comma (present (constraint_part p)) s = refl

components_again : (n : Text) (xs ys : List Lexeme) (h : AttributeTrees) (c : Option Tree) → AttributesSpelling xs h → attributes_height h ≤ height_limit → Optional ConstraintPart ys c → (s : List Lexeme)
    → reading.components n (xs ++ (ys ++ (sign signs.CloseBrace ∷ s))) ≡ Some (tree.define_type n h c, sign signs.CloseBrace ∷ s)
unfolding reading.components
components_again n xs ys h c p lt q s =
    rw (separated_again (attribute (read_type height_limit)) Anything xs (attribute_items h) ((attributes_again p).reads height_limit lt) (ys ++ (sign signs.CloseBrace ∷ s)) tt (no_comma q s), constraint_again q s, attributes_back h) refl

type_definition_reads : (n : Text) (xs ys : List Lexeme) (h : AttributeTrees) (c : Option Tree) → AttributesSpelling xs h → attributes_height h ≤ height_limit → Optional ConstraintPart ys c
    → BodyAgain (keyword k.«Type» ∷ (lexeme.name n ∷ (keyword k.Possrep ∷ with_braces (xs ++ ys)))) (tree.define_type n h c)
unfolding reading.read_body reading.body reading.body_of_word reading.type_definition read_up_to read_name expect
type_definition_reads n xs ys h c p lt q = record {
  reads = λ s.
      let regroup : ((xs ++ ys) ++ (sign signs.CloseBrace ∷ [])) ++ (semicolon ∷ s) ≡ xs ++ (ys ++ (sign signs.CloseBrace ∷ (semicolon ∷ s))) = simp append_assoc in
      rw (regroup, components_again n xs ys h c p lt q (semicolon ∷ s)) refl;
}

no_init : {xs : List Lexeme} {keys : List (List Text)} → Repeated KeyPart xs keys → (s : List Lexeme) → expect (keyword k.Init) (xs ++ (semicolon ∷ s)) ≡ None
unfolding expect
no_init no_more s = refl
no_init (one_more (key_part p) q) s = refl

base_again : (n : Text) (xs ys zs : List Lexeme) (h : AttributeTrees) (c : Option Tree) (keys : List (List Text)) → HeadingSpelling xs h → type_height (tree.relation_type h) ≤ height_limit → Optional InitPart ys c → Repeated KeyPart zs keys
    → (s : List Lexeme) → reading.base_definition n (keyword k.Relation ∷ ((xs ++ (ys ++ zs)) ++ (semicolon ∷ s))) ≡ Some (tree.define_base n h c keys, semicolon ∷ s)
unfolding reading.base_definition expect
base_again n xs ys zs h c keys p lt q r s =
    let regroup : (xs ++ (ys ++ zs)) ++ (semicolon ∷ s) ≡ xs ++ (ys ++ (zs ++ (semicolon ∷ s))) = simp append_assoc in
    rw (regroup, relation_heading_again p height_limit (ys ++ (zs ++ (semicolon ∷ s))) lt, init_again q (zs ++ (semicolon ∷ s)) (no_init r s), keys_again r (semicolon ∷ s) refl) refl

base_is : (n : Text) (base : Keyword) → BaseWord base → (ts : List Lexeme) → reading.variable n (keyword base ∷ ts) ≡ reading.base_definition n ts
unfolding reading.variable reading.definition_of_word
base_is n _ base_word ts = refl
base_is n _ real_word ts = refl

base_definition_reads : (n : Text) (base : Keyword) (xs ys zs : List Lexeme) (h : AttributeTrees) (c : Option Tree) (keys : List (List Text)) → BaseWord base → HeadingSpelling xs h → type_height (tree.relation_type h) ≤ height_limit
    → Optional InitPart ys c → Repeated KeyPart zs keys → BodyAgain (keyword k.Var ∷ (lexeme.name n ∷ (keyword base ∷ (keyword k.Relation ∷ (xs ++ (ys ++ zs)))))) (tree.define_base n h c keys)
unfolding reading.read_body reading.body reading.body_of_word read_name expect
base_definition_reads n base xs ys zs h c keys b p lt q r = record {
  reads = λ s. rw (base_is n base b (keyword k.Relation ∷ ((xs ++ (ys ++ zs)) ++ (semicolon ∷ s)))) (base_again n xs ys zs h c keys p lt q r s);
}

virtual_definition_reads : (n : Text) (xs ys : List Lexeme) (t : Tree) (keys : List (List Text)) → ExpressionItem xs t → Repeated KeyPart ys keys
    → BodyAgain (keyword k.Var ∷ (lexeme.name n ∷ (keyword k.Virtual ∷ (with_parentheses xs ++ ys)))) (tree.define_virtual n t keys)
unfolding reading.read_body reading.body reading.body_of_word reading.variable reading.definition_of_word reading.virtual_definition read_name expect
virtual_definition_reads n xs ys t keys p q = record {
  reads = λ s. rw (append_assoc (xs ++ (sign signs.CloseParenthesis ∷ [])) ys (semicolon ∷ s), enclosed_expression xs t p (ys ++ (semicolon ∷ s)), keys_again q (semicolon ∷ s) refl) refl;
}

expression_ended : (xs : List Lexeme) (t : Tree) → ExpressionItem xs t → (s : List Lexeme) → reading.expression (xs ++ (semicolon ∷ s)) ≡ Some (t, semicolon ∷ s)
expression_ended xs t p s = (level_again loosest xs t p).reads (semicolon ∷ s) (semicolon_stops s)

pub body_again : {xs : List Lexeme} {t : Statement} → BodySpelling xs t → BodyAgain xs t
unfolding reading.read_body reading.body reading.body_of_word reading.drop reading.drop_of_word reading.constraint_definition read_name expect
body_again no_body = record { reads = λ s. refl }
body_again (type_definition {n} {xs} {ys} {h} {t} p lt q) = type_definition_reads n xs ys h t p lt q
body_again (type_drop {n}) = record { reads = λ s. refl }
body_again (var_drop {n}) = record { reads = λ s. refl }
body_again (constraint_drop {n}) = record { reads = λ s. refl }
body_again (base_definition {n} {base} {xs} {ys} {zs} {h} {t} {keys} b p lt q r) = base_definition_reads n base xs ys zs h t keys b p lt q r
body_again (virtual_definition {n} {xs} {ys} {t} {keys} p q) = virtual_definition_reads n xs ys t keys p q
body_again (constraint_definition {n} {xs} {t} p) = record { reads = λ s. rw (expression_ended xs t p s) refl }
body_again (assignments {xs} {all} p) = assignments_read xs all p
body_again begin_transaction = record { reads = λ s. refl }
body_again commit = record { reads = λ s. refl }
body_again rollback = record { reads = λ s. refl }
body_again (writing {xs} {t} p) = record { reads = λ s. rw (expression_ended xs t p s) refl }
body_again dump = record { reads = λ s. refl }

pub statement_again : {xs : List Lexeme} {t : Statement} → StatementSpelling xs t → reading.read_statement xs ≡ Some t
unfolding reading.read_statement read_up_to expect
statement_again (statement {xs} {t} p) = rw ((body_again p).reads []) refl
