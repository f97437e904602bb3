-- The grammar of statements (after Tutorial D): which lexemes spell which tree, a constructor for
-- each production.
use Rattle.std.specs.Prelude.{◌≤◌, List, [], ◌∷◌, ◌++◌, Option}
use Rattle.td_tree.specs.declared.keyword.Keyword.{Keyword}
use Rattle.td_tree.specs.declared.keyword.Keyword.TheVariants as k
use Rattle.td_tree.specs.declared.operator.Level.TheVariants as levels
use Rattle.td_tree.specs.declared.operator.Style.TheVariants as styles
use Rattle.td_tree.specs.declared.token.Sign.TheVariants as signs
use Rattle.td_tree.specs.model.Grammar.{AttributesSpelling, HeadingSpelling, NamesSpelling, SettingsSpelling, IsExpression, height_limit, loosest}
use Rattle.td_tree.specs.model.Heights.{type_height, attributes_height, highest_named}
use Rattle.td_tree.specs.model.Lexemes.{Lexeme, keyword, sign}
use Rattle.td_tree.specs.model.Lexemes as lexeme
use Rattle.td_tree.specs.model.Lists.{Separated, Repeated, Optional, with_braces, with_parentheses}
use Rattle.td_tree.specs.model.Trees as tree
use Rattle.td_tree.specs.model.Trees.{Text, AttributeTrees, Tree, NamedTrees, Assignment, Statement}

-- e
abbrev pub ExpressionItem : List Lexeme → Tree → Type 0
ExpressionItem = IsExpression loosest

-- CONSTRAINT e
pub data ConstraintPart : List Lexeme → Tree → Type 0 where
  constraint_part : {xs : List Lexeme} {t : Tree} → ExpressionItem xs t
      → ConstraintPart (keyword k.Constraint ∷ xs) t

-- INIT '(' e ')'
pub data InitPart : List Lexeme → Tree → Type 0 where
  init_part : {xs : List Lexeme} {t : Tree} → ExpressionItem xs t
      → InitPart (keyword k.Init ∷ with_parentheses xs) t

-- WHERE e1
pub data WherePart : List Lexeme → Tree → Type 0 where
  where_part : {xs : List Lexeme} {t : Tree} → IsExpression levels.Disjunction xs t
      → WherePart (keyword k.Where ∷ xs) t

-- KEY names
pub data KeyPart : List Lexeme → List Text → Type 0 where
  key_part : {xs : List Lexeme} {ns : List Text} → NamesSpelling xs ns
      → KeyPart (keyword k.Key ∷ xs) ns

-- set,+ where each expression is one that is not too high
pub record SettingItems (xs : List Lexeme) (settings : NamedTrees) : Type 0 where
  pub spelled : SettingsSpelling xs settings
  pub low : highest_named settings ≤ height_limit

pub data AssignmentSpelling : List Lexeme → Assignment → Type 0 where
  -- name ':=' e
  assignment : {n : Text} {xs : List Lexeme} {t : Tree} → ExpressionItem xs t
      → AssignmentSpelling (lexeme.name n ∷ (sign signs.Assign ∷ xs)) (tree.assign n t)
  -- INSERT name e
  insertion : {n : Text} {xs : List Lexeme} {t : Tree} → ExpressionItem xs t
      → AssignmentSpelling (keyword k.Insert ∷ (lexeme.name n ∷ xs)) (tree.insert n t)
  -- D_INSERT name e
  disjoint_insertion : {n : Text} {xs : List Lexeme} {t : Tree} → ExpressionItem xs t
      → AssignmentSpelling (keyword k.DInsert ∷ (lexeme.name n ∷ xs)) (tree.disjoint_insert n t)
  -- DELETE name [WHERE e1]
  deletion : {n : Text} {xs : List Lexeme} {condition : Option Tree}
      → Optional WherePart xs condition
      → AssignmentSpelling (keyword k.Delete ∷ (lexeme.name n ∷ xs)) (tree.delete n condition)
  -- I_DELETE name e
  included_deletion : {n : Text} {xs : List Lexeme} {t : Tree} → ExpressionItem xs t
      → AssignmentSpelling (keyword k.IDelete ∷ (lexeme.name n ∷ xs)) (tree.included_delete n t)
  -- UPDATE name [WHERE e1] '(' set,+ ')'
  changing : {n : Text} {xs ys : List Lexeme} {condition : Option Tree} {settings : NamedTrees}
      → Optional WherePart xs condition → SettingItems ys settings
      → AssignmentSpelling (keyword k.Update ∷ (lexeme.name n ∷ (xs ++ with_parentheses ys)))
      (tree.update styles.Older n condition settings)
  -- UPDATE name [WHERE e1] ':' '{' set,+ '}'
  changing_in_braces : {n : Text} {xs ys : List Lexeme} {condition : Option Tree}
      {settings : NamedTrees} → Optional WherePart xs condition → SettingItems ys settings
      → AssignmentSpelling
      (keyword k.Update ∷ (lexeme.name n ∷ (xs ++ (sign signs.Colon ∷ with_braces ys))))
      (tree.update styles.Newer n condition settings)

-- BASE | REAL
pub data BaseWord : Keyword → Type 0 where
  base_word : BaseWord k.Base
  real_word : BaseWord k.Real

pub data BodySpelling : List Lexeme → Statement → Type 0 where
  no_body : BodySpelling [] tree.empty
  -- TYPE name POSSREP '{' attr,+ [CONSTRAINT e] '}'
  type_definition : {n : Text} {xs ys : List Lexeme} {h : AttributeTrees} {t : Option Tree}
      → AttributesSpelling xs h → attributes_height h ≤ height_limit → Optional ConstraintPart ys t
      → BodySpelling (keyword k.«Type» ∷ (lexeme.name n ∷ (keyword k.Possrep ∷ with_braces (xs ++ ys))))
      (tree.define_type n h t)
  -- DROP TYPE name, DROP VAR name, DROP CONSTRAINT name
  type_drop : {n : Text}
      → BodySpelling (keyword k.Drop ∷ (keyword k.«Type» ∷ (lexeme.name n ∷ []))) (tree.drop_type n)
  var_drop : {n : Text}
      → BodySpelling (keyword k.Drop ∷ (keyword k.Var ∷ (lexeme.name n ∷ []))) (tree.drop_var n)
  constraint_drop : {n : Text}
      → BodySpelling (keyword k.Drop ∷ (keyword k.Constraint ∷ (lexeme.name n ∷ [])))
      (tree.drop_constraint n)
  -- VAR name (BASE | REAL) RELATION heading [INIT '(' e ')'] (KEY names)*
  base_definition : {n : Text} {base : Keyword} {xs ys zs : List Lexeme} {h : AttributeTrees}
      {t : Option Tree} {keys : List (List Text)}
      → BaseWord base → HeadingSpelling xs h → type_height (tree.relation_type h) ≤ height_limit
      → Optional InitPart ys t → Repeated KeyPart zs keys
      → BodySpelling
      (keyword k.Var
      ∷ (lexeme.name n
      ∷ (keyword base
      ∷ (keyword k.Relation ∷ (xs ++ (ys ++ zs))))))
      (tree.define_base n h t keys)
  -- VAR name VIRTUAL '(' e ')' (KEY names)*
  virtual_definition : {n : Text} {xs ys : List Lexeme} {t : Tree} {keys : List (List Text)}
      → ExpressionItem xs t → Repeated KeyPart ys keys
      → BodySpelling
      (keyword k.Var ∷ (lexeme.name n ∷ (keyword k.Virtual ∷ (with_parentheses xs ++ ys))))
      (tree.define_virtual n t keys)
  -- CONSTRAINT name e
  constraint_definition : {n : Text} {xs : List Lexeme} {t : Tree} → ExpressionItem xs t
      → BodySpelling (keyword k.Constraint ∷ (lexeme.name n ∷ xs)) (tree.define_constraint n t)
  -- assign,+
  assignments : {xs : List Lexeme} {all : List Assignment} → Separated AssignmentSpelling xs all
      → BodySpelling xs (tree.assign_all all)
  -- BEGIN TRANSACTION | COMMIT | ROLLBACK
  begin_transaction : BodySpelling (keyword k.Begin
      ∷ (keyword k.Transaction ∷ [])) tree.begin_transaction
  commit : BodySpelling (keyword k.Commit ∷ []) tree.commit
  rollback : BodySpelling (keyword k.Rollback ∷ []) tree.rollback
  -- WRITE e | DUMP
  writing : {xs : List Lexeme} {t : Tree} → ExpressionItem xs t
      → BodySpelling (keyword k.Write ∷ xs) (tree.write t)
  dump : BodySpelling (keyword k.Dump ∷ []) tree.dump

-- statement := [body] ';'
pub data StatementSpelling : List Lexeme → Statement → Type 0 where
  statement : {xs : List Lexeme} {t : Statement} → BodySpelling xs t
      → StatementSpelling (xs ++ (sign signs.Semicolon ∷ [])) t
