-- Reading statements from left to right: their first words say which they are.
use Rattle.std.specs.Prelude.{List, [], ◌∷◌, Option, Some, None}
use Rattle.td_tree.specs.declared.keyword.Keyword.{Keyword}
use Rattle.td_tree.specs.declared.keyword.Keyword.TheVariants as k
use Rattle.td_tree.specs.declared.operator.Level.TheVariants as levels
use Rattle.td_tree.specs.declared.operator.Style.{Style}
use Rattle.td_tree.specs.declared.operator.Style.TheVariants as styles
use Rattle.td_tree.specs.declared.token.Sign.TheVariants as signs
use Rattle.td_tree.specs.model.Grammar.{height_limit, loosest}
use Rattle.td_tree.specs.model.Lexemes.{Lexeme, keyword, sign}
use Rattle.td_tree.specs.model.Lexemes as lexeme
use Rattle.td_parse.specs.code.Reading.{Read, named_from, read, setting}
use Rattle.td_parse.specs.code.ReadingSteps.{◌>>=◌, either, ReadOf, expect, read_name, read_up_to, in_parentheses_read, in_braces_read, optional, list_by_commas, list_by_words, names}
use Rattle.td_parse.specs.code.ReadingTypes.{attribute, attribute_trees_from, read_type, relation_heading}
use Rattle.td_tree.specs.model.Trees as tree
use Rattle.td_tree.specs.model.Trees.{Text, Tree, Assignment, Statement}

-- e
abbrev pub expression : List Lexeme → Read
expression = read height_limit loosest

-- [WHERE e1]
unfoldable pub condition : List Lexeme → ReadOf (Option Tree)
condition = optional (keyword k.Where) (read height_limit levels.Disjunction)

-- (KEY names)*
unfoldable pub keys : List Lexeme → ReadOf (List (List Text))
keys = list_by_words (keyword k.Key) names

-- ':=' e
unfoldable pub source : List Lexeme → Read
source ts = expect (sign signs.Assign) ts >>= λ after. expression after

-- ---- assignments

-- set,+
abbrev pub settings : List Lexeme → ReadOf (List (Text × Tree))
settings = list_by_commas (setting (read height_limit) height_limit)

-- '(' set,+ ')', or ':' '{' set,+ '}' in the newer spelling
unfoldable pub styled_settings : List Lexeme → ReadOf (Style × List (Text × Tree))
styled_settings ts =
    either (in_parentheses_read settings ts >>= λ x. Some ((styles.Older, x.0), x.1))
    (λ after. in_braces_read settings after >>= λ x. Some ((styles.Newer, x.0), x.1))
    (expect (sign signs.Colon) ts)

-- INSERT name e, after INSERT
unfoldable pub insertion : List Lexeme → ReadOf Assignment
insertion ts = read_name ts >>= λ n. expression n.1 >>= λ a. Some (tree.insert n.0 a.0, a.1)

-- D_INSERT name e, after D_INSERT
unfoldable pub disjoint_insertion : List Lexeme → ReadOf Assignment
disjoint_insertion ts =
    read_name ts >>= λ n. expression n.1 >>= λ a. Some (tree.disjoint_insert n.0 a.0, a.1)

-- DELETE name [WHERE e1], after DELETE
unfoldable pub deletion : List Lexeme → ReadOf Assignment
deletion ts = read_name ts >>= λ n. condition n.1 >>= λ c. Some (tree.delete n.0 c.0, c.1)

-- I_DELETE name e, after I_DELETE
unfoldable pub included_deletion : List Lexeme → ReadOf Assignment
included_deletion ts =
    read_name ts >>= λ n. expression n.1 >>= λ a. Some (tree.included_delete n.0 a.0, a.1)

-- UPDATE name [WHERE e1] and the settings in one of their spellings, after UPDATE
unfoldable pub changing : List Lexeme → ReadOf Assignment
changing ts =
    read_name ts >>= λ n. condition n.1 >>= λ c. styled_settings c.1
    >>= λ x. Some (tree.update x.0.0 n.0 c.0 (named_from x.0.1), x.1)

-- an assignment after its first word
unfoldable pub assignment_of_word : Keyword → List Lexeme → ReadOf Assignment
assignment_of_word k.Insert ts = insertion ts
assignment_of_word k.DInsert ts = disjoint_insertion ts
assignment_of_word k.Delete ts = deletion ts
assignment_of_word k.IDelete ts = included_deletion ts
assignment_of_word k.Update ts = changing ts
assignment_of_word _ ts = None

-- one assignment
unfoldable pub assignment : List Lexeme → ReadOf Assignment
assignment (lexeme.name n ∷ ts) = source ts >>= λ a. Some (tree.assign n a.0, a.1)
assignment (keyword w ∷ ts) = assignment_of_word w ts
assignment _ = None

-- assign,+
unfoldable pub assignments : List Lexeme → ReadOf Statement
assignments ts = list_by_commas assignment ts >>= λ x. Some (tree.assign_all x.0, x.1)

-- ---- definitions

-- attr,+ [CONSTRAINT e]
unfoldable pub components : Text → List Lexeme → ReadOf Statement
components n ts =
    list_by_commas (attribute (read_type height_limit)) ts
    >>= λ h. optional (keyword k.Constraint) expression h.1
    >>= λ c. Some (tree.define_type n (attribute_trees_from h.0) c.0, c.1)

-- TYPE name POSSREP '{' attr,+ [CONSTRAINT e] '}', after TYPE
unfoldable pub type_definition : List Lexeme → ReadOf Statement
type_definition ts =
    read_name ts >>= λ n. expect (keyword k.Possrep) n.1
    >>= λ after. expect (sign signs.OpenBrace) after
    >>= λ last. read_up_to (sign signs.CloseBrace) (components n.0) last

-- RELATION heading [INIT '(' e ')'] (KEY names)*
unfoldable pub base_definition : Text → List Lexeme → ReadOf Statement
base_definition n ts = do
  after ← expect (keyword k.Relation) ts
  h ← relation_heading height_limit after
  i ← optional (keyword k.Init) (in_parentheses_read expression) h.1
  all ← keys i.1
  Some (tree.define_base n h.0 i.0 all.0, all.1)

-- '(' e ')' (KEY names)*
unfoldable pub virtual_definition : Text → List Lexeme → ReadOf Statement
virtual_definition n ts =
    in_parentheses_read expression ts >>= λ a. keys a.1 >>= λ x. Some (tree.define_virtual n a.0 x.0, x.1)

-- a definition after its word and before that VAR and a name
unfoldable pub definition_of_word : Keyword → Text → List Lexeme → ReadOf Statement
definition_of_word k.Base n ts = base_definition n ts
definition_of_word k.Real n ts = base_definition n ts
definition_of_word k.Virtual n ts = virtual_definition n ts
definition_of_word _ n ts = None

-- BASE, REAL or VIRTUAL and what follows, after VAR and a name
unfoldable pub variable : Text → List Lexeme → ReadOf Statement
variable n (keyword w ∷ ts) = definition_of_word w n ts
variable n _ = None

-- CONSTRAINT name e, after CONSTRAINT
unfoldable pub constraint_definition : List Lexeme → ReadOf Statement
constraint_definition ts =
    read_name ts >>= λ n. expression n.1 >>= λ a. Some (tree.define_constraint n.0 a.0, a.1)

-- a name, after DROP and the word that says what it names
unfoldable pub drop_of_word : Keyword → List Lexeme → ReadOf Statement
drop_of_word k.«Type» ts = read_name ts >>= λ n. Some (tree.drop_type n.0, n.1)
drop_of_word k.Var ts = read_name ts >>= λ n. Some (tree.drop_var n.0, n.1)
drop_of_word k.Constraint ts = read_name ts >>= λ n. Some (tree.drop_constraint n.0, n.1)
drop_of_word _ ts = None

-- what is dropped, after DROP
unfoldable pub drop : List Lexeme → ReadOf Statement
drop (keyword w ∷ ts) = drop_of_word w ts
drop _ = None

-- ---- statements

-- a body after its first word; another word begins assignments
unfoldable pub body_of_word : Keyword → List Lexeme → ReadOf Statement
body_of_word k.«Type» ts = type_definition ts
body_of_word k.Drop ts = drop ts
body_of_word k.Var ts = read_name ts >>= λ n. variable n.0 n.1
body_of_word k.Constraint ts = constraint_definition ts
body_of_word k.Begin ts =
    expect (keyword k.Transaction) ts >>= λ after. Some (tree.begin_transaction, after)
body_of_word k.Commit ts = Some (tree.commit, ts)
body_of_word k.Rollback ts = Some (tree.rollback, ts)
body_of_word k.Write ts = expression ts >>= λ a. Some (tree.write a.0, a.1)
body_of_word k.Dump ts = Some (tree.dump, ts)
body_of_word w ts = assignments (keyword w ∷ ts)

-- a body that is not empty
unfoldable pub body : List Lexeme → ReadOf Statement
body (keyword w ∷ ts) = body_of_word w ts
body ts = assignments ts

-- a body, or nothing before the semicolon
unfoldable pub read_body : List Lexeme → ReadOf Statement
read_body ts = either (body ts) (λ after. Some (tree.empty, ts)) (expect (sign signs.Semicolon) ts)

-- what was read, where nothing is left
abbrev pub if_all_is_read : {A : Type 0} → A → List Lexeme → Option A
if_all_is_read a [] = Some a
if_all_is_read a (x ∷ ts) = None

-- the statement of all the lexemes
unfoldable pub read_statement : List Lexeme → Option Statement
read_statement ts = read_up_to (sign signs.Semicolon) read_body ts >>= λ x. if_all_is_read x.0 x.1

-- the expression of all the lexemes
unfoldable pub read_expression : List Lexeme → Option Tree
read_expression ts = expression ts >>= λ x. if_all_is_read x.0 x.1
