-- What is read as a statement is spelled.
use Rattle.std.proofs.Common.{◌≡◌, List, [], ◌∷◌, ◌++◌, Option, Some, refl, sym, ap, subst, ◌∙◌, inl, inr}
use Rattle.std.proofs.lemmas.List.{append-nil}
use Rattle.td_tree.specs.declared.keyword.Keyword.{Keyword}
use Rattle.td_tree.specs.declared.keyword.Keyword.TheVariants as k
use Rattle.td_tree.specs.declared.operator.Level.{Level}
use Rattle.td_tree.specs.declared.operator.Level.TheVariants as levels
use Rattle.td_tree.specs.declared.operator.Style.{Style}
use Rattle.td_tree.specs.declared.operator.Style.TheVariants as styles
use Rattle.td_tree.specs.declared.token.Sign.TheVariants as signs
use Rattle.td_tree.specs.model.Grammar.{IsExpression, height_limit, loosest}
use Rattle.td_tree.specs.model.Lexemes.{Lexeme, keyword, sign}
use Rattle.td_tree.specs.model.Lexemes as lexeme
use Rattle.td_tree.specs.model.Lists.{Separated, Repeated, Optional, with_braces, with_parentheses}
use Rattle.td_parse.specs.code.Reading.{named_from, read, setting}
use Rattle.td_parse.specs.code.ReadingStatements as reading
use Rattle.td_parse.specs.code.ReadingSteps.{expect, read_name, read_up_to, in_parentheses_read, in_braces_read, optional, list_by_commas, names}
use Rattle.td_parse.specs.code.ReadingTypes.{attribute, read_type, relation_heading}
use Rattle.td_tree.specs.model.StatementGrammar.{ExpressionItem, constraint_part, InitPart, init_part, WherePart, where_part, KeyPart, key_part, SettingItems, AssignmentSpelling, assignment, insertion, disjoint_insertion, deletion, included_deletion, changing, changing_in_braces, BaseWord, base_word, real_word, BodySpelling, no_body, type_definition, type_drop, var_drop, constraint_drop, base_definition, virtual_definition, constraint_definition, assignments, begin_transaction, commit, rollback, writing, dump, StatementSpelling, statement}
use Rattle.td_tree.specs.model.Trees as tree
use Rattle.td_tree.specs.model.Trees.{Text, Tree, Assignment, Statement}
use Rattle.td_parse.proofs.Sound.{sound}
use Rattle.td_parse.proofs.SoundNames.{after_word, names_sound}
use Rattle.td_parse.proofs.SoundParts.{IsSetting, are_settings, setting_sound}
use Rattle.td_parse.proofs.SoundSteps.{some, bind_some, either_cases, Front, all_left, glue, expect_front, Takes, Sound, retake, name_front, up_to_sound, enclosed_sound, braced_sound, optional_sound, separated_sound, repeated_sound}
use Rattle.td_parse.proofs.SoundTypes.{are_attributes, attribute_sound, type_sound, relation_heading_sound}

-- ---- parts

level_sound : (level : Level) → Sound (IsExpression level) (read height_limit level)
level_sound level ts t rest e =
    let q = sound height_limit level ts t rest e in
    record { front = q.front; spelled = record { spelled = q.spelled.spelled; low = q.spelled.low }; parts = q.parts }

pub expression_sound : Sound ExpressionItem reading.expression
expression_sound = level_sound loosest

condition_sound : Sound (Optional WherePart) reading.condition
unfolding reading.condition
condition_sound = optional_sound (keyword k.Where) (read height_limit levels.Disjunction) (λ xs t p. where_part p) (level_sound levels.Disjunction)

keys_sound : Sound (Repeated KeyPart) reading.keys
unfolding reading.keys
keys_sound = repeated_sound (keyword k.Key) names (λ xs ns p. key_part p) names_sound

source_sound : (ts : List Lexeme) (t : Tree) (rest : List Lexeme) → reading.source ts ≡ Some (t, rest) → (after : List Lexeme) × Front ts (sign signs.Assign ∷ []) after × Takes ExpressionItem after t rest
unfolding reading.source
source_sound ts t rest e =
    let b = bind_some (expect (sign signs.Assign) ts) _ _ e in
    (b.0, expect_front (sign signs.Assign) ts b.0 b.1, expression_sound b.0 t rest b.2)

-- ---- assignments

settings_sound : Sound (Separated (IsSetting height_limit)) reading.settings
settings_sound = separated_sound (setting (read height_limit) height_limit) (setting_sound (read height_limit) height_limit (sound height_limit))

-- the settings of UPDATE, in their style
data StyledSettings : List Lexeme → Style × List (Text × Tree) → Type 0 where
  older_settings : {xs : List Lexeme} {all : List (Text × Tree)} → Separated (IsSetting height_limit) xs all → StyledSettings (with_parentheses xs) (styles.Older, all)
  newer_settings : {xs : List Lexeme} {all : List (Text × Tree)} → Separated (IsSetting height_limit) xs all → StyledSettings (sign signs.Colon ∷ with_braces xs) (styles.Newer, all)

styled_settings_sound : Sound StyledSettings reading.styled_settings
unfolding reading.styled_settings
styled_settings_sound ts x rest e =
    elim (either_cases _ _ (expect (sign signs.Colon) ts) _ e) [
      | inl g ↦
          let b = bind_some (in_parentheses_read reading.settings ts) _ _ g.1 in
          let l = enclosed_sound reading.settings settings_sound ts b.0.0 b.0.1 b.1 in
          retake StyledSettings b.2 (older_settings l.spelled) l.parts
      | inr g ↦
          let b = bind_some (in_braces_read reading.settings g.0) _ _ g.2 in
          let l = braced_sound reading.settings settings_sound g.0 b.0.0 b.0.1 b.1 in
          retake StyledSettings b.2 (newer_settings l.spelled) (glue (expect_front (sign signs.Colon) ts g.0 g.1) l.parts)
    ]

setting_items : {xs : List Lexeme} {all : List (Text × Tree)} → Separated (IsSetting height_limit) xs all → SettingItems xs (named_from all)
setting_items p =
    let r = are_settings p in
    record { spelled = r.spelled; low = r.low }

changing_spelled : {n : Text} {xs ys : List Lexeme} {condition : Option Tree} {x : Style × List (Text × Tree)} → Optional WherePart xs condition → StyledSettings ys x
    → AssignmentSpelling (keyword k.Update ∷ (lexeme.name n ∷ (xs ++ ys))) (tree.update x.0 n condition (named_from x.1))
changing_spelled p (older_settings q) = changing p (setting_items q)
changing_spelled p (newer_settings q) = changing_in_braces p (setting_items q)

insertion_sound : (ts : List Lexeme) (a : Assignment) (rest : List Lexeme) → reading.insertion ts ≡ Some (a, rest) → Takes AssignmentSpelling (keyword k.Insert ∷ ts) a rest
unfolding reading.insertion
insertion_sound ts a rest e =
    let b = bind_some (read_name ts) _ _ e in
    let c = bind_some (reading.expression b.0.1) _ _ b.2 in
    let s = expression_sound b.0.1 c.0.0 c.0.1 c.1 in
    retake AssignmentSpelling c.2 (insertion s.spelled) (after_word (keyword k.Insert) (glue (name_front ts b.0.0 b.0.1 b.1) s.parts))

disjoint_insertion_sound : (ts : List Lexeme) (a : Assignment) (rest : List Lexeme) → reading.disjoint_insertion ts ≡ Some (a, rest) → Takes AssignmentSpelling (keyword k.DInsert ∷ ts) a rest
unfolding reading.disjoint_insertion
disjoint_insertion_sound ts a rest e =
    let b = bind_some (read_name ts) _ _ e in
    let c = bind_some (reading.expression b.0.1) _ _ b.2 in
    let s = expression_sound b.0.1 c.0.0 c.0.1 c.1 in
    retake AssignmentSpelling c.2 (disjoint_insertion s.spelled) (after_word (keyword k.DInsert) (glue (name_front ts b.0.0 b.0.1 b.1) s.parts))

deletion_sound : (ts : List Lexeme) (a : Assignment) (rest : List Lexeme) → reading.deletion ts ≡ Some (a, rest) → Takes AssignmentSpelling (keyword k.Delete ∷ ts) a rest
unfolding reading.deletion
deletion_sound ts a rest e =
    let b = bind_some (read_name ts) _ _ e in
    let c = bind_some (reading.condition b.0.1) _ _ b.2 in
    let s = condition_sound b.0.1 c.0.0 c.0.1 c.1 in
    retake AssignmentSpelling c.2 (deletion s.spelled) (after_word (keyword k.Delete) (glue (name_front ts b.0.0 b.0.1 b.1) s.parts))

included_deletion_sound : (ts : List Lexeme) (a : Assignment) (rest : List Lexeme) → reading.included_deletion ts ≡ Some (a, rest) → Takes AssignmentSpelling (keyword k.IDelete ∷ ts) a rest
unfolding reading.included_deletion
included_deletion_sound ts a rest e =
    let b = bind_some (read_name ts) _ _ e in
    let c = bind_some (reading.expression b.0.1) _ _ b.2 in
    let s = expression_sound b.0.1 c.0.0 c.0.1 c.1 in
    retake AssignmentSpelling c.2 (included_deletion s.spelled) (after_word (keyword k.IDelete) (glue (name_front ts b.0.0 b.0.1 b.1) s.parts))

changing_sound : (ts : List Lexeme) (a : Assignment) (rest : List Lexeme) → reading.changing ts ≡ Some (a, rest) → Takes AssignmentSpelling (keyword k.Update ∷ ts) a rest
unfolding reading.changing
changing_sound ts a rest e =
    let b = bind_some (read_name ts) _ _ e in
    let c = bind_some (reading.condition b.0.1) _ _ b.2 in
    let f = bind_some (reading.styled_settings c.0.1) _ _ c.2 in
    let s = condition_sound b.0.1 c.0.0 c.0.1 c.1 in
    let l = styled_settings_sound c.0.1 f.0.0 f.0.1 f.1 in
    retake AssignmentSpelling f.2 (changing_spelled s.spelled l.spelled) (after_word (keyword k.Update) (glue (name_front ts b.0.0 b.0.1 b.1) (glue s.parts l.parts)))

assignment_word_sound : (w : Keyword) (ts : List Lexeme) (a : Assignment) (rest : List Lexeme) → reading.assignment_of_word w ts ≡ Some (a, rest) → Takes AssignmentSpelling (keyword w ∷ ts) a rest
unfolding reading.assignment_of_word
assignment_word_sound k.Insert ts a rest e = insertion_sound ts a rest e
assignment_word_sound k.DInsert ts a rest e = disjoint_insertion_sound ts a rest e
assignment_word_sound k.Delete ts a rest e = deletion_sound ts a rest e
assignment_word_sound k.IDelete ts a rest e = included_deletion_sound ts a rest e
assignment_word_sound k.Update ts a rest e = changing_sound ts a rest e
assignment_word_sound _ ts a rest e = absurd cc

assignment_sound : Sound AssignmentSpelling reading.assignment
unfolding reading.assignment
assignment_sound (lexeme.name n ∷ ts) a rest e =
    let b = bind_some (reading.source ts) _ _ e in
    let s = source_sound ts b.0.0 b.0.1 b.1 in
    retake AssignmentSpelling b.2 (assignment s.2.spelled) (after_word (lexeme.name n) (glue s.1 s.2.parts))
assignment_sound (keyword w ∷ ts) a rest e = assignment_word_sound w ts a rest e
assignment_sound _ a rest e = absurd cc

assignments_sound : Sound BodySpelling reading.assignments
unfolding reading.assignments
assignments_sound ts t rest e =
    let b = bind_some (list_by_commas reading.assignment ts) _ _ e in
    let l = separated_sound reading.assignment assignment_sound ts b.0.0 b.0.1 b.1 in
    retake BodySpelling b.2 (assignments l.spelled) l.parts

-- ---- definitions

-- '(' e ')'
data IsEnclosed : List Lexeme → Tree → Type 0 where
  between_parentheses : {xs : List Lexeme} {t : Tree} → ExpressionItem xs t → IsEnclosed (with_parentheses xs) t

-- what stands between the braces of a type's definition
data IsDefinition (n : Text) : List Lexeme → Statement → Type 0 where
  definition : {xs : List Lexeme} {t : Statement} → BodySpelling (keyword k.«Type» ∷ (lexeme.name n ∷ (keyword k.Possrep ∷ with_braces xs))) t → IsDefinition n xs t

definition_is : {n : Text} {xs : List Lexeme} {t : Statement} → IsDefinition n xs t → BodySpelling (keyword k.«Type» ∷ (lexeme.name n ∷ (keyword k.Possrep ∷ with_braces xs))) t
definition_is (definition p) = p

components_sound : (n : Text) → Sound (IsDefinition n) (reading.components n)
unfolding reading.components
components_sound n ts t rest e =
    let b = bind_some (list_by_commas (attribute (read_type height_limit)) ts) _ _ e in
    let c = bind_some (optional (keyword k.Constraint) reading.expression b.0.1) _ _ b.2 in
    let l = separated_sound (attribute (read_type height_limit)) (attribute_sound (read_type height_limit) height_limit (type_sound height_limit)) ts b.0.0 b.0.1 b.1 in
    let all = are_attributes l.spelled in
    let s = optional_sound (keyword k.Constraint) reading.expression (λ xs t p. constraint_part p) expression_sound b.0.1 c.0.0 c.0.1 c.1 in
    retake (IsDefinition n) c.2 (definition (type_definition all.spelled all.low s.spelled)) (glue l.parts s.parts)

type_definition_sound : (ts : List Lexeme) (t : Statement) (rest : List Lexeme) → reading.type_definition ts ≡ Some (t, rest) → Takes BodySpelling (keyword k.«Type» ∷ ts) t rest
unfolding reading.type_definition
type_definition_sound ts t rest e =
    let b = bind_some (read_name ts) _ _ e in
    let c = bind_some (expect (keyword k.Possrep) b.0.1) _ _ b.2 in
    let o = bind_some (expect (sign signs.OpenBrace) c.0) _ _ c.2 in
    let l = up_to_sound (reading.components b.0.0) (components_sound b.0.0) (sign signs.CloseBrace) o.0 t rest o.2 in
    record {
      front = _;
      spelled = definition_is l.spelled;
      parts = after_word (keyword k.«Type») (glue (name_front ts b.0.0 b.0.1 b.1) (glue (expect_front (keyword k.Possrep) b.0.1 c.0 c.1) (glue (expect_front (sign signs.OpenBrace) c.0 o.0 o.1) l.parts)));
    }

-- [INIT '(' e ')']
init_item : (ts : List Lexeme) (t : Tree) (rest : List Lexeme) → in_parentheses_read reading.expression ts ≡ Some (t, rest) → Takes IsEnclosed ts t rest
init_item ts t rest e =
    let a = enclosed_sound reading.expression expression_sound ts t rest e in
    record { front = with_parentheses a.front; spelled = between_parentheses a.spelled; parts = a.parts }

init_is : (xs : List Lexeme) (t : Tree) → IsEnclosed xs t → InitPart (keyword k.Init ∷ xs) t
init_is _ t (between_parentheses p) = init_part p

init_sound : Sound (Optional InitPart) (optional (keyword k.Init) (in_parentheses_read reading.expression))
init_sound = optional_sound (keyword k.Init) (in_parentheses_read reading.expression) init_is init_item

base_definition_sound : (base : Keyword) → BaseWord base → (n : Text) (ts : List Lexeme) (t : Statement) (rest : List Lexeme) → reading.base_definition n ts ≡ Some (t, rest)
    → Takes BodySpelling (keyword k.Var ∷ (lexeme.name n ∷ (keyword base ∷ ts))) t rest
unfolding reading.base_definition
base_definition_sound base is_base n ts t rest e =
    let o = bind_some (expect (keyword k.Relation) ts) _ _ e in
    let b = bind_some (relation_heading height_limit o.0) _ _ o.2 in
    let c = bind_some (optional (keyword k.Init) (in_parentheses_read reading.expression) b.0.1) _ _ b.2 in
    let f = bind_some (reading.keys c.0.1) _ _ c.2 in
    let h = relation_heading_sound height_limit o.0 b.0.0 b.0.1 b.1 in
    let i = init_sound b.0.1 c.0.0 c.0.1 c.1 in
    let keys = keys_sound c.0.1 f.0.0 f.0.1 f.1 in
    retake BodySpelling f.2 (base_definition is_base h.spelled.spelled h.spelled.low i.spelled keys.spelled)
    (after_word (keyword k.Var) (after_word (lexeme.name n) (after_word (keyword base) (glue (expect_front (keyword k.Relation) ts o.0 o.1) (glue h.parts (glue i.parts keys.parts))))))

virtual_definition_sound : (n : Text) (ts : List Lexeme) (t : Statement) (rest : List Lexeme) → reading.virtual_definition n ts ≡ Some (t, rest) → Takes BodySpelling (keyword k.Var ∷ (lexeme.name n ∷ (keyword k.Virtual ∷ ts))) t rest
unfolding reading.virtual_definition
virtual_definition_sound n ts t rest e =
    let b = bind_some (in_parentheses_read reading.expression ts) _ _ e in
    let c = bind_some (reading.keys b.0.1) _ _ b.2 in
    let a = enclosed_sound reading.expression expression_sound ts b.0.0 b.0.1 b.1 in
    let keys = keys_sound b.0.1 c.0.0 c.0.1 c.1 in
    retake BodySpelling c.2 (virtual_definition a.spelled keys.spelled) (after_word (keyword k.Var) (after_word (lexeme.name n) (after_word (keyword k.Virtual) (glue a.parts keys.parts))))

definition_word_sound : (w : Keyword) (n : Text) (ts : List Lexeme) (t : Statement) (rest : List Lexeme) → reading.definition_of_word w n ts ≡ Some (t, rest) → Takes BodySpelling (keyword k.Var ∷ (lexeme.name n ∷ (keyword w ∷ ts))) t rest
unfolding reading.definition_of_word
definition_word_sound k.Base n ts t rest e = base_definition_sound k.Base base_word n ts t rest e
definition_word_sound k.Real n ts t rest e = base_definition_sound k.Real real_word n ts t rest e
definition_word_sound k.Virtual n ts t rest e = virtual_definition_sound n ts t rest e
definition_word_sound _ n ts t rest e = absurd cc

variable_sound : (n : Text) (ts : List Lexeme) (t : Statement) (rest : List Lexeme) → reading.variable n ts ≡ Some (t, rest) → Takes BodySpelling (keyword k.Var ∷ (lexeme.name n ∷ ts)) t rest
unfolding reading.variable
variable_sound n (keyword w ∷ ts) t rest e = definition_word_sound w n ts t rest e
variable_sound n _ t rest e = absurd cc

-- behind VAR and a name
var_sound : (ts : List Lexeme) (t : Statement) (rest : List Lexeme) (n : Text) (after : List Lexeme) → read_name ts ≡ Some (n, after) → reading.variable n after ≡ Some (t, rest) → Takes BodySpelling (keyword k.Var ∷ ts) t rest
var_sound ts t rest n after named e = subst (λ (l : List Lexeme). Takes BodySpelling (keyword k.Var ∷ l) t rest) (sym (name_front ts n after named).parts) (variable_sound n after t rest e)

constraint_sound : (ts : List Lexeme) (t : Statement) (rest : List Lexeme) → reading.constraint_definition ts ≡ Some (t, rest) → Takes BodySpelling (keyword k.Constraint ∷ ts) t rest
unfolding reading.constraint_definition
constraint_sound ts t rest e =
    let b = bind_some (read_name ts) _ _ e in
    let c = bind_some (reading.expression b.0.1) _ _ b.2 in
    let a = expression_sound b.0.1 c.0.0 c.0.1 c.1 in
    retake BodySpelling c.2 (constraint_definition a.spelled) (after_word (keyword k.Constraint) (glue (name_front ts b.0.0 b.0.1 b.1) a.parts))

drop_word_sound : (w : Keyword) (ts : List Lexeme) (t : Statement) (rest : List Lexeme) → reading.drop_of_word w ts ≡ Some (t, rest) → Takes BodySpelling (keyword k.Drop ∷ (keyword w ∷ ts)) t rest
unfolding reading.drop_of_word
drop_word_sound k.«Type» ts t rest e =
    let b = bind_some (read_name ts) _ _ e in
    retake BodySpelling b.2 type_drop (after_word (keyword k.Drop) (after_word (keyword k.«Type») (name_front ts b.0.0 b.0.1 b.1)))
drop_word_sound k.Var ts t rest e =
    let b = bind_some (read_name ts) _ _ e in
    retake BodySpelling b.2 var_drop (after_word (keyword k.Drop) (after_word (keyword k.Var) (name_front ts b.0.0 b.0.1 b.1)))
drop_word_sound k.Constraint ts t rest e =
    let b = bind_some (read_name ts) _ _ e in
    retake BodySpelling b.2 constraint_drop (after_word (keyword k.Drop) (after_word (keyword k.Constraint) (name_front ts b.0.0 b.0.1 b.1)))
drop_word_sound _ ts t rest e = absurd cc

drop_sound : (ts : List Lexeme) (t : Statement) (rest : List Lexeme) → reading.drop ts ≡ Some (t, rest) → Takes BodySpelling (keyword k.Drop ∷ ts) t rest
unfolding reading.drop
drop_sound (keyword w ∷ ts) t rest e = drop_word_sound w ts t rest e
drop_sound _ t rest e = absurd cc

-- ---- statements

body_word_sound : (w : Keyword) (ts : List Lexeme) (t : Statement) (rest : List Lexeme) → reading.body_of_word w ts ≡ Some (t, rest) → Takes BodySpelling (keyword w ∷ ts) t rest
unfolding reading.body_of_word
body_word_sound k.«Type» ts t rest e = type_definition_sound ts t rest e
body_word_sound k.Drop ts t rest e = drop_sound ts t rest e
body_word_sound k.Var ts t rest e =
    let b = bind_some (read_name ts) _ _ e in
    var_sound ts t rest b.0.0 b.0.1 b.1 b.2
body_word_sound k.Constraint ts t rest e = constraint_sound ts t rest e
body_word_sound k.Begin ts t rest e =
    let b = bind_some (expect (keyword k.Transaction) ts) _ _ e in
    retake BodySpelling b.2 begin_transaction (after_word (keyword k.Begin) (expect_front (keyword k.Transaction) ts b.0 b.1))
body_word_sound k.Commit ts t rest e = retake BodySpelling e commit (record { parts = refl })
body_word_sound k.Rollback ts t rest e = retake BodySpelling e rollback (record { parts = refl })
body_word_sound k.Write ts t rest e =
    let b = bind_some (reading.expression ts) _ _ e in
    let a = expression_sound ts b.0.0 b.0.1 b.1 in
    retake BodySpelling b.2 (writing a.spelled) (after_word (keyword k.Write) a.parts)
body_word_sound k.Dump ts t rest e = retake BodySpelling e dump (record { parts = refl })
body_word_sound w ts t rest e = assignments_sound (keyword w ∷ ts) t rest e

body_sound : Sound BodySpelling reading.body
unfolding reading.body
body_sound (keyword w ∷ ts) t rest e = body_word_sound w ts t rest e
body_sound ts t rest e = assignments_sound ts t rest e

read_body_sound : Sound BodySpelling reading.read_body
unfolding reading.read_body
read_body_sound ts t rest e =
    elim (either_cases _ _ (expect (sign signs.Semicolon) ts) _ e) [
      | inl g ↦ body_sound ts t rest g.1
      | inr g ↦ retake BodySpelling g.2 no_body (all_left ts)
    ]

-- what is read, and nothing is left
pub ended_is : {A : Type 0} (a : A) (rest : List Lexeme) (b : A) → reading.if_all_is_read a rest ≡ Some b → (rest ≡ []) × (a ≡ b)
ended_is a [] b e = (refl, let f : some a ≡ some b = e in cc)
ended_is a (x ∷ rest) b e = absurd cc

pub statement_sound : (ts : List Lexeme) (t : Statement) → reading.read_statement ts ≡ Some t → StatementSpelling ts t
unfolding reading.read_statement
statement_sound ts t e =
    let b = bind_some (read_up_to (sign signs.Semicolon) reading.read_body ts) _ _ e in
    let l = up_to_sound reading.read_body read_body_sound (sign signs.Semicolon) ts b.0.0 b.0.1 b.1 in
    let g = ended_is b.0.0 b.0.1 t b.2 in
    let whole : ts ≡ l.front ++ (sign signs.Semicolon ∷ []) = l.parts.parts ∙ (ap (λ (r : List Lexeme). (l.front ++ (sign signs.Semicolon ∷ [])) ++ r) g.0 ∙ append-nil (l.front ++ (sign signs.Semicolon ∷ []))) in
    subst (λ (u : Statement). StatementSpelling ts u) g.1 (subst (λ (x : List Lexeme). StatementSpelling x b.0.0) (sym whole) (statement l.spelled))

pub whole_sound : (ts : List Lexeme) (t : Tree) → reading.read_expression ts ≡ Some t → IsExpression loosest ts t
unfolding reading.read_expression
whole_sound ts t e =
    let b = bind_some (reading.expression ts) _ _ e in
    let q = expression_sound ts b.0.0 b.0.1 b.1 in
    let g = ended_is b.0.0 b.0.1 t b.2 in
    let whole : ts ≡ q.front = q.parts.parts ∙ (ap (λ (r : List Lexeme). q.front ++ r) g.0 ∙ append-nil q.front) in
    subst (λ (u : Tree). IsExpression loosest ts u) g.1 (subst (λ (x : List Lexeme). IsExpression loosest x b.0.0) (sym whole) q.spelled)
