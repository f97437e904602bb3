-- A statement that some tokens spell is written: its names are names, and its texts UTF-8.
use Rattle.std.proofs.Common.{◌≡◌, ◌++◌, List, Option, Some, None, subst}
use Rattle.std.specs.Prelude.{⊤}
use Rattle.std.specs.List.{AllByRecursion}
use Rattle.td_engine.specs.laws.LegalityLaws.{IsSpelledStatement}
use Rattle.td_tree.specs.model.Lexemes.{Lexeme}
use Rattle.td_tree.specs.model.Lists.{Optional, Separated, absent, next_item, one_item, with_parentheses, present}
use Rattle.td_tree.specs.model.Names.{IsName}
use Rattle.td_tree.specs.model.StatementGrammar as s
use Rattle.td_tree.specs.model.StatementGrammar.{AssignmentSpelling, BodySpelling, ConstraintPart, InitPart, StatementSpelling, WherePart, constraint_part, init_part, where_part}
use Rattle.td_tree.specs.model.Trees.{Assignment, Statement, Tree, assign_all, define_base, define_constraint, define_type, define_virtual, write}
use Rattle.td_catalog.specs.model.Database.{Database, NamedConstraint}
use Rattle.td_engine.proofs.law_lemmas.EachOf.{all_follow}
use Rattle.td_engine.specs.code.Plannable.{IsWrittenAssignment, IsWrittenIf}
use Rattle.td_engine.specs.model.Legality.{AreSpelled, IsSpelledExpression}
use Rattle.td_engine.proofs.law_lemmas.WrittenSpellings.{AreOfTokens, attributes_written, back, front, heading_written, inside, of_tokens, settings_written, written}
use Rattle.td_tree.specs.model.WrittenTrees.{HaveNames, IsWritten}

-- ---- statements as they are written

-- the expressions in assignments are written
abbrev pub AreWritten : List Assignment → Type 0
AreWritten = AllByRecursion IsWrittenAssignment

-- and those in a statement; the name of what it defines is a name, and so are those in its heading
abbrev pub IsWrittenStatement : Statement → Type 0
IsWrittenStatement (define_type n components constraint) = IsName n × HaveNames components × IsWrittenIf constraint
IsWrittenStatement (define_base n heading init keys) = IsName n × HaveNames heading × IsWrittenIf init
IsWrittenStatement (define_virtual n expression keys) = IsName n × IsWritten expression
IsWrittenStatement (define_constraint n condition) = IsName n × IsWritten condition
IsWrittenStatement (assign_all assignments) = AreWritten assignments
IsWrittenStatement (write expression) = IsWritten expression
IsWrittenStatement _ = ⊤

-- ---- what is spelled is so

constraint_written : {xs : List Lexeme} {c : Option Tree} → Optional ConstraintPart xs c → AreOfTokens xs → IsWrittenIf c
constraint_written absent h = tt
constraint_written (present (constraint_part p)) h = written p.spelled h.1

init_written : {xs : List Lexeme} {c : Option Tree} → Optional InitPart xs c → AreOfTokens xs → IsWrittenIf c
init_written absent h = tt
init_written (present (init_part {xs} p)) h = written p.spelled (inside xs _ h.1.1)

condition_written : {xs : List Lexeme} {c : Option Tree} → Optional WherePart xs c → AreOfTokens xs → IsWrittenIf c
condition_written absent h = tt
condition_written (present (where_part p)) h = written p.spelled h.1

assignment_written : {xs : List Lexeme} {a : Assignment} → AssignmentSpelling xs a → AreOfTokens xs → IsWrittenAssignment a
assignment_written (s.assignment p) h = written p.spelled h.1.1
assignment_written (s.insertion p) h = written p.spelled h.1.1
assignment_written (s.disjoint_insertion p) h = written p.spelled h.1.1
assignment_written (s.included_deletion p) h = written p.spelled h.1.1
assignment_written (s.deletion p) h = condition_written p h.1.1
assignment_written (s.changing {xs = xs} {ys = ys} p q) h =
    (condition_written p (front xs _ h.1.1), settings_written q.spelled (inside ys _ (back xs _ h.1.1).1))
assignment_written (s.changing_in_braces {xs = xs} {ys = ys} p q) h =
    (condition_written p (front xs _ h.1.1), settings_written q.spelled (inside ys _ (back xs _ h.1.1).1.1))

assignments_written : {xs : List Lexeme} {all : List Assignment} → Separated AssignmentSpelling xs all → AreOfTokens xs → AreWritten all
assignments_written (one_item p) h = (assignment_written p h, tt)
assignments_written (next_item {xs} p q) h = (assignment_written p (front xs _ h), assignments_written q (back xs _ h).1)

body_written : {xs : List Lexeme} {t : Statement} → BodySpelling xs t → AreOfTokens xs → IsWrittenStatement t
body_written s.no_body h = tt
body_written (s.type_definition {xs = xs} {ys = ys} p low q) h =
    let within = inside (xs ++ ys) _ h.1.1.1.1 in (h.1.0, attributes_written p (front xs ys within), constraint_written q (back xs ys within))
body_written s.type_drop h = tt
body_written s.var_drop h = tt
body_written s.constraint_drop h = tt
body_written (s.base_definition {xs = xs} {ys = ys} {zs = zs} word p low q keys) h =
    let behind = back xs (ys ++ zs) h.1.1.1.1 in (h.1.0, heading_written p (front xs (ys ++ zs) h.1.1.1.1), init_written q (front ys zs behind))
body_written (s.virtual_definition {xs = xs} p keys) h = (h.1.0, written p.spelled (inside xs _ (front (with_parentheses xs) _ h.1.1.1).1))
body_written (s.constraint_definition p) h = (h.1.0, written p.spelled h.1.1)
body_written (s.assignments p) h = assignments_written p h
body_written s.begin_transaction h = tt
body_written s.commit h = tt
body_written s.rollback h = tt
body_written (s.writing p) h = written p.spelled h.1
body_written s.dump h = tt

pub spelling_written : {xs : List Lexeme} {t : Statement} → StatementSpelling xs t → AreOfTokens xs → IsWrittenStatement t
spelling_written (s.statement {xs} p) h = body_written p (front xs _ h)

pub statement_written : (t : Statement) → IsSpelledStatement t → IsWrittenStatement t
statement_written t s = spelling_written s.1 (of_tokens s.0)

-- ---- definitions

pub expression_written : (e : Tree) → IsSpelledExpression e → IsWritten e
expression_written e s = written s.1.spelled (of_tokens s.0)

-- the expression of one that is there is written
pub if_written : (o : Option Tree) → IsWrittenIf o → (e : Tree) → o ≡ Some e → IsWritten e
if_written None h e is = absurd cc
if_written (Some t) h e is = let same : t ≡ e = cc in subst IsWritten same h

-- what tokens spell is written, in each constraint of a database
pub conditions_written : (db : Database) → AreSpelled db → AllByRecursion (λ (c : NamedConstraint). IsWritten c.tree) db.constraints
conditions_written db spelled =
    all_follow (λ (c : NamedConstraint). IsSpelledExpression c.tree) (λ (c : NamedConstraint). IsWritten c.tree) (λ c. expression_written c.tree) db.constraints spelled.constraints
