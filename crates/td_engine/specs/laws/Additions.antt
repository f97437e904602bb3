-- Constraints that may be tested by the tuples that come into a relvar: they ask of each of its tuples, beside expressions that name
-- nothing which a change of it reaches (this project's own).
use Rattle.std.specs.Prelude.{◌≡◌, ◌⊎◌, ⊤, ℕ, Bool, true, false, List, [], ◌∷◌, Some, map}
use Rattle.std.specs.List.{AllByRecursion, list_all}
use Rattle.td_algebra.specs.laws.Membership.{IsIn}
use Rattle.td_body.specs.model.Bodies.{after_change}
use Rattle.td_catalog.specs.model.Database.{BaseRelvar, Database, NamedConstraint, base_named, database_scope}
use Rattle.td_catalog.specs.laws.NamedRelvars.{names_any}
use Rattle.td_catalog.specs.model.TypedDatabases.{IsTyped}
use Rattle.td_engine.specs.model.Assignments.{source_world, with_all_assigned}
use Rattle.td_engine.specs.code.Changes.{IsTypedChange, given_as}
use Rattle.td_engine.specs.model.Checks.{constraint_check, refusal_unless_passed}
use Rattle.td_engine.specs.code.AssignedRelations.{AreAssigned}
use Rattle.td_engine.specs.declared.change.Change.{Change}
use Rattle.td_engine.specs.model.Legality.{IsLegal}
use Rattle.td_engine.specs.model.Refusals.{Refusal}
use Rattle.td_eval.specs.model.DatabaseWorlds.{world_of}
use Rattle.td_eval.specs.model.OperatorValues.{comparison_value, extended_by_settings, extended_value, measure_value, on_relation, operator_value, postfix_value, restricted_value, truth_value}
use Rattle.td_eval.specs.laws.ReachedRelvars.{reached_from}
use Rattle.td_eval.specs.model.TreeValues.{value_of}
use Rattle.td_eval.specs.laws.UnfailingValues.{GivesValues}
use Rattle.td_eval.specs.laws.ValueLaws.{AreOneOutcome, IsChecked}
use Rattle.td_eval.specs.laws.ValueTypes.{IsTypedTuple}
use Rattle.td_tree.specs.declared.operator.Comparison.TheVariants as comparisons
use Rattle.td_tree.specs.declared.operator.Measure.TheVariants as measures
use Rattle.td_tree.specs.declared.operator.Operator.{Operator}
use Rattle.td_tree.specs.declared.operator.Operator.TheVariants as operators
use Rattle.td_tree.specs.declared.operator.Style.{Style}
use Rattle.td_tree.specs.model.Outcomes.{Outcome, Valued, Refused, with_both, with_value}
use Rattle.td_tree.specs.model.Trees.{Attributes, NamedTrees, Renaming, Tree, binary, compare, extend, extend_setting, measure, more_named, name, none_named, parentheses, postfix, project, rename, restriction}
use Rattle.td_types.specs.model.Types.{Attribute, Heading}
use Rattle.td_value.specs.model.Values.{IsRelation, Relation, Tuple, Val, boolean, heading_of, relation_value}

-- the operator gives of the tuples of its first operand what it gives of each of them, beside the second
abbrev pub GivesOfFirst : Operator → Type 0
GivesOfFirst operators.Intersect = ⊤
GivesOfFirst operators.Minus = ⊤
GivesOfFirst operators.Join = ⊤
GivesOfFirst operators.Matching = ⊤
GivesOfFirst operators.NotMatching = ⊤
GivesOfFirst _ = ⊥

-- or so of those of its second
abbrev pub GivesOfSecond : Operator → Type 0
GivesOfSecond operators.Intersect = ⊤
GivesOfSecond operators.Join = ⊤
GivesOfSecond _ = ⊥

-- none of the expressions names one of those that are reached
abbrev pub NameNone : List (List ℕ) → NamedTrees → Type 0
NameNone reached none_named = ⊤
NameNone reached (more_named n value rest) = (names_any reached value ≡ false) × NameNone reached rest

-- the expression is the relvar, or what such operators make of it, in parentheses or not, beside expressions that name none of those
-- that are reached: so it gives of the relvar's tuples what it gives of each of them
abbrev pub IsImageOf : List ℕ → List (List ℕ) → Tree → Type 0
IsImageOf relvar reached (name n) = n ≡ relvar
IsImageOf relvar reached (parentheses inner) = IsImageOf relvar reached inner
IsImageOf relvar reached (postfix operand (project attributes)) = IsImageOf relvar reached operand
IsImageOf relvar reached (postfix operand (rename style renamings)) = IsImageOf relvar reached operand
IsImageOf relvar reached (restriction operand condition) = IsImageOf relvar reached operand × (names_any reached condition ≡ false)
IsImageOf relvar reached (extend operand parts) = IsImageOf relvar reached operand × NameNone reached parts
IsImageOf relvar reached (extend_setting operand settings) = IsImageOf relvar reached operand × NameNone reached settings
IsImageOf relvar reached (binary left op right) =
    (GivesOfFirst op × IsImageOf relvar reached left × (names_any reached right ≡ false))
    ⊎ (GivesOfSecond op × IsImageOf relvar reached right × (names_any reached left ≡ false))
IsImageOf relvar reached _ = ⊥

-- the first is such an image of the relvar, and the second names none of those that are reached
abbrev pub IsImageBeside : List ℕ → List (List ℕ) → Tree → Tree → Type 0
IsImageBeside relvar reached image other = IsImageOf relvar reached image × (names_any reached other ≡ false)

-- the expression asks of each tuple of the relvar: that an image is empty or is included in what stands beside it, or two such
-- questions, of which one may name none of those that are reached
abbrev pub AsksOfTuples : List ℕ → List (List ℕ) → Tree → Type 0
AsksOfTuples relvar reached (parentheses inner) = AsksOfTuples relvar reached inner
AsksOfTuples relvar reached (measure measures.IsEmpty operand) = IsImageOf relvar reached operand
AsksOfTuples relvar reached (compare left comparisons.LessOrEqual right) = IsImageBeside relvar reached left right
AsksOfTuples relvar reached (compare left comparisons.GreaterOrEqual right) = IsImageBeside relvar reached right left
AsksOfTuples relvar reached (binary left operators.And right) =
    (AsksOfTuples relvar reached left ⊎ (names_any reached left ≡ false))
    × (AsksOfTuples relvar reached right ⊎ (names_any reached right ≡ false))
AsksOfTuples relvar reached _ = ⊥

-- the test of such a constraint comes to the same where the relvar's name means the tuples that came in alone
abbrev pub PassesAsAdded : List (List ℕ) → Database → List ℕ × Relation → NamedConstraint → Type 0
PassesAsAdded reached db added c =
    AsksOfTuples added.0 reached c.tree → constraint_check (source_world db added.0 added.1) c ≡ constraint_check (world_of db) c

-- what came into a relvar, by which such constraints may be tested
pub record AreAdditions (reached : List (List ℕ)) (db : Database) (added : List ℕ × Relation) : Type 0 where
  pub gives : GivesValues (source_world db added.0 added.1) (database_scope db)
  pub passes : AllByRecursion (PassesAsAdded reached db added) db.constraints

-- whether no tuple of a relation meets a condition, which has these values
abbrev pub emptiness : (Tuple → Outcome Val) → Relation → Outcome Bool
emptiness f r = truth_value (with_value (restricted_value f r) (measure_value measures.IsEmpty))

-- whether the image of each tuple of a relation passes a test
abbrev pub images_pass : (Tuple → Bool) → (Tuple → Tuple) → Relation → Bool
images_pass test image r = list_all test (map image r.body)

-- ---- what operators give of what came in

-- a relation before a change and after it, and what came in: this is there afterwards, and what is there was there before or came in
pub record IsOfAdditions (before after added : Relation) : Type 0 where
  pub headings : (after.heading ≡ before.heading) × (added.heading ≡ before.heading)
  pub there : (t : Tuple) → IsIn t added → IsIn t after
  pub either : (t : Tuple) → IsIn t after → IsIn t before ⊎ IsIn t added

-- where there was this value before, there are such relations, or the same causes after the change and of what came in
abbrev pub GiveAdditions : Val → Outcome Val → Outcome Val → Type 0
GiveAdditions v (Valued x) (Valued y) =
    (before : Relation) × (after : Relation) × (added : Relation) × (v ≡ relation_value before) × (x ≡ relation_value after)
    × (y ≡ relation_value added) × IsOfAdditions before after added
GiveAdditions v (Refused bs) (Refused cs) = AreOneOutcome (Refused bs) (Refused cs)
GiveAdditions v _ _ = ⊥

-- of such relations the operator gives such relations, or the same causes
abbrev pub KeepsAdditions : (Val → Outcome Val) → Type 0
KeepsAdditions f =
    (before after added : Relation) (v : Val) → IsOfAdditions before after added → f (relation_value before) ≡ Valued v
    → GiveAdditions v (f (relation_value after)) (f (relation_value added))

-- a question that was TRUE before has one answer after the change and of what came in
abbrev pub AsksAdditions : (Val → Outcome Val) → Type 0
AsksAdditions f =
    (before after added : Relation) → IsOfAdditions before after added → f (relation_value before) ≡ Valued (boolean true)
    → AreOneOutcome (f (relation_value after)) (f (relation_value added))

-- ---- laws

-- where no tuple of a relation met the condition before, and its tuples have the same values still, the test comes after a change
-- to what it comes to over what came in
abbrev pub EmptinessIsOfAdditions : Type 0
EmptinessIsOfAdditions =
    (refusal : Refusal) (before after there : Tuple → Outcome Val) (old out add : Relation)
    → ((t : Tuple) → IsIn t old → after t ≡ before t) → ((t : Tuple) → IsIn t add → there t ≡ after t)
    → emptiness before old ≡ Valued true
    → refusal_unless_passed refusal (emptiness after (after_change out add old)) ≡ refusal_unless_passed refusal (emptiness there add)

-- a condition that names nothing which a change of a base relvar reaches has in each tuple of its heading the value that it had, also
-- where the relvar's name means another relation
abbrev pub ConditionsStayInTuples : Type 0
ConditionsStayInTuples =
    (db : Database) (relvar : List ℕ) (base : BaseRelvar) (assigned other : Relation) (condition : Tree) (t : Tuple)
    → IsLegal db → IsTyped (with_all_assigned ((relvar, assigned) ∷ []) db) → base_named relvar db ≡ Some base
    → IsChecked (database_scope db) [] (restriction (name relvar) condition)
    → names_any (reached_from (relvar ∷ []) db.virtuals) condition ≡ false
    → IsTypedTuple db.types t → heading_of t ≡ base.relation.heading
    → (value_of (world_of (with_all_assigned ((relvar, assigned) ∷ []) db)) (t ∷ []) condition ≡ value_of (world_of db) (t ∷ []) condition)
    × (value_of (source_world (with_all_assigned ((relvar, assigned) ∷ []) db) relvar other) (t ∷ []) condition
    ≡ value_of (world_of (with_all_assigned ((relvar, assigned) ∷ []) db)) (t ∷ []) condition)

-- where the image of each tuple of a relation passed a test before, each does after a change exactly where each does of what came in
abbrev pub ImageTestsAreOfAdditions : Type 0
ImageTestsAreOfAdditions =
    (test : Tuple → Bool) (image : Tuple → Tuple) (old out add : Relation) → images_pass test image old ≡ true
    → images_pass test image (after_change out add old) ≡ images_pass test image add

-- an expression that names nothing which a change of a base relvar reaches has the value that it had, or the same causes, also where
-- the relvar's name means another relation
abbrev pub ExpressionsStay : Type 0
ExpressionsStay =
    (db : Database) (relvar : List ℕ) (assigned other : Relation) (e : Tree)
    → IsLegal db → IsTyped (with_all_assigned ((relvar, assigned) ∷ []) db) → IsChecked (database_scope db) [] e
    → names_any (reached_from (relvar ∷ []) db.virtuals) e ≡ false
    → (value_of (world_of (with_all_assigned ((relvar, assigned) ∷ []) db)) [] e ≡ value_of (world_of db) [] e)
    × (value_of (source_world (with_all_assigned ((relvar, assigned) ∷ []) db) relvar other) [] e
    ≡ value_of (world_of (with_all_assigned ((relvar, assigned) ∷ []) db)) [] e)

-- a change of a relation adds what comes in; the operators of images keep that, and the questions are answered by it
pub record OperatorsKeepAdditions : Type 0 where
  pub changed : (old out add : Relation) → add.heading ≡ old.heading → IsOfAdditions old (after_change out add old) add
  pub projected : (attributes : Attributes) → KeepsAdditions (postfix_value (project attributes))
  pub renamed : (style : Style) (renamings : List Renaming) → KeepsAdditions (postfix_value (rename style renamings))
  pub restricted : (p : Tuple → Outcome Val) → KeepsAdditions (λ v. on_relation v (restricted_value p))
  pub extended :
      (types : Heading → Outcome (List Attribute)) (fs : List (Tuple → Outcome Val))
      → KeepsAdditions (λ v. on_relation v (λ r. extended_value (types r.heading) fs r))
  pub set :
      (types : Heading → Outcome (List Attribute)) (fs : List (Tuple → Outcome Val))
      → KeepsAdditions (λ v. on_relation v (λ r. extended_by_settings (types r.heading) fs r))
  pub first : (op : Operator) (other : Val) → GivesOfFirst op → KeepsAdditions (λ v. operator_value op v other)
  pub second : (op : Operator) (other : Val) → GivesOfSecond op → KeepsAdditions (operator_value op other)
  pub emptiness : AsksAdditions (measure_value measures.IsEmpty)
  pub inclusion : (other : Val) → AsksAdditions (λ v. comparison_value comparisons.LessOrEqual v other)
  -- of two questions each has one answer
  pub conjunction :
      (a b c d : Outcome Val) → AreOneOutcome a c → AreOneOutcome b d
      → AreOneOutcome (with_both a b (operator_value operators.And)) (with_both c d (operator_value operators.And))

-- after a change of one base relvar of a legal database, a constraint that asks of each of its tuples is TRUE, FALSE or refused as it
-- is where the relvar's name means the tuples that came in alone
abbrev pub ConstraintsAreTestedByAdditions : Type 0
ConstraintsAreTestedByAdditions =
    (db : Database) (relvar : List ℕ) (c : Change) → IsLegal db → IsTypedChange db (relvar, c) → IsRelation c.add
    → IsTyped (with_all_assigned ((relvar, given_as db relvar c) ∷ []) db) → AreAssigned db ((relvar, given_as db relvar c) ∷ [])
    → AreAdditions (reached_from (relvar ∷ []) db.virtuals) (with_all_assigned ((relvar, given_as db relvar c) ∷ []) db) (relvar, c.add)
