-- Whether an expression cannot fail: none of its nodes is of a kind that may have no value though its operands have values
-- (this project's own). Arithmetic, counts and sums may leave the range of INTEGER, and a quotient may be by zero; D_UNION may be
-- of relations that overlap, and I_MINUS of one that lacks a tuple of the other; MAX and MIN may be of no tuple; TUPLE FROM may be
-- of none or of several; a virtual relvar is an expression that may do any of this; and a constraint may refuse what is selected.
use Rattle.std.specs.Prelude.{ℕ, Bool, true, false, not, ◌&&◌, ◌||◌, List, Option, Some, None, is_some}
use Rattle.std.specs.List.{list_all}
use Rattle.td_check.specs.declared.scope.Kind.{Kind}
use Rattle.td_check.specs.declared.scope.Kind.TheVariants as kinds
use Rattle.td_check.specs.model.Mentions.{behind_item, in_tuples}
use Rattle.td_check.specs.model.Scopes.{KnownRelvar, Scope, innermost, relvar_in}
use Rattle.td_check.specs.model.StaticTypes.{type_of}
use Rattle.td_tree.specs.declared.operator.Measure.{Measure}
use Rattle.td_tree.specs.declared.operator.Measure.TheVariants as measures
use Rattle.td_tree.specs.declared.operator.Operator.{Operator}
use Rattle.td_tree.specs.declared.operator.Operator.TheVariants as operators
use Rattle.td_tree.specs.declared.operator.Prefix.{Prefix}
use Rattle.td_tree.specs.declared.operator.Prefix.TheVariants as prefixes
use Rattle.td_tree.specs.model.Outcomes.{Outcome, Valued, with_value}
use Rattle.td_tree.specs.model.Trees.{Tree, literal, name, parentheses, prefix, extract, restriction, binary, compare, postfix, select, component, measure, aggregate, relation, headed_relation, tuple, extend, extend_setting, summarize_per, summarize_by, choice, binding, Trees, none, more, NamedTrees, none_named, more_named, Summaries, no_summaries, counted, summed}
use Rattle.td_types.specs.model.TypeLists.{DeclaredType, declared_at}

-- ---- kinds of nodes

-- whether the operator cannot fail: + - * / may, and so may D_UNION and I_MINUS
abbrev pub operator_cannot_fail : Operator → Bool
operator_cannot_fail operators.Or = true
operator_cannot_fail operators.And = true
operator_cannot_fail operators.Union = true
operator_cannot_fail operators.Intersect = true
operator_cannot_fail operators.Minus = true
operator_cannot_fail operators.DisjointUnion = false
operator_cannot_fail operators.IncludedMinus = false
operator_cannot_fail operators.Join = true
operator_cannot_fail operators.Times = true
operator_cannot_fail operators.Compose = true
operator_cannot_fail operators.Matching = true
operator_cannot_fail operators.NotMatching = true
operator_cannot_fail operators.Add = false
operator_cannot_fail operators.Subtract = false
operator_cannot_fail operators.Concatenate = true
operator_cannot_fail operators.Multiply = false
operator_cannot_fail operators.Divide = false

-- prefix - may, whatever its operand is: a literal's minus is a part of the literal, and no node; and TUPLE FROM may
abbrev pub prefix_cannot_fail : Prefix → Bool
prefix_cannot_fail prefixes.Not = true
prefix_cannot_fail prefixes.Negate = false
prefix_cannot_fail prefixes.TransitiveClosure = true
prefix_cannot_fail prefixes.TupleFrom = false

-- whether COUNT or IS_EMPTY cannot fail: COUNT may, as its number may be out of range
abbrev pub measure_cannot_fail : Measure → Bool
measure_cannot_fail measures.Count = false
measure_cannot_fail measures.IsEmpty = true

-- each item that SUMMARIZE adds may: a count, or an aggregate
abbrev pub items_cannot_fail : Summaries → Bool
items_cannot_fail no_summaries = true
items_cannot_fail (counted n rest) = false
items_cannot_fail (summed op value n rest) = false

-- the selector of a type with a declared constraint may
abbrev is_unconstrained : Option DeclaredType → Bool
is_unconstrained None = true
is_unconstrained (Some d) = not (is_some d.constraint)

abbrev pub selector_cannot_fail : List DeclaredType → List ℕ → Bool
selector_cannot_fail types ty = is_unconstrained (declared_at ty types)

-- whether a relvar of the kind cannot fail: a virtual relvar may
abbrev kind_cannot_fail : Kind → Bool
kind_cannot_fail kinds.Base = true
kind_cannot_fail kinds.Virtual = false

abbrev pub is_no_virtual : Option KnownRelvar → Bool
is_no_virtual None = true
is_no_virtual (Some r) = kind_cannot_fail r.kind

abbrev pub relvar_cannot_fail : List KnownRelvar → List ℕ → Bool
relvar_cannot_fail relvars n = is_no_virtual (relvar_in n relvars)

-- whether a name cannot fail: an attribute in scope has it, or a relvar that cannot fail
abbrev pub name_cannot_fail : Scope → List ℕ → Bool
name_cannot_fail scope n = is_some (innermost n scope.entered) || relvar_cannot_fail scope.relvars n

-- ---- expressions

abbrev mutual
  -- each node is tested in its own scope; SUM, MAX, MIN may fail; a heading's type is no selector
  pub cannot_fail : Scope → Tree → Bool
  cannot_fail scope (literal l) = true
  cannot_fail scope (name n) = name_cannot_fail scope n
  cannot_fail scope (parentheses inner) = cannot_fail scope inner
  cannot_fail scope (prefix op operand) = prefix_cannot_fail op && cannot_fail scope operand
  cannot_fail scope (extract a operand) = cannot_fail scope operand
  cannot_fail scope (restriction operand condition) =
      cannot_fail scope operand && cannot_fail (in_tuples scope (type_of scope operand)) condition
  cannot_fail scope (binary left op right) = operator_cannot_fail op && (cannot_fail scope left && cannot_fail scope right)
  cannot_fail scope (compare left op right) = cannot_fail scope left && cannot_fail scope right
  cannot_fail scope (postfix operand op) = cannot_fail scope operand
  cannot_fail scope (select ty arguments) = selector_cannot_fail scope.types ty && all_cannot_fail scope arguments
  cannot_fail scope (component rest operand) = cannot_fail scope operand
  cannot_fail scope (measure op operand) = measure_cannot_fail op && cannot_fail scope operand
  cannot_fail scope (aggregate op operand value) = false
  cannot_fail scope (relation elements) = all_cannot_fail scope elements
  cannot_fail scope (headed_relation heading elements) = all_cannot_fail scope elements
  cannot_fail scope (tuple parts) = parts_cannot_fail scope parts
  cannot_fail scope (extend operand parts) =
      cannot_fail scope operand && parts_cannot_fail (in_tuples scope (type_of scope operand)) parts
  cannot_fail scope (extend_setting operand settings) =
      cannot_fail scope operand && parts_cannot_fail (in_tuples scope (type_of scope operand)) settings
  cannot_fail scope (summarize_per operand per summaries) =
      items_cannot_fail summaries && (cannot_fail scope operand && cannot_fail scope per)
  cannot_fail scope (summarize_by operand by summaries) = items_cannot_fail summaries && cannot_fail scope operand
  cannot_fail scope (choice condition consequent alternative) =
      cannot_fail scope condition && (cannot_fail scope consequent && cannot_fail scope alternative)
  cannot_fail scope (binding items result) = none_fails_where_bound scope items (λ inner. cannot_fail inner result)

  pub all_cannot_fail : Scope → Trees → Bool
  all_cannot_fail scope none = true
  all_cannot_fail scope (more first rest) = cannot_fail scope first && all_cannot_fail scope rest

  pub parts_cannot_fail : Scope → NamedTrees → Bool
  parts_cannot_fail scope none_named = true
  parts_cannot_fail scope (more_named n value rest) = cannot_fail scope value && parts_cannot_fail scope rest

  -- whether none of WITH's items can fail, nor what stands where their values are in scope
  pub none_fails_where_bound : Scope → NamedTrees → (Scope → Bool) → Bool
  none_fails_where_bound scope none_named inside = inside scope
  none_fails_where_bound scope (more_named n value rest) inside =
      cannot_fail scope value && none_fails_where_bound (behind_item n (type_of scope value) scope) rest inside

-- of an expression that has a type; another is refused as its type is
abbrev pub cannot_fail_of : Scope → Tree → Outcome Bool
cannot_fail_of scope e = with_value (type_of scope e) (λ t. Valued (cannot_fail scope e))

-- ---- in two parts, of which the first asks no scope

abbrev mutual
  -- whether evaluation cannot fail, where no name in the expression is a virtual relvar
  pub unfailing : List DeclaredType → Tree → Bool
  unfailing types (literal l) = true
  unfailing types (name n) = true
  unfailing types (parentheses inner) = unfailing types inner
  unfailing types (prefix op operand) = prefix_cannot_fail op && unfailing types operand
  unfailing types (extract a operand) = unfailing types operand
  unfailing types (restriction operand condition) = unfailing types operand && unfailing types condition
  unfailing types (binary left op right) =
      operator_cannot_fail op && (unfailing types left && unfailing types right)
  unfailing types (compare left op right) = unfailing types left && unfailing types right
  unfailing types (postfix operand op) = unfailing types operand
  unfailing types (select ty arguments) = selector_cannot_fail types ty && all_unfailing types arguments
  unfailing types (component rest operand) = unfailing types operand
  unfailing types (measure op operand) = measure_cannot_fail op && unfailing types operand
  unfailing types (aggregate op operand value) = false
  unfailing types (relation elements) = all_unfailing types elements
  unfailing types (headed_relation heading elements) = all_unfailing types elements
  unfailing types (tuple parts) = parts_unfailing types parts
  unfailing types (extend operand parts) = unfailing types operand && parts_unfailing types parts
  unfailing types (extend_setting operand settings) = unfailing types operand && parts_unfailing types settings
  unfailing types (summarize_per operand per summaries) =
      items_cannot_fail summaries && (unfailing types operand && unfailing types per)
  unfailing types (summarize_by operand by summaries) = items_cannot_fail summaries && unfailing types operand
  unfailing types (choice condition consequent alternative) =
      unfailing types condition && (unfailing types consequent && unfailing types alternative)
  unfailing types (binding items result) = parts_unfailing types items && unfailing types result

  pub all_unfailing : List DeclaredType → Trees → Bool
  all_unfailing types none = true
  all_unfailing types (more first rest) = unfailing types first && all_unfailing types rest

  pub parts_unfailing : List DeclaredType → NamedTrees → Bool
  parts_unfailing types none_named = true
  parts_unfailing types (more_named n value rest) = unfailing types value && parts_unfailing types rest

-- whether none of the names is a virtual relvar
abbrev pub relvars_cannot_fail : List KnownRelvar → List (List ℕ) → Bool
relvars_cannot_fail relvars = list_all (relvar_cannot_fail relvars)
