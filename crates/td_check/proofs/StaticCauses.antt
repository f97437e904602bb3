-- Types, expressions and statements are refused by their own causes alone.
use Rattle.std.proofs.Common.{◌∷◌, Bool, true, false, ℕ, List, [], fold, Option, Some, None}
use Rattle.std.specs.Prelude.{⊤, if◌then◌else◌}
use Rattle.td_check.specs.declared.scope.Kind.{Kind}
use Rattle.td_check.specs.declared.scope.Kind.TheVariants as kinds
use Rattle.td_check.specs.model.OperatorTypes.{over_relation}
use Rattle.td_check.specs.model.Scopes.{KnownRelvar, Scope, entered_with, known_relvar}
use Rattle.td_check.specs.model.StatementTypes.{assignment_checked, both_hold, condition_fits, constraint_fits, components_meant, has_key, holds_or, in_target, init_fits, is_target, keys_allowed, keys_asked, relation_fits, setting_fits, settings_fit, source_fits, statement_checked, type_if_given, type_rank_fits}
use Rattle.td_check.specs.laws.StaticCauses.{CausesAreStatic, IsExpressionCause, IsRefusedOnlyBy, IsStatementCause, IsTypeCause}
use Rattle.td_check.specs.model.StaticTypes.{named_types, type_of}
use Rattle.td_check.proofs.ExpressionCauses.{attributes_refused, expression_refused, heading_refused, parts_refused, type_refused}
use Rattle.td_check.proofs.Refusals.{by_both, by_each, by_known, by_one, by_relation, by_test, by_value}
use Rattle.td_tree.specs.declared.cause.Cause.{Cause}
use Rattle.td_tree.specs.declared.cause.Cause.TheVariants as causes
use Rattle.td_tree.specs.model.Outcomes.{Outcome, Valued, Refused, Only}
use Rattle.td_tree.specs.model.Trees.{Assignment, assign, insert, disjoint_insert, delete, included_delete, update, AttributeTrees, Tree, Statement, empty, define_type, drop_type, define_base, define_virtual, drop_var, define_constraint, drop_constraint, assign_all, begin_transaction, commit, rollback, write, dump}
use Rattle.td_types.specs.model.TypeLists.{DeclaredType, attributes_meant, greatest_rank, heading_meant, limited_rank, rank_of, rank_over, user_ranks, with_rank}
use Rattle.td_types.specs.model.Types.{Attribute, Attrs, Heading, Type', attr, no_attrs, pack, same_name, type_at}
use Rattle.td_types.specs.model.Types as types

-- ---- every statement

expression_in : (e : Tree) (s : Scope) → IsRefusedOnlyBy IsStatementCause (type_of s e)
expression_in = expression_refused IsStatementCause tt tt tt

abbrev IsAllowed : Outcome ⊤ → Type 0
IsAllowed = IsRefusedOnlyBy IsStatementCause

both_allowed : (o p : Outcome ⊤) → IsAllowed o → IsAllowed p → IsAllowed (both_hold o p)
both_allowed o p h k = by_both IsStatementCause o p _ h k (λ _ _. tt)

relation_allowed : (t : Type') (f : Heading → Outcome ⊤) → ((h : Heading) → IsAllowed (f h)) → IsAllowed (over_relation t f)
relation_allowed t f p = by_relation IsStatementCause tt t f p

keys_allowed_by : (h : Heading) (keys : List (List (List ℕ))) → IsAllowed (keys_asked h keys)
keys_allowed_by h keys = by_test IsStatementCause (keys_allowed h keys) tt causes.KeyDeclaration tt

key_allowed : (keys : List (List (List ℕ))) → IsAllowed (has_key keys)
key_allowed [] = by_one IsStatementCause causes.KeyDeclaration tt
key_allowed (key ∷ keys) = tt

-- a rank is refused where a user type is not declared
module _ (ranks : List ℕ → Outcome ℕ) (known : (n : List ℕ) → IsRefusedOnlyBy IsStatementCause (ranks n)) where
  mutual
    rank_refused : (t : Type') → IsRefusedOnlyBy IsStatementCause (rank_over ranks t)
    rank_refused types.boolean = tt
    rank_refused types.integer = tt
    rank_refused types.char = tt
    rank_refused (types.user n) = known n
    rank_refused (types.tuple xs) = by_value IsStatementCause (greatest_rank ranks xs) _ (greatest_refused xs) (λ greatest. tt)
    rank_refused (types.relation xs) = by_value IsStatementCause (greatest_rank ranks xs) _ (greatest_refused xs) (λ greatest. tt)

    greatest_refused : (xs : Attrs) → IsRefusedOnlyBy IsStatementCause (greatest_rank ranks xs)
    greatest_refused no_attrs = tt
    greatest_refused (attr n t rest) =
        by_both IsStatementCause (rank_over ranks t) (greatest_rank ranks rest) _ (rank_refused t) (greatest_refused rest) (λ m greatest. tt)

  one_ranked : (d : DeclaredType) (n : List ℕ) → IsRefusedOnlyBy IsStatementCause (with_rank ranks d n)
  one_ranked d n = by_name (same_name d.name n)
    where
      by_name : (b : Bool) → IsRefusedOnlyBy IsStatementCause (if b then rank_over ranks (types.tuple (pack d.components)) else ranks n)
      by_name true = rank_refused (types.tuple (pack d.components))
      by_name false = known n

all_ranked : (ds : List DeclaredType) (ranks : List ℕ → Outcome ℕ) → ((n : List ℕ) → IsRefusedOnlyBy IsStatementCause (ranks n))
    → (n : List ℕ) → IsRefusedOnlyBy IsStatementCause (fold with_rank ranks ds n)
all_ranked [] ranks known n = known n
all_ranked (d ∷ ds) ranks known n = all_ranked ds (with_rank ranks d) (one_ranked ranks known d) n

rank_allowed : (ds : List DeclaredType) (t : Type') → IsAllowed (type_rank_fits ds t)
rank_allowed ds t =
    by_value IsStatementCause (limited_rank ds t) _
    (by_value IsStatementCause (rank_of ds t) _
    (rank_refused (user_ranks ds) (all_ranked ds _ (λ n. by_one IsStatementCause causes.NameUnknown tt)) t)
    (λ rank. by_test IsStatementCause _ rank causes.Rank tt))
    (λ _. tt)

-- ---- definitions

constraint_allowed : (scope : Scope) (components : List Attribute) (constraint : Option Tree) → IsAllowed (constraint_fits scope components constraint)
constraint_allowed scope components None = tt
constraint_allowed scope components (Some e) = by_value IsStatementCause _ _ (expression_in e _) (λ t. by_test IsStatementCause _ tt causes.TypeMismatch tt)

fits_allowed : (h : Heading) (t : Type') → IsAllowed (relation_fits h t)
fits_allowed h t = relation_allowed t _ (λ g. by_test IsStatementCause _ tt causes.Heading tt)

init_allowed : (h : Heading) (t : Option Type') → IsAllowed (init_fits h t)
init_allowed h None = tt
init_allowed h (Some t) = fits_allowed h t

given_typed : (scope : Scope) (e : Option Tree) → IsRefusedOnlyBy IsStatementCause (type_if_given scope e)
given_typed scope None = tt
given_typed scope (Some e) = by_value IsStatementCause (type_of scope e) _ (expression_in e scope) (λ t. tt)

components_allowed : (ds : List DeclaredType) (components : AttributeTrees) → IsRefusedOnlyBy IsStatementCause (components_meant ds components)
components_allowed ds components =
    by_value IsStatementCause (attributes_meant ds components) _ (attributes_refused IsStatementCause tt tt ds components)
    (λ xs. by_test IsStatementCause _ xs causes.Heading tt)

-- ---- assignments

target_allowed : (r : Option KnownRelvar) → IsAllowed (is_target r)
target_allowed None = by_one IsStatementCause causes.NameUnknown tt
target_allowed (Some r) = by_kind r.kind
  where
    by_kind : (k : Kind) → IsAllowed (elim k as (λ _. Outcome ⊤) [ kinds.Base ↦ Valued tt | kinds.Virtual ↦ Refused (Only causes.NotAssignable) ])
    by_kind kinds.Base = tt
    by_kind kinds.Virtual = by_one IsStatementCause causes.NotAssignable tt

source_allowed : (r : Option KnownRelvar) (t : Type') → IsAllowed (source_fits r t)
source_allowed None t = relation_allowed t _ (λ g. tt)
source_allowed (Some r) t = fits_allowed r.heading t

condition_allowed : (t : Option Type') → IsAllowed (condition_fits t)
condition_allowed None = tt
condition_allowed (Some t) = by_test IsStatementCause _ tt causes.TypeMismatch tt

setting_allowed : (h : Heading) (setting : Attribute) → IsAllowed (setting_fits h setting)
setting_allowed h setting =
    by_value IsStatementCause _ _ (by_known IsStatementCause causes.Heading (type_at setting.0 h) tt)
    (λ t. by_test IsStatementCause _ tt causes.TypeMismatch tt)

settings_allowed : (h : Heading) (settings : List Attribute) → IsAllowed (settings_fit h settings)
settings_allowed h settings =
    both_allowed _ _ (by_test IsStatementCause _ tt causes.Heading tt)
    (by_value IsStatementCause _ _ (by_each IsStatementCause (setting_fits h) settings (setting_allowed h)) (λ _. tt))

target_then : (scope : Scope) (r : Option KnownRelvar) (f : Scope → Heading → Outcome ⊤) → ((inside : Scope) (h : Heading) → IsAllowed (f inside h))
    → IsAllowed (in_target scope r f)
target_then scope None f p = tt
target_then scope (Some r) f p = p (entered_with r.heading scope) r.heading

assignment_allowed : (scope : Scope) (a : Assignment) → IsAllowed (assignment_checked scope a)
assignment_allowed scope (assign target source) =
    both_allowed _ _ (target_allowed (known_relvar scope target))
    (by_value IsStatementCause (type_of scope source) _ (expression_in source scope) (source_allowed (known_relvar scope target)))
assignment_allowed scope (insert target source) =
    both_allowed _ _ (target_allowed (known_relvar scope target))
    (by_value IsStatementCause (type_of scope source) _ (expression_in source scope) (source_allowed (known_relvar scope target)))
assignment_allowed scope (disjoint_insert target source) =
    both_allowed _ _ (target_allowed (known_relvar scope target))
    (by_value IsStatementCause (type_of scope source) _ (expression_in source scope) (source_allowed (known_relvar scope target)))
assignment_allowed scope (delete target condition) =
    both_allowed _ _ (target_allowed (known_relvar scope target))
    (target_then scope (known_relvar scope target) _
    (λ inside h. by_value IsStatementCause (type_if_given inside condition) condition_fits (given_typed inside condition) condition_allowed))
assignment_allowed scope (included_delete target source) =
    both_allowed _ _ (target_allowed (known_relvar scope target))
    (by_value IsStatementCause (type_of scope source) _ (expression_in source scope) (source_allowed (known_relvar scope target)))
assignment_allowed scope (update style target condition settings) =
    both_allowed _ _ (target_allowed (known_relvar scope target))
    (target_then scope (known_relvar scope target) _
    (λ inside h. by_both IsStatementCause (type_if_given inside condition) (named_types inside settings) _ (given_typed inside condition)
    (parts_refused IsStatementCause tt tt tt settings inside)
    (λ c values. both_allowed _ _ (condition_allowed c) (settings_allowed h values))))

-- ---- statements

name_is : (test : Bool) (c : Cause) → IsStatementCause c → IsAllowed (holds_or c test)
name_is test c p = by_test IsStatementCause test tt c p

statement_allowed : (scope : Scope) (s : Statement) → IsAllowed (statement_checked scope s)
statement_allowed scope empty = tt
statement_allowed scope (define_type n components constraint) =
    both_allowed _ _ (name_is _ causes.NameTaken tt)
    (by_value IsStatementCause _ _ (components_allowed scope.types components)
    (λ xs. both_allowed _ _ (constraint_allowed scope xs constraint) (rank_allowed scope.types (types.tuple (pack xs)))))
statement_allowed scope (drop_type n) = name_is _ causes.NameUnknown tt
statement_allowed scope (define_base n heading init keys) =
    both_allowed _ _ (name_is _ causes.NameTaken tt)
    (by_both IsStatementCause (heading_meant scope.types heading) (type_if_given scope init) _
    (heading_refused IsStatementCause tt tt scope.types heading) (given_typed scope init)
    (λ h t. both_allowed _ _ (init_allowed h t)
    (both_allowed _ _ (both_allowed _ _ (key_allowed keys) (keys_allowed_by h keys)) (rank_allowed scope.types (types.relation (pack h))))))
statement_allowed scope (define_virtual n expression keys) =
    both_allowed _ _ (name_is _ causes.NameTaken tt)
    (by_value IsStatementCause (type_of scope expression) _ (expression_in expression scope)
    (λ t. relation_allowed t _ (λ h. both_allowed _ _ (keys_allowed_by h keys) (rank_allowed scope.types (types.relation (pack h))))))
statement_allowed scope (drop_var n) = name_is _ causes.NameUnknown tt
statement_allowed scope (define_constraint n condition) =
    both_allowed _ _ (name_is _ causes.NameTaken tt)
    (by_value IsStatementCause (type_of scope condition) _ (expression_in condition scope) (λ t. by_test IsStatementCause _ tt causes.TypeMismatch tt))
statement_allowed scope (drop_constraint n) = name_is _ causes.NameUnknown tt
statement_allowed scope (assign_all assignments) =
    by_value IsStatementCause _ _ (by_each IsStatementCause (assignment_checked scope) assignments (assignment_allowed scope)) (λ _. tt)
statement_allowed scope begin_transaction = tt
statement_allowed scope commit = tt
statement_allowed scope rollback = tt
statement_allowed scope (write expression) = by_value IsStatementCause (type_of scope expression) _ (expression_in expression scope) (λ _. tt)
statement_allowed scope dump = tt

pub causes_are_static : CausesAreStatic
causes_are_static = record {
  types = λ ds tree. type_refused IsTypeCause tt tt ds tree;
  expressions = λ scope e. expression_refused IsExpressionCause tt tt tt e scope;
  statements = λ scope s. statement_allowed scope s;
}
