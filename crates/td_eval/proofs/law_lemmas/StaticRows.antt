-- What is applied to the tuples of a relation: a value, or a cause that no evaluation has, where it is so in each tuple.
use Rattle.std.proofs.Common.{◌≡◌, ◌∙◌, Contains, List, [], ◌∷◌, ap, fold, map, not, refl, subst, sym}
use Rattle.std.specs.List.{AllByRecursion, list_all}
use Rattle.std.specs.Prelude.{◌&&◌}
use Rattle.td_algebra.specs.model.Operators.{extended_relation, restriction, set_relation}
use Rattle.td_check.specs.model.Mentions.{in_tuples}
use Rattle.td_check.specs.model.OperatorTypes.{extended_by, over_relation, same_type, set_heading}
use Rattle.td_check.specs.model.Scopes.{Scope, entered_with}
use Rattle.td_eval.specs.model.AggregateValues.{group_values, summarized_value, summary_in, summary_value}
use Rattle.td_eval.specs.model.OperatorValues.{additions_of, columns_values, extended_by_settings, extended_value, is_true, of_relation, on_relation, on_truth, restricted_value, set_value, truth_value, value_of_type}
use Rattle.td_eval.specs.laws.ValueTypes.{IsOfType, KeepsType}
use Rattle.td_eval.proofs.code_lemmas.TypedRows.{parts_typed}
use Rattle.td_group.specs.model.Groups.{groups}
use Rattle.td_eval.proofs.law_lemmas.StaticOutcomes.{IsStatic, gathered_static, list_static, relations_static, test_static, truth_static, with_static}
use Rattle.td_tree.specs.declared.cause.Cause.TheVariants as causes
use Rattle.td_tree.specs.model.Outcomes.{Outcome, Valued, Refused, gathered, value_if, with_value}
use Rattle.td_types.specs.model.Headings.{are_distinct, has_attribute, heading_union, is_part, outside, with_attribute}
use Rattle.td_types.specs.code.TypeCode.{unpack_pack}
use Rattle.td_types.specs.model.TypeLists.{DeclaredType}
use Rattle.td_types.specs.model.Types.{Type', Attribute, Heading, attribute_names, pack, unpack}
use Rattle.td_types.specs.model.Types as types
use Rattle.td_types.proofs.Meanings.{pack_unpack}
use Rattle.td_value.specs.model.Values.{Val, relation, Relation, Tuple, relation_value, type_of, unpack_rows, relation_view}

-- ---- WHERE

pub restricted_static : (p : Tuple → Outcome Val) (r : Relation) → ((u : Tuple) → Contains r.body u → IsStatic (p u)) → IsStatic (restricted_value p r)
restricted_static p r h =
    with_static (gathered (map (λ t. truth_value (p t)) r.body)) (λ truths. of_relation (restriction (λ t. is_true (p t)) r))
    (gathered_static (λ t. truth_value (p t)) r.body
    (λ u c. with_static (p u) (λ v. on_truth v Valued) (h u c) (λ v. truth_static v Valued (λ b. tt))))
    (λ truths. tt)

-- ---- EXTEND and SUMMARIZE

-- each of the parts is such in each of the tuples
abbrev pub AreStaticIn : List Tuple → List (Tuple → Outcome Val) → Type 0
AreStaticIn tuples = AllByRecursion (λ f. (u : Tuple) → Contains tuples u → IsStatic (f u))

columns_static : (attributes : List Attribute) (fs : List (Tuple → Outcome Val)) (tuples : List Tuple) → AreStaticIn tuples fs
    → AllByRecursion (λ (o : Outcome (List Val)). IsStatic o) (columns_values attributes fs tuples)
columns_static [] fs tuples h = tt
columns_static (a ∷ attributes) [] tuples h = tt
columns_static (a ∷ attributes) (f ∷ fs) tuples h = (
  gathered_static (λ u. with_value (f u) (value_of_type a.1)) tuples
      (λ u c. with_static (f u) (value_of_type a.1) (h.0 u c)
      (λ v. test_static (same_type (type_of v) a.1) v causes.TypeMismatch (λ k. k))),
  columns_static attributes fs tuples h.1,
)

pub extension_static : (attributes : List Attribute) (fs : List (Tuple → Outcome Val)) (r : Relation) → AreStaticIn r.body fs
    → IsStatic (extended_value (Valued attributes) fs r)
extension_static attributes fs r h =
    with_static (extended_by r.heading attributes)
    (λ heading. with_value (gathered (columns_values attributes fs r.body)) (λ columns. of_relation (extended_relation (additions_of attributes fs) r)))
    (test_static (are_distinct (attribute_names attributes) && list_all (λ a. not (has_attribute a.0 r.heading)) attributes)
    (fold with_attribute r.heading attributes) causes.Heading (λ k. k))
    (λ heading. with_static (gathered (columns_values attributes fs r.body)) (λ columns. of_relation (extended_relation (additions_of attributes fs) r))
    (list_static (columns_values attributes fs r.body) (columns_static attributes fs r.body h)) (λ columns. tt))

pub setting_static : (attributes : List Attribute) (fs : List (Tuple → Outcome Val)) (r : Relation) → AreStaticIn r.body fs
    → IsStatic (extended_by_settings (Valued attributes) fs r)
setting_static attributes fs r h =
    with_static (set_heading r.heading attributes) (λ heading. with_value (set_value attributes fs r) of_relation)
    (test_static (are_distinct (attribute_names attributes)) (heading_union (outside attributes r.heading) attributes) causes.Heading (λ k. k))
    (λ heading. with_static (set_value attributes fs r) of_relation
    (with_static (gathered (columns_values attributes fs r.body)) (λ columns. Valued (set_relation (additions_of attributes fs) r))
    (list_static (columns_values attributes fs r.body) (columns_static attributes fs r.body h)) (λ columns. tt))
    (λ q. tt))

-- without items
pub summary_static : (v w : Val) → IsStatic (summary_value (λ h. Valued []) [] v w)
summary_static v w =
    relations_static v w (λ r p. summarized_value (Valued []) [] r p)
    (λ r p. with_static (value_if (is_part p.heading r.heading) (groups r p) causes.Heading)
    (λ gs. with_value (gathered (map (group_values gs) [])) (λ values. extended_value (Valued []) (map (summary_in r p) []) p))
    (test_static (is_part p.heading r.heading) (groups r p) causes.Heading (λ k. k))
    (λ gs. extension_static [] [] p tt))

-- ---- operands of a type

module _ (ds : List DeclaredType) where
  -- what follows of an operand that has a value of its type
  pub kept_static : {A : Type 0} (x : Outcome Type') (o : Outcome Val) (t : Type') (f : Val → Outcome A) → KeepsType ds x o → x ≡ Valued t → IsStatic o
      → ((v : Val) → IsOfType ds v t → IsStatic (f v)) → IsStatic (with_value o f)
  kept_static x (Valued v) t f k e s h = h v (subst (λ (y : Outcome Type'). KeepsType ds y (Valued v)) e k)
  kept_static x (Refused cs) t f k e s h = s

  -- what follows of a relation, of its type
  pub rows_static : {A : Type 0} (v : Val) (t : Type') (f : Relation → Outcome A) → IsOfType ds v t
      → ((r : Relation) → t ≡ types.relation (pack r.heading) → IsOfType ds (relation_value r) (types.relation (pack r.heading)) → IsStatic (f r))
      → IsStatic (on_relation v f)
  rows_static (relation h rs) t f q k =
      k (relation_view (unpack h) (unpack_rows rs)) (q.1.0 ∙ ap types.relation (sym (pack_unpack h)))
      (parts_typed ds h rs (subst (IsOfType ds (relation h rs)) q.1.0 q))
  rows_static _ t f q k = (causes.TypeMismatch, refl, λ h. h)

-- where its tuples are in hand
pub in_its_tuples : (scope : Scope) (o : Outcome Type') (t : Type') (h : Heading) → o ≡ Valued t → t ≡ types.relation (pack h)
    → in_tuples scope o ≡ entered_with h scope
in_its_tuples scope o t h e is = ap (in_tuples scope) (e ∙ ap Valued is) ∙ ap (λ g. entered_with g scope) (unpack_pack h)

-- what is asked of its heading
pub over_its_heading : {A : Type 0} (t : Type') (h : Heading) (f : Heading → Outcome A) → t ≡ types.relation (pack h) → over_relation t f ≡ f h
over_its_heading t h f is = ap (λ s. over_relation s f) is ∙ ap f (unpack_pack h)
