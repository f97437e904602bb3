-- The type of an expression in a scope, or the causes for which it has none (Tutorial D's; the causes are this project's
-- own). The causes of all parts count; a node's rule is tested only where its parts have types. A
-- part that stands in an operand's tuples is checked only where that operand is a relation.
use Rattle.std.specs.Prelude.{ℕ, List, [], ◌∷◌, Option, Some, None, if◌then◌else◌}
use Rattle.td_check.specs.model.OperatorTypes.{Item, count_item, aggregate_item, aggregate_type, choice_type, comparison_type, component_type, extension_type, extracted_type, headed_type, known_or, listed_type, measure_type, misfit, mismatch, named_part, operator_type, over_relation, per_heading, postfix_type, prefix_type, selector_type, setting_type, summary_type, tuple_type, restriction_type}
use Rattle.td_check.specs.model.Scopes.{Scope, bound_to, entered_with, innermost, known_relvar}
use Rattle.td_tree.specs.declared.cause.Cause.TheVariants as causes
use Rattle.td_tree.specs.model.Outcomes.{Outcome, Valued, with_value, with_both}
use Rattle.td_tree.specs.model.Trees.{Literal, number, text, truth, table_dee, table_dum, Tree, literal, name, parentheses, prefix, extract, restriction, binary, compare, postfix, select, component, measure, aggregate, relation, headed_relation, tuple, extend, extend_setting, summarize_per, summarize_by, choice, binding, Trees, none, more, NamedTrees, none_named, more_named, Summaries, no_summaries, counted, summed}
use Rattle.td_types.specs.model.Headings.{has_name}
use Rattle.td_types.specs.model.TypeLists.{heading_meant}
use Rattle.td_types.specs.model.Types.{Type', boolean, integer, char, no_attrs, Attribute, Heading, pack}
use Rattle.td_types.specs.model.Types as types

abbrev pub literal_type : Literal → Type'
literal_type (number minus magnitude) = integer
literal_type (text content) = char
literal_type (truth value) = boolean
literal_type table_dee = types.relation no_attrs
literal_type table_dum = types.relation no_attrs

-- a name is the innermost attribute of that name, else a relvar, else NAME_UNKNOWN
abbrev pub name_type : Scope → List ℕ → Outcome Type'
name_type scope n =
    elim (innermost n scope.entered) as (λ _. Outcome Type') [
      | Some t ↦ Valued t
      | None ↦ with_value (known_or causes.NameUnknown (known_relvar scope n)) (λ r. Valued (types.relation (pack r.heading)))
    ]

-- the pair of two types, where both are found; else the causes of both
abbrev pub both_types : Outcome Type' → Outcome Type' → Outcome (Type' × Type')
both_types o p = with_both o p (λ s t. Valued (s, t))

-- the heading of SUMMARIZE's operand with its items, which are checked only where that is a relation
abbrev pub with_items : Type' → (Heading → Outcome (List (List ℕ × Item))) → Outcome (Option (Heading × List (List ℕ × Item)))
with_items (types.relation h) items = with_value (items (types.unpack h)) (λ xs. Valued (Some (types.unpack h, xs)))
with_items t items = Valued None

abbrev mutual
  pub type_of : Scope → Tree → Outcome Type'
  type_of scope (literal l) = Valued (literal_type l)
  type_of scope (name n) = name_type scope n
  type_of scope (parentheses inner) = type_of scope inner
  type_of scope (prefix op operand) = with_value (type_of scope operand) (prefix_type op)
  type_of scope (extract a operand) = with_value (type_of scope operand) (extracted_type a)
  type_of scope (restriction operand condition) =
      with_value (type_of scope operand) (λ s. over_relation s (λ h. with_value (type_of (entered_with h scope) condition) (restriction_type s)))
  type_of scope (binary left op right) = with_both (type_of scope left) (type_of scope right) (operator_type op)
  type_of scope (compare left op right) = with_both (type_of scope left) (type_of scope right) (comparison_type op)
  type_of scope (postfix operand op) = with_value (type_of scope operand) (postfix_type op)
  type_of scope (select ty arguments) = with_value (types_of scope arguments) (selector_type scope.types ty)
  type_of scope (component rest operand) = with_value (type_of scope operand) (component_type scope.types rest)
  type_of scope (measure op operand) = with_value (type_of scope operand) (measure_type op)
  type_of scope (aggregate op operand value) =
      with_value (type_of scope operand) (λ s. over_relation s (λ h. with_value (type_of (entered_with h scope) value) (aggregate_type op)))
  type_of scope (relation elements) = with_value (types_of scope elements) listed_type
  type_of scope (headed_relation heading elements) =
      with_both (heading_meant scope.types heading) (types_of scope elements) headed_type
  type_of scope (tuple parts) = with_value (named_types scope parts) tuple_type
  type_of scope (extend operand parts) =
      with_value (type_of scope operand) (λ s. over_relation s (λ h. with_value (named_types (entered_with h scope) parts) (extension_type h)))
  type_of scope (extend_setting operand settings) =
      with_value (type_of scope operand) (λ s. over_relation s (λ h. with_value (named_types (entered_with h scope) settings) (setting_type h)))
  type_of scope (summarize_per operand per summaries) =
      with_both (with_value (type_of scope operand) (λ s. with_items s (λ h. items_of (entered_with h scope) summaries))) (type_of scope per)
      (λ operand_items t. elim operand_items as (λ _. Outcome Type') [
        | Some both ↦ summary_type (per_heading both.0 t) both.1
        | None ↦ mismatch
      ])
  type_of scope (summarize_by operand by summaries) =
      with_value (with_value (type_of scope operand) (λ s. with_items s (λ h. items_of (entered_with h scope) summaries)))
      (λ operand_items. elim operand_items as (λ _. Outcome Type') [
        | Some both ↦ summary_type (named_part by both.0) both.1
        | None ↦ mismatch
      ])
  type_of scope (choice condition consequent alternative) =
      with_both (type_of scope condition)
      (both_types (type_of scope consequent) (type_of scope alternative))
      (λ c both. choice_type c both.0 both.1)
  type_of scope (binding items result) = type_where_bound [] scope items (λ inner. type_of inner result)

  -- the type of what stands where the values of WITH's items are in scope. An item is checked where those before it are in
  -- scope, and only where they have types and distinct names: a name twice is HEADING
  pub type_where_bound : List (List ℕ) → Scope → NamedTrees → (Scope → Outcome Type') → Outcome Type'
  type_where_bound before scope none_named inside = inside scope
  type_where_bound before scope (more_named n value rest) inside =
      with_value (type_of scope value)
      (λ t. if has_name n before then misfit else type_where_bound (n ∷ before) (bound_to n t scope) rest inside)

  -- the types of expressions, in the order written
  pub types_of : Scope → Trees → Outcome (List Type')
  types_of scope none = Valued []
  types_of scope (more first rest) = with_both (type_of scope first) (types_of scope rest) (λ t ts. Valued (t ∷ ts))

  -- names with the types of their expressions
  pub named_types : Scope → NamedTrees → Outcome (List Attribute)
  named_types scope none_named = Valued []
  named_types scope (more_named n value rest) =
      with_both (type_of scope value) (named_types scope rest) (λ t attributes. Valued ((n, t) ∷ attributes))

  -- what SUMMARIZE adds, with the types of the expressions
  pub items_of : Scope → Summaries → Outcome (List (List ℕ × Item))
  items_of scope no_summaries = Valued []
  items_of scope (counted n rest) = with_value (items_of scope rest) (λ items. Valued ((n, count_item) ∷ items))
  items_of scope (summed op value n rest) =
      with_both (type_of scope value) (items_of scope rest) (λ t items. Valued ((n, aggregate_item op t) ∷ items))
