-- What the checker keeps and answers on its way through an expression.
use Rattle.std.specs.Prelude.{ℕ, List, [], ◌∷◌, ◌++◌, map, Option, Some, None, if◌then◌else◌}
use Rattle.std.specs.Global.{Vec}
use Rattle.td_check.specs.declared.mentioned.Mentions.{Mentions}
use Rattle.td_check.specs.declared.rules.lists.Item.{Item}
use Rattle.td_check.specs.code.ItemViews.{items_view}
use Rattle.td_check.specs.model.OperatorTypes as own
use Rattle.td_check.specs.code.PlaceViews.{is_bound, within_all}
use Rattle.td_check.specs.model.Scopes.{Scope}
use Rattle.td_check.specs.model.StaticTypes.{type_of}
use Rattle.td_tree.specs.declared.expression.NamedExpr.{NamedExpr}
use Rattle.td_tree.specs.declared.expression.Summary.{Summary}
use Rattle.td_tree.specs.declared.expression.Summary.TheVariants as s
use Rattle.td_tree.specs.model.Outcomes.{Outcome, Valued, with_value}
use Rattle.td_tree.specs.code.TreeViews.{tree_view}
use Rattle.td_tree.specs.model.Trees.{Attributes}
use Rattle.td_types.specs.declared.ty.Ty.{Ty}
use Rattle.td_types.specs.declared.ty.Ty.TheVariants.{Bool, Int, Text, User, Tup, Rel}
use Rattle.td_types.specs.model.Types.{Type', Attribute, Heading}
use Rattle.td_types.specs.code.Views.{type_view}

-- ---- what was mentioned so far

-- names of relvars, and names of types
abbrev pub Names : Type 0
Names = List (List ℕ) × List (List ℕ)

abbrev pub names_view : Mentions → Names
names_view m = (m.relvars.items, m.types.items)

-- these, and then those of a further part
abbrev pub with_names : Names → List (List ℕ) → List (List ℕ) → Names
with_names names relvars types = (names.0 ++ relvars, names.1 ++ types)

-- ---- parts of an expression

abbrev pub types_view : Ty × Ty → Type' × Type'
types_view both = (type_view both.0, type_view both.1)

-- a name with the type of its expression
abbrev pub part_found : Scope → NamedExpr → Outcome Attribute
part_found scope part = with_value (type_of scope (tree_view part.value)) (λ t. Valued (part.name, t))

-- the heading of the one attribute that an item of WITH is, where the items before it are such headings
abbrev pub bound_found : List Heading → Scope → NamedExpr → Outcome Heading
bound_found bounds scope item =
    with_value (type_of (within_all bounds scope) (tree_view item.value))
    (λ t. if is_bound item.name bounds then own.misfit else Valued ((item.name, t) ∷ []))

-- those that all items are, behind such headings
abbrev pub bounds_found : List Heading → Scope → List NamedExpr → Outcome (List Heading)
bounds_found bounds scope [] = Valued bounds
bounds_found bounds scope (item ∷ items) =
    with_value (bound_found bounds scope item) (λ h. bounds_found (bounds ++ (h ∷ [])) scope items)

-- an item of SUMMARIZE with the type of its expression
abbrev pub item_found : Scope → Summary → Outcome (List ℕ × own.Item)
item_found scope (s.Count name) = Valued (name, own.count_item)
item_found scope (s.Of op value name) = with_value (type_of scope (tree_view value)) (λ t. Valued (name, own.aggregate_item op t))

-- the heading of SUMMARIZE's operand with its items
abbrev pub Added : Type 0
Added = Heading × List (List ℕ × own.Item)

-- the heading and the items, where SUMMARIZE's operand is a relation
abbrev pub added_view : Ty × Vec (List ℕ × Item) → Option Added
added_view (Bool, items) = None
added_view (Int, items) = None
added_view (Text, items) = None
added_view (User name, items) = None
added_view (Tup heading, items) = None
added_view (Rel heading, items) = Some (heading, items_view items.items)

abbrev pub headed_view : Heading × Vec Ty → Heading × List Type'
headed_view parts = (parts.0, map type_view parts.1.items)

abbrev pub three_types_view : Ty × (Ty × Ty) → Type' × (Type' × Type')
three_types_view parts = (type_view parts.0, types_view parts.1)

abbrev pub per_view : (Ty × Vec (List ℕ × Item)) × Ty → Option Added × Type'
per_view parts = (added_view parts.0, type_view parts.1)

-- ---- what they give together

abbrev pub choice_of : Type' × (Type' × Type') → Outcome Type'
choice_of parts = own.choice_type parts.0 parts.1.0 parts.1.1

abbrev pub per_summary : Option Added × Type' → Outcome Type'
per_summary (Some added, t) = own.summary_type (own.per_heading added.0 t) added.1
per_summary (None, t) = own.mismatch

abbrev pub by_summary : Attributes → Option Added → Outcome Type'
by_summary by (Some added) = own.summary_type (own.named_part by added.0) added.1
by_summary by None = own.mismatch
