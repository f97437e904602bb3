-- When plans stand for the parts of an expression (this project's own).
use Rattle.std.specs.declared.alloc.AllocError.{AllocError}
use Rattle.std.specs.Global.{Box, Vec}
use Rattle.std.specs.Prelude.{◌≡◌, ℕ, true, IfOk, List, [], ◌∷◌, Option, Some, None, Result, ⊤}
use Rattle.td_check.specs.model.Scopes.{Scope, bound_to}
use Rattle.td_check.specs.model.StaticTypes.{type_of}
use Rattle.td_plan.specs.declared.making.planning.NewColumns.{NewColumns}
use Rattle.td_plan.specs.declared.plan.step.Step.{Step}
use Rattle.td_plan.specs.code.Plans.{PlanTrees, none, more}
use Rattle.td_plan.specs.code.PlansOf.{IsPlanOfTyped}
use Rattle.td_plan.specs.code.StepViews.{step_view, steps_view}
use Rattle.td_tree.specs.declared.expression.NamedExpr.{NamedExpr}
use Rattle.td_tree.specs.declared.expression.Summary.{Summary}
use Rattle.td_tree.specs.declared.expression.Summary.TheVariants as summaries
use Rattle.td_tree.specs.model.Outcomes.{Outcome, Valued}
use Rattle.td_tree.specs.code.TreeViews.{tree_view}
use Rattle.td_tree.specs.model.Trees.{Tree, literal, truth}
use Rattle.td_tree.specs.model.Trees as trees
use Rattle.td_types.specs.model.Types.{Attribute, Type'}
use Rattle.td_types.specs.code.Views.{pairs_view}

-- plans of these expressions, one for each
abbrev pub ArePlansOfTyped : Scope → PlanTrees → List Tree → Type 0
ArePlansOfTyped scope none [] = ⊤
ArePlansOfTyped scope none (e ∷ es) = ⊥
ArePlansOfTyped scope (more p ps) [] = ⊥
ArePlansOfTyped scope (more p ps) (e ∷ es) = IsPlanOfTyped scope p e × ArePlansOfTyped scope ps es

-- ---- what planning gives, where there was memory for it

abbrev pub IsPlanned : Scope → Result Step AllocError → Tree → Type 0
IsPlanned scope made d = IfOk made (λ p. IsPlanOfTyped scope (step_view p) d)

-- the step in the box is a plan of the expression, where there was memory for it
abbrev pub IsBoxPlanned : Scope → Result (Box Step) AllocError → Tree → Type 0
IsBoxPlanned scope made d = IfOk made (λ p. IsPlanOfTyped scope (step_view p.value) d)

-- the step is a plan of EXTEND of the operand by these, in either spelling
abbrev pub IsExtensionPlanned : Scope → Result Step AllocError → Tree → trees.NamedTrees → Type 0
IsExtensionPlanned scope made d es = IsPlanned scope made (trees.extend d es) × IsPlanned scope made (trees.extend_setting d es)

abbrev pub ArePlanned : Scope → Result (Vec Step) AllocError → List Tree → Type 0
ArePlanned scope made ds = IfOk made (λ ps. ArePlansOfTyped scope (steps_view ps.items) ds)

-- ---- the expressions in a list

abbrev pub in_trees : trees.Trees → List Tree
in_trees trees.none = []
in_trees (trees.more e es) = e ∷ in_trees es

abbrev pub in_named : trees.NamedTrees → List Tree
in_named trees.none_named = []
in_named (trees.more_named n e es) = e ∷ in_named es

-- COUNT's item counts a term for each tuple
abbrev pub in_summaries : trees.Summaries → List Tree
in_summaries trees.no_summaries = []
in_summaries (trees.counted n rest) = literal (truth true) ∷ in_summaries rest
in_summaries (trees.summed op e n rest) = e ∷ in_summaries rest

-- the expression of a part, and that of an item
abbrev pub part_tree : NamedExpr → Tree
part_tree part = tree_view part.value

abbrev pub item_tree : Summary → Tree
item_tree (summaries.Count name) = literal (truth true)
item_tree (summaries.Of op value name) = tree_view value

-- the names that parts give
abbrev pub names_in : trees.NamedTrees → List (List ℕ)
names_in trees.none_named = []
names_in (trees.more_named n e es) = n ∷ names_in es

-- ---- WITH's items

-- each step is a plan of the tuple that an item is, where the items before it are in scope; the last scope is that behind all
abbrev pub AreItemsPlanned : Scope → List Step → trees.NamedTrees → Scope → Type 0
AreItemsPlanned scope [] trees.none_named last = last ≡ scope
AreItemsPlanned scope [] (trees.more_named n e es) last = ⊥
AreItemsPlanned scope (p ∷ ps) trees.none_named last = ⊥
AreItemsPlanned scope (p ∷ ps) (trees.more_named n e es) last =
    (t : Type') × (type_of scope e ≡ Valued t)
    × IsPlanOfTyped scope (step_view p) (trees.tuple (trees.more_named n e trees.none_named))
    × AreItemsPlanned (bound_to n t scope) ps es last

-- ---- in the tuples of a relation

-- the attributes have these types, and the steps are plans of their values
abbrev pub ArePlannedColumns : Scope → NewColumns → Outcome (List Attribute) → List Tree → Type 0
ArePlannedColumns inner columns types es =
    (types ≡ Valued (pairs_view columns.attributes.items)) × ArePlansOfTyped inner (steps_view columns.values.items) es

-- where there are such types; else none
abbrev pub AreFoundColumns : Scope → Option NewColumns → Outcome (List Attribute) → List Tree → Type 0
AreFoundColumns inner (Some columns) types es = ArePlannedColumns inner columns types es
AreFoundColumns inner None types es = (xs : List Attribute) → types ≡ Valued xs → ⊥
