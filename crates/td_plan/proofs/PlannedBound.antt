-- What is planned where the values of WITH's items are in scope is what has its value there.
use Rattle.std.proofs.Common.{◌≡◌, ◌∙◌, ◌++◌, ℕ, suc, Bool, true, false, List, [], ◌∷◌, ap, append-nil, append_assoc, arith, get_or, drop, length, refl, subst, sym, ◌<◌, ◌≤◌, ◌+◌, if◌then◌else◌}
use Rattle.std.proofs.lemmas.Bool.{lt-ltb}
use Rattle.std.proofs.lemmas.List.{at_drop_more, drop_all, length-map}
use Rattle.td_check.specs.model.OperatorTypes.{misfit, tuple_type}
use Rattle.td_check.specs.model.Scopes.{Scope, bound_to}
use Rattle.td_check.specs.model.StaticTypes.{type_of, type_where_bound}
use Rattle.td_eval.proofs.code_lemmas.TypedValues.{fields_heading, fields_of}
use Rattle.td_eval.specs.model.OperatorValues.{on_tuple, tuple_from}
use Rattle.td_eval.specs.model.TreeValues.{value_of, value_where_bound}
use Rattle.td_eval.specs.laws.UnfailingValues.{GivesValues}
use Rattle.td_eval.specs.laws.ValueTypes.{IsTypedTuple, KeepsType}
use Rattle.td_eval.specs.model.Worlds.{World}
use Rattle.td_plan.proofs.EnteredSlots.{entered_slots}
use Rattle.td_plan.proofs.PlannedTuples.{kept}
use Rattle.td_plan.specs.declared.plan.step.Step.{Step}
use Rattle.td_plan.specs.code.Plans as plans
use Rattle.td_plan.specs.code.Plans.{PlanTree, Slots, plan_value, plan_where_bound, slots_before, with_slot}
use Rattle.td_plan.specs.code.PlansOf.{AreInHand, AreSlotsOf, IsPlanOfTyped, outermost}
use Rattle.td_plan.specs.code.PlannedParts.{AreItemsPlanned}
use Rattle.td_plan.specs.code.StepViews.{step_view, steps_view}
use Rattle.td_tree.specs.declared.expression.NamedExpr.{NamedExpr}
use Rattle.td_tree.specs.code.TreeViews.{named_view, tree_view}
use Rattle.td_tree.specs.model.Outcomes.{Outcome, Valued, Refused, with_both, with_value}
use Rattle.td_tree.specs.model.Trees as trees
use Rattle.td_tree.specs.model.Trees.{NamedTrees, Tree}
use Rattle.td_tree.specs.model.WrittenTrees.{IsWritten, PartsGiveNames, PartsHaveTexts}
use Rattle.td_types.proofs.OutcomeLaws.{value_of_with}
use Rattle.td_types.specs.model.Headings.{has_name}
use Rattle.td_types.specs.model.TypeLists.{DeclaredType}
use Rattle.td_types.specs.model.Types.{Type', pack}
use Rattle.td_types.specs.model.Types as types
use Rattle.td_value.specs.model.KnownValues.{HasHeading}
use Rattle.td_value.specs.model.Values.{Tuple, Val, heading_of, pack_fields}
use Rattle.td_value.specs.model.Values as values
use Rattle.td_value.specs.code.Views.{values_of}

-- ---- one item

-- the tree of the tuple that an item is
abbrev item_tuple : List ℕ → Tree → Tree
item_tuple n e = trees.tuple (trees.more_named n e trees.none_named)

-- it has the type of such a tuple
item_type : (scope : Scope) (n : List ℕ) (e : Tree) (t : Type') → type_of scope e ≡ Valued t
    → type_of scope (item_tuple n e) ≡ Valued (types.tuple (pack ((n, t) ∷ [])))
item_type scope n e t is = ap (λ o. with_value (with_both o (Valued []) (λ t attributes. Valued ((n, t) ∷ attributes))) tuple_type) is

-- and a value that is one
typed_item : (ds : List DeclaredType) (n : List ℕ) (t : Type') (v : Val)
    → KeepsType ds (Valued (types.tuple (pack ((n, t) ∷ [])))) (tuple_from ((n, v) ∷ []))
    → IsTypedTuple ds ((n, v) ∷ []) × (heading_of ((n, v) ∷ []) ≡ (n, t) ∷ [])
typed_item ds n t v keeps =
    let fields = pack_fields ((n, v) ∷ []) in
    let found = fields_of ds (pack ((n, t) ∷ [])) (values.tuple fields) keeps.1 in
    let own : found.0 ≡ fields = (let e = found.1 in cc) in
    let headed : HasHeading ds fields (pack ((n, t) ∷ [])) = subst (λ fs. HasHeading ds fs (pack ((n, t) ∷ []))) own found.2 in
    let same : heading_of ((n, v) ∷ []) ≡ (n, t) ∷ [] = fields_heading ds fields (pack ((n, t) ∷ [])) headed in
    ((keeps.0, subst (λ h. HasHeading ds fields (pack h)) (sym same) headed), same)

-- ---- all of them

-- what stands behind an item has a type only where the item has one
pub behind_typed : (before : List (List ℕ)) (scope : Scope) (n : List ℕ) (e : Tree) (es : NamedTrees) (inside : Scope → Outcome Type') (t : Type')
    → type_where_bound before scope (trees.more_named n e es) inside ≡ Valued t
    → (u : Type') × (type_of scope e ≡ Valued u) × (type_where_bound (n ∷ before) (bound_to n u scope) es inside ≡ Valued t)
behind_typed before scope n e es inside t is =
    let y = value_of_with (type_of scope e) (λ u. if has_name n before then misfit else type_where_bound (n ∷ before) (bound_to n u scope) es inside) t is in
    (y.0, y.1, by_test (has_name n before) y.0 y.2)
  where
    by_test : (b : Bool) (u : Type') → (if b then misfit else type_where_bound (n ∷ before) (bound_to n u scope) es inside) ≡ Valued t
        → type_where_bound (n ∷ before) (bound_to n u scope) es inside ≡ Valued t
    by_test true u h = absurd (cc)
    by_test false u h = h

module _ (w : World) (q : PlanTree) (e : Tree) (last : Scope) (i : IsPlanOfTyped last q e) (written : IsWritten e) (k : GivesValues w (outermost last)) where
  items_alike : (scope : Scope) (ps : List Step) (es : NamedTrees) (before : List (List ℕ)) (t : Type') → outermost scope ≡ outermost last
      → AreItemsPlanned scope ps es last → PartsGiveNames es → PartsHaveTexts es → type_where_bound before scope es (λ inner. type_of inner e) ≡ Valued t
      → (s : List Tuple) (slots : Slots) → AreInHand scope s → AreSlotsOf s slots → (slot : ℕ) → slot ≡ length scope.entered
      → plan_where_bound w slots slot (steps_view ps) (λ inner. plan_value w inner q) ≡ value_where_bound w s es (λ inner. value_of w inner e)
  items_alike scope [] trees.none_named before t same all n x is s slots hand f slot next =
      (subst (λ z. IsPlanOfTyped z q e) all i) written t is w s slots (subst (λ z. GivesValues w z) (sym same) k) hand f
  items_alike scope [] (trees.more_named m d es) before t same all n x is s slots hand f slot next = absurd all
  items_alike scope (p ∷ ps) trees.none_named before t same all n x is s slots hand f slot next = absurd all
  items_alike scope (p ∷ ps) (trees.more_named m d es) before t same all n x is s slots hand f slot next =
      let gives : GivesValues w (outermost scope) = subst (λ z. GivesValues w z) (sym same) k in
      let behind = behind_typed before scope m d es (λ inner. type_of inner e) t is in
      let u = all.0 in
      let own : behind.0 ≡ u = (let a = behind.1 in let b = all.1 in cc) in
      let rest : type_where_bound (m ∷ before) (bound_to m u scope) es (λ inner. type_of inner e) ≡ Valued t =
      subst (λ z. type_where_bound (m ∷ before) (bound_to m z scope) es (λ inner. type_of inner e) ≡ Valued t) own behind.2 in
      let typed = item_type scope m d u all.1 in
      let names : IsWritten (item_tuple m d) = ((n.0, n.1, tt), (x.0, tt)) in
      let planned = all.2 names (types.tuple (pack ((m, u) ∷ []))) typed w s slots gives hand f in
      let keeps = kept scope w s slots gives hand f (item_tuple m d) (types.tuple (pack ((m, u) ∷ []))) names typed in
      by_value (value_of w s d) planned keeps
      (λ v item. items_alike (bound_to m u scope) ps es (m ∷ before) t same all.3 n.2 x.1 rest (((m, v) ∷ []) ∷ s)
      (with_slot slot (values_of ((m, v) ∷ [])) slots) ((item.0, hand.0), λ j. item.1 j ∷ hand.1 j)
      (entered_slots scope.entered ((m, v) ∷ []) s slots slot next hand.1 f) (suc slot) (ap suc next))
    where
      made : Outcome Val → Outcome Val
      made o = with_value (with_both o (Valued []) (λ v entries. Valued ((m, v) ∷ entries))) tuple_from

      by_value : (o : Outcome Val) → plan_value w slots (step_view p) ≡ made o → KeepsType scope.types (Valued (types.tuple (pack ((m, all.0) ∷ [])))) (made o)
          → ((v : Val) → IsTypedTuple scope.types ((m, v) ∷ []) × (heading_of ((m, v) ∷ []) ≡ (m, all.0) ∷ [])
          → plan_where_bound w (with_slot slot (values_of ((m, v) ∷ [])) slots) (suc slot) (steps_view ps) (λ inner. plan_value w inner q)
          ≡ value_where_bound w (((m, v) ∷ []) ∷ s) es (λ inner. value_of w inner e))
          → with_value (plan_value w slots (step_view p))
          (λ v. on_tuple v (λ z. plan_where_bound w (with_slot slot (values_of z) slots) (suc slot) (steps_view ps) (λ inner. plan_value w inner q)))
          ≡ with_value o (λ v. value_where_bound w (((m, v) ∷ []) ∷ s) es (λ inner. value_of w inner e))
      by_value (Refused cs) planned keeps again =
          ap (λ z. with_value z (λ v. on_tuple v (λ z. plan_where_bound w (with_slot slot (values_of z) slots) (suc slot) (steps_view ps) (λ inner. plan_value w inner q)))) planned
      by_value (Valued v) planned keeps again =
          ap (λ z. with_value z (λ v. on_tuple v (λ z. plan_where_bound w (with_slot slot (values_of z) slots) (suc slot) (steps_view ps) (λ inner. plan_value w inner q)))) planned
          ∙ again v (typed_item scope.types m all.0 v keeps)

same_outermost : (scope : Scope) (ps : List Step) (es : NamedTrees) (last : Scope) → AreItemsPlanned scope ps es last → outermost scope ≡ outermost last
same_outermost scope [] trees.none_named last all = ap outermost (sym all)
same_outermost scope [] (trees.more_named m d es) last all = absurd all
same_outermost scope (p ∷ ps) trees.none_named last all = absurd all
same_outermost scope (p ∷ ps) (trees.more_named m d es) last all = same_outermost (bound_to m all.0 scope) ps es last all.3

-- the tuples in scope are in the slots before the next
before_slots : (s : List Tuple) (slot : ℕ) (slots : Slots) → length s ≤ slot → AreSlotsOf s slots → AreSlotsOf s (slots_before slot slots)
before_slots [] slot slots l f = tt
before_slots (t ∷ s) slot slots l f =
    (ap (λ b. if b then slots (length s) else []) (lt-ltb (length s) slot (omega (arith, l))) ∙ f.0, before_slots s slot slots (omega (arith, l)) f.1)

pub bound_planned : (scope : Scope) (slot : ℕ) (ps : List Step) (q : PlanTree) (es : NamedTrees) (e : Tree) (last : Scope) → slot ≡ length scope.entered
    → AreItemsPlanned scope ps es last → IsPlanOfTyped last q e → IsPlanOfTyped scope (plans.bound slot (steps_view ps) q) (trees.binding es e)
bound_planned scope slot ps q es e last next all i = λ written t is w s slots k hand f.
    let same = same_outermost scope ps es last all in
    let count : length s ≡ slot = sym (length-map s heading_of) ∙ ap length hand.1 ∙ sym next in
    items_alike w q e last i (written.0.1, written.1.1) (subst (λ z. GivesValues w z) same k) scope ps es [] t same all written.0.0 written.1.0 is s
    (slots_before slot slots) hand (before_slots s slot slots (omega (arith, count)) f) slot next

-- ---- in a loop over the items

named_here : (xs : List NamedExpr) (i : ℕ) (x : NamedExpr) → i < length xs → x ≡ get_or xs i x
    → named_view (drop i xs) ≡ trees.more_named x.name (tree_view x.value) (named_view (drop (i + 1) xs))
named_here xs i x l is = at_drop_more named_view xs i x l ∙ ap (λ y. named_view (y ∷ drop (i + 1) xs)) (sym is)

-- the steps so far are plans of the items before, where this is the scope behind them
abbrev pub ArePlannedTo : Scope → List NamedExpr → ℕ → List Step → Scope → Type 0
ArePlannedTo scope xs i ps here =
    (qs : List Step) (last : Scope) → AreItemsPlanned here qs (named_view (drop i xs)) last → AreItemsPlanned scope (ps ++ qs) (named_view xs) last

-- what stands behind all items has a type only where it has one there
abbrev pub AreTypedTo : Scope → List NamedExpr → ℕ → Scope → Type 0
AreTypedTo scope xs i here =
    (inside : Scope → Outcome Type') (t : Type') → type_where_bound [] scope (named_view xs) inside ≡ Valued t
    → (before : List (List ℕ)) × (type_where_bound before here (named_view (drop i xs)) inside ≡ Valued t)

module _ (scope : Scope) (xs : List NamedExpr) (i : ℕ) (x : NamedExpr) (l : i < length xs) (is : x ≡ get_or xs i x) (here : Scope) where
  pub planned_to_next : (ps rs : List Step) (p : Step) (u : Type') → rs ≡ ps ++ (p ∷ []) → type_of here (tree_view x.value) ≡ Valued u
      → IsPlanOfTyped here (step_view p) (trees.tuple (trees.more_named x.name (tree_view x.value) trees.none_named))
      → ArePlannedTo scope xs i ps here → ArePlannedTo scope xs (i + 1) rs (bound_to x.name u here)
  planned_to_next ps rs p u pushed typed planned so_far = λ qs last rest.
      subst (λ zs. AreItemsPlanned scope zs (named_view xs) last) (sym (ap (λ zs. zs ++ qs) pushed ∙ append_assoc ps (p ∷ []) qs))
      (so_far (p ∷ qs) last (subst (λ es. AreItemsPlanned here (p ∷ qs) es last) (sym (named_here xs i x l is)) (u, typed, planned, rest)))

  -- the item's type there
  pub typed_here : (inside : Scope → Outcome Type') (t : Type') → type_where_bound [] scope (named_view xs) inside ≡ Valued t → AreTypedTo scope xs i here
      → (u : Type') × (type_of here (tree_view x.value) ≡ Valued u)
  typed_here inside t known so_far =
      let at = so_far inside t known in
      let behind = behind_typed at.0 here x.name (tree_view x.value) (named_view (drop (i + 1) xs)) inside t
      (subst (λ es. type_where_bound at.0 here es inside ≡ Valued t) (named_here xs i x l is) at.1) in
      (behind.0, behind.1)

  pub typed_to_next : (u : Type') → type_of here (tree_view x.value) ≡ Valued u → AreTypedTo scope xs i here → AreTypedTo scope xs (i + 1) (bound_to x.name u here)
  typed_to_next u typed so_far = λ inside t known.
      let at = so_far inside t known in
      let rest = named_view (drop (i + 1) xs) in
      let behind = behind_typed at.0 here x.name (tree_view x.value) rest inside t
      (subst (λ es. type_where_bound at.0 here es inside ≡ Valued t) (named_here xs i x l is) at.1) in
      let own : behind.0 ≡ u = (let a = behind.1 in cc) in
      (x.name ∷ at.0, subst (λ z. type_where_bound (x.name ∷ at.0) (bound_to x.name z here) rest inside ≡ Valued t) own behind.2)

-- once all items are gone through, the steps are plans of them all
pub all_planned : (scope : Scope) (xs : List NamedExpr) (i : ℕ) (ps : List Step) (here : Scope) → length xs ≤ i → ArePlannedTo scope xs i ps here
    → AreItemsPlanned scope ps (named_view xs) here
all_planned scope xs i ps here past so_far =
    subst (λ zs. AreItemsPlanned scope zs (named_view xs) here) (append-nil ps)
    (so_far [] here (subst (λ es. AreItemsPlanned here [] es here) (sym (ap named_view (drop_all i xs past))) refl))
