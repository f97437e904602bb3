-- Plans of the parts of an expression make a plan of it.
use Rattle.std.proofs.Common.{◌≡◌, ◌∙◌, ◌++◌, ℕ, List, ◌∷◌, ap, refl, sym, if◌then◌else◌}
use Rattle.std.specs.List.{zip}
use Rattle.td_check.specs.model.OperatorTypes.{choice_type, comparison_type, component_type, extracted_type, headed_type, listed_type, measure_type, operator_type, postfix_type, prefix_type, selector_type, tuple_type}
use Rattle.td_check.specs.model.Scopes.{Scope}
use Rattle.td_check.specs.model.StaticTypes.{named_types, both_types, type_of, types_of}
use Rattle.td_eval.specs.model.OperatorValues.{headed_value, listed_value, on_truth, tuple_from}
use Rattle.td_eval.specs.model.TreeValues.{argument_values, entry_values}
use Rattle.td_eval.specs.laws.UnfailingValues.{GivesValues}
use Rattle.td_eval.specs.model.Worlds.{World, selector_outcome}
use Rattle.td_plan.specs.code.PlannedParts.{ArePlansOfTyped, in_named, in_trees, names_in}
use Rattle.td_plan.specs.code.OperatorTrees.{dyadic_tree, monadic_tree}
use Rattle.td_plan.specs.code.Plans as plans
use Rattle.td_plan.specs.code.Plans.{PlanTree, PlanTrees, Slots, dyadic_value, monadic_value, plan_value, plan_values}
use Rattle.td_plan.specs.code.PlansOf.{AreInHand, AreSlotsOf, IsPlanOfTyped, outermost}
use Rattle.td_tree.specs.model.Outcomes.{Outcome, Valued, Refused, gathered, with_both, with_value}
use Rattle.td_tree.specs.model.Trees as trees
use Rattle.td_tree.specs.model.Trees.{AttributeTrees, Tree, Trees, NamedTrees}
use Rattle.td_tree.specs.model.WrittenTrees.{GiveNames, HaveTexts, PartsGiveNames, PartsHaveTexts}
use Rattle.td_types.proofs.Meanings.{attributes_later}
use Rattle.td_types.proofs.OutcomeLaws.{value_of_with, values_of_both}
use Rattle.td_types.specs.model.Headings.{made_heading}
use Rattle.td_types.specs.model.TypeLists.{attributes_meant, heading_meant}
use Rattle.td_types.specs.model.Types.{Attribute, Heading, Type'}
use Rattle.td_value.specs.model.Values.{Tuple, Val}

-- ---- outcomes

with_value_twice : {A B C : Type 0} (o : Outcome A) (f : A → Outcome B) (g : B → Outcome C) → with_value (with_value o f) g ≡ with_value o (λ x. with_value (f x) g)
with_value_twice (Valued x) f g = refl
with_value_twice (Refused cs) f g = refl

both_of_known : {A B C : Type 0} (x : A) (o : Outcome B) (f : A → B → Outcome C) → with_value o (f x) ≡ with_both (Valued x) o f
both_of_known x (Valued y) f = refl
both_of_known x (Refused cs) f = refl

module _ (scope : Scope) where
  -- ---- one part

  pub monadic_planned : (op : plans.Monadic) (p : PlanTree) (d : Tree) → IsPlanOfTyped scope p d
      → IsPlanOfTyped scope (plans.monadic op p) (monadic_tree op d)
  monadic_planned (plans.prefix op) p d i = λ written t is w s slots k hand f.
      let y = value_of_with (type_of scope d) (prefix_type op) t is in
      ap (λ o. with_value o (monadic_value w (plans.prefix op))) (i written y.0 y.1 w s slots k hand f)
  monadic_planned (plans.extract n) p d i = λ written t is w s slots k hand f.
      let y = value_of_with (type_of scope d) (extracted_type n) t is in
      ap (λ o. with_value o (monadic_value w (plans.extract n))) (i written y.0 y.1 w s slots k hand f)
  monadic_planned (plans.postfix op) p d i = λ written t is w s slots k hand f.
      let y = value_of_with (type_of scope d) (postfix_type op) t is in
      ap (λ o. with_value o (monadic_value w (plans.postfix op))) (i (written.0.0, written.1) y.0 y.1 w s slots k hand f)
  monadic_planned (plans.component n) p d i = λ written t is w s slots k hand f.
      let y = value_of_with (type_of scope d) (component_type scope.types n) t is in
      ap (λ o. with_value o (monadic_value w (plans.component n))) (i written y.0 y.1 w s slots k hand f)
  monadic_planned (plans.measure op) p d i = λ written t is w s slots k hand f.
      let y = value_of_with (type_of scope d) (measure_type op) t is in
      ap (λ o. with_value o (monadic_value w (plans.measure op))) (i written y.0 y.1 w s slots k hand f)

  -- ---- two parts, and three

  pub dyadic_planned : (op : plans.Dyadic) (p q : PlanTree) (d e : Tree) → IsPlanOfTyped scope p d → IsPlanOfTyped scope q e
      → IsPlanOfTyped scope (plans.dyadic p op q) (dyadic_tree d op e)
  dyadic_planned (plans.operator op) p q d e i j = λ written t is w s slots k hand f.
      let y = values_of_both (type_of scope d) (type_of scope e) (operator_type op) t is in
      let one = i (written.0.0, written.1.0) y.0 y.2 w s slots k hand f in
      let two = j (written.0.1, written.1.1) y.1 y.3 w s slots k hand f in
      λ m. with_both (one m) (two m) (dyadic_value (plans.operator op))
  dyadic_planned (plans.comparison op) p q d e i j = λ written t is w s slots k hand f.
      let y = values_of_both (type_of scope d) (type_of scope e) (comparison_type op) t is in
      let one = i (written.0.0, written.1.0) y.0 y.2 w s slots k hand f in
      let two = j (written.0.1, written.1.1) y.1 y.3 w s slots k hand f in
      λ m. with_both (one m) (two m) (dyadic_value (plans.comparison op))

  pub choice_planned : (p q r : PlanTree) (c d e : Tree) → IsPlanOfTyped scope p c → IsPlanOfTyped scope q d → IsPlanOfTyped scope r e
      → IsPlanOfTyped scope (plans.choice p q r) (trees.choice c d e)
  choice_planned p q r c d e h i j = λ written t is w s slots k hand f.
      let y = values_of_both (type_of scope c) (both_types (type_of scope d) (type_of scope e)) (λ t both. choice_type t both.0 both.1) t is in
      let z = values_of_both (type_of scope d) (type_of scope e) (λ s t. Valued (s, t)) y.1 y.3 in
      let one = h (written.0.0, written.1.0) y.0 y.2 w s slots k hand f in
      let two = i (written.0.1, written.1.1) z.0 z.2 w s slots k hand f in
      let three = j (written.0.2, written.1.2) z.1 z.3 w s slots k hand f in
      λ m. with_value (one m) (λ v. on_truth v (λ b. if b then two m else three m))

  -- ---- lists of parts

  arguments_planned : (ps : PlanTrees) (es : Trees) → ArePlansOfTyped scope ps (in_trees es) → GiveNames es → HaveTexts es → (ts : List Type') → types_of scope es ≡ Valued ts
      → (w : World) (s : List Tuple) (slots : Slots) → GivesValues w (outermost scope) → AreInHand scope s → AreSlotsOf s slots
      → gathered (plan_values w slots ps) ≡ argument_values w s es
  arguments_planned plans.none trees.none all n x ts is w s slots k hand f = refl
  arguments_planned plans.none (trees.more e es) all n x ts is w s slots k hand f = absurd all
  arguments_planned (plans.more p ps) trees.none all n x ts is w s slots k hand f = absurd all
  arguments_planned (plans.more p ps) (trees.more e es) all n x ts is w s slots k hand f =
      let y = values_of_both (type_of scope e) (types_of scope es) (λ t ts. Valued (t ∷ ts)) ts is in
      let one = all.0 (n.0, x.0) y.0 y.2 w s slots k hand f in
      let others = arguments_planned ps es all.1 n.1 x.1 y.1 y.3 w s slots k hand f in
      λ m. with_both (one m) (others m) (λ v vs. Valued (v ∷ vs))

  pub select_planned : (n : List ℕ) (ps : PlanTrees) (es : Trees) → ArePlansOfTyped scope ps (in_trees es)
      → IsPlanOfTyped scope (plans.select (plans.user n) ps) (trees.select n es)
  select_planned n ps es all = λ written t is w s slots k hand f.
      let y = value_of_with (types_of scope es) (selector_type scope.types n) t is in
      ap (λ o. with_value o (selector_outcome w n)) (arguments_planned ps es all written.0 written.1 y.0 y.1 w s slots k hand f)

  pub relation_planned : (ps : PlanTrees) (es : Trees) → ArePlansOfTyped scope ps (in_trees es) → IsPlanOfTyped scope (plans.select plans.relation ps) (trees.relation es)
  relation_planned ps es all = λ written t is w s slots k hand f.
      let y = value_of_with (types_of scope es) listed_type t is in
      ap (λ o. with_value o listed_value) (arguments_planned ps es all written.0 written.1 y.0 y.1 w s slots k hand f)

  pub headed_planned : (heading : AttributeTrees) (h : Heading) (ps : PlanTrees) (es : Trees) → heading_meant scope.types heading ≡ Valued h
      → ArePlansOfTyped scope ps (in_trees es) → IsPlanOfTyped scope (plans.select (plans.headed_relation h) ps) (trees.headed_relation heading es)
  headed_planned heading h ps es means all = λ written t is w s slots k hand f.
      let y = values_of_both (heading_meant scope.types heading) (types_of scope es) headed_type t is in
      let xs = value_of_with (attributes_meant scope.types heading) made_heading h means in
      let later : heading_meant (scope.types ++ k.keeps.types.0) heading ≡ Valued h =
      ap (λ o. with_value o made_heading) (attributes_later scope.types k.keeps.types.0 heading xs.0 xs.1) ∙ xs.2 in
      let there : heading_meant w.scope.types heading ≡ Valued h = ap (λ ds. heading_meant ds heading) k.keeps.types.1 ∙ later in
      ap (λ o. with_value o (headed_value h)) (arguments_planned ps es all written.0.1 written.1 y.1 y.3 w s slots k hand f)
      ∙ both_of_known h (argument_values w s es) headed_value
      ∙ ap (λ o. with_both o (argument_values w s es) headed_value) (sym there)

  -- ---- tuples

  one_more_entry : (n : List ℕ) (names : List (List ℕ)) (o : Outcome Val) (p : Outcome (List Val))
      → with_value (with_both o p (λ v vs. Valued (v ∷ vs))) (λ vs. Valued (zip (n ∷ names) vs))
      ≡ with_both o (with_value p (λ vs. Valued (zip names vs))) (λ v entries. Valued ((n, v) ∷ entries))
  one_more_entry n names (Valued v) (Valued vs) = refl
  one_more_entry n names (Valued v) (Refused ds) = refl
  one_more_entry n names (Refused cs) (Valued vs) = refl
  one_more_entry n names (Refused cs) (Refused ds) = refl

  entries_planned : (ps : PlanTrees) (es : NamedTrees) → ArePlansOfTyped scope ps (in_named es) → PartsGiveNames es → PartsHaveTexts es → (xs : List Attribute) → named_types scope es ≡ Valued xs
      → (w : World) (s : List Tuple) (slots : Slots) → GivesValues w (outermost scope) → AreInHand scope s → AreSlotsOf s slots
      → with_value (gathered (plan_values w slots ps)) (λ vs. Valued (zip (names_in es) vs)) ≡ entry_values w s es
  entries_planned plans.none trees.none_named all n x xs is w s slots k hand f = refl
  entries_planned plans.none (trees.more_named m e es) all n x xs is w s slots k hand f = absurd all
  entries_planned (plans.more p ps) trees.none_named all n x xs is w s slots k hand f = absurd all
  entries_planned (plans.more p ps) (trees.more_named m e es) all n x xs is w s slots k hand f =
      let y = values_of_both (type_of scope e) (named_types scope es) (λ t attributes. Valued ((m, t) ∷ attributes)) xs is in
      let one = all.0 (n.1, x.0) y.0 y.2 w s slots k hand f in
      let others = entries_planned ps es all.1 n.2 x.1 y.1 y.3 w s slots k hand f in
      one_more_entry m (names_in es) (plan_value w slots p) (gathered (plan_values w slots ps))
      ∙ (λ i. with_both (one i) (others i) (λ v entries. Valued ((m, v) ∷ entries)))

  pub tuple_planned : (names : List (List ℕ)) (ps : PlanTrees) (es : NamedTrees) → names ≡ names_in es → ArePlansOfTyped scope ps (in_named es)
      → IsPlanOfTyped scope (plans.select (plans.tuple names) ps) (trees.tuple es)
  tuple_planned names ps es same all = λ written t is w s slots k hand f.
      let y = value_of_with (named_types scope es) tuple_type t is in
      (λ i. with_value (gathered (plan_values w slots ps)) (λ vs. tuple_from (zip (same i) vs)))
      ∙ sym (with_value_twice (gathered (plan_values w slots ps)) (λ vs. Valued (zip (names_in es) vs)) tuple_from)
      ∙ ap (λ o. with_value o tuple_from) (entries_planned ps es all written.0 written.1 y.0 y.1 w s slots k hand f)
