-- What is planned for SUMMARIZE is what its items ask of the groups.
use Rattle.std.proofs.Common.{◌≡◌, ◌∙◌, ℕ, suc, true, List, [], ◌∷◌, Option, Some, None, ap, length, map, refl, subst, sym}
use Rattle.std.specs.List.{zip}
use Rattle.std.specs.Prelude.{nat_eq}
use Rattle.std.proofs.lemmas.Bool.{eq-eqb}
use Rattle.td_check.specs.model.OperatorTypes.{aggregate_type, item_type}
use Rattle.td_check.specs.model.Scopes.{Scope, entered_with}
use Rattle.td_check.specs.model.StaticTypes.{items_of, type_of, with_items}
use Rattle.td_check.proofs.SummaryLaws.{HeadingItems, Items}
use Rattle.td_eval.specs.model.AggregateValues.{summarized_value, summary_attributes, summary_value}
use Rattle.td_eval.specs.model.OperatorValues.{on_relation, postfix_value}
use Rattle.td_eval.specs.code.Totals.{asked_by}
use Rattle.td_eval.specs.model.TreeValues.{items_in_tuples, value_of}
use Rattle.td_eval.specs.laws.ValueTypes.{IsOfType, KeepsType}
use Rattle.td_eval.specs.laws.UnfailingValues.{GivesValues}
use Rattle.td_eval.specs.model.Worlds.{World, with_tuples}
use Rattle.td_eval.proofs.law_lemmas.AlikeOutcomes.{both_alike, over_same, with_alike}
use Rattle.td_eval.proofs.law_lemmas.AlikeSummaries.{SummandsAlikeIn, summarized_alike}
use Rattle.td_eval.proofs.code_lemmas.SummaryParts.{attributes_of_items, by_type, more_changes_no_items, per_type}
use Rattle.td_eval.proofs.code_lemmas.TypedRows.{rows_typed}
use Rattle.td_plan.specs.code.PlannedParts.{ArePlansOfTyped, in_summaries}
use Rattle.td_plan.specs.code.Plans as plans
use Rattle.td_plan.specs.code.Plans.{PlanTree, PlanTrees, Slots, plan_columns, summary_of}
use Rattle.td_plan.specs.code.PlansOf.{AreInHand, AreSlotsOf, IsPlanOfTyped, outermost}
use Rattle.td_plan.specs.code.SummaryItems.{aggregates_in}
use Rattle.td_plan.proofs.PlannedTuples.{heading_is, kept, more_there, one_alike}
use Rattle.td_group.specs.declared.aggregates.Agg.{Agg}
use Rattle.td_tree.specs.declared.expression.Summary.{Summary}
use Rattle.td_tree.specs.declared.expression.Summary.TheVariants as summaries
use Rattle.td_tree.specs.model.Outcomes.{Outcome, Valued, gathered, with_both, with_value}
use Rattle.td_tree.specs.code.TreeViews.{summaries_view}
use Rattle.td_tree.specs.model.Trees as trees
use Rattle.td_tree.specs.model.Trees.{Attributes, Summaries, Tree, project}
use Rattle.td_tree.specs.model.WrittenTrees.{IsWritten, ItemsGiveNames, ItemsHaveTexts}
use Rattle.td_types.proofs.Meanings.{pack_unpack}
use Rattle.td_types.proofs.OutcomeLaws.{value_of_with, valued_is, values_of_both}
use Rattle.td_types.specs.code.TypeCode.{unpack_pack}
use Rattle.td_types.specs.model.Types.{Attribute, Heading, Type', boolean, integer, pack, unpack}
use Rattle.td_types.specs.model.Types as types
use Rattle.td_value.specs.model.Values.{Relation, Tuple, Val, relation_value}

-- the aggregates of the items of the code
pub aggregates_are : (xs : List Summary) → aggregates_in (summaries_view xs) ≡ map asked_by xs
aggregates_are [] = refl
aggregates_are (summaries.Count name ∷ xs) = ap (λ gs. asked_by (summaries.Count name) ∷ gs) (aggregates_are xs)
aggregates_are (summaries.Of op value name ∷ xs) = ap (λ gs. asked_by (summaries.Of op value name) ∷ gs) (aggregates_are xs)

-- ---- the types of the items

-- the types in a further tuple, and those of the new attributes
abbrev pub HaveTypes : Scope → Summaries → Type 0
HaveTypes inner items = (xs : Items) × (items_of inner items ≡ Valued xs) × (attributes : List Attribute) × (gathered (map item_type xs) ≡ Valued attributes)

-- the types of the new attributes are those that the summary's rule asks
pub attributes_found : (inner : Scope) (items : Summaries) → HaveTypes inner items → (attributes : List Attribute) × (summary_attributes inner items ≡ Valued attributes)
attributes_found inner items have = (have.2, attributes_of_items inner items have.0 have.1 ∙ have.3)

module _ (scope : Scope) (d : Tree) (h : Heading) (static : type_of scope d ≡ Valued (types.relation (pack h))) (items : Summaries) where
  -- the operand's heading with the items
  items_found : (z : _) → with_value (type_of scope d) (λ s. with_items s (λ g. items_of (entered_with g scope) items)) ≡ Valued z
      → (xs : Items) × (items_of (entered_with h scope) items ≡ Valued xs) × (z ≡ Some (h, xs))
  items_found z e =
      let into = subst (λ o. with_value o (λ s. with_items s (λ g. items_of (entered_with g scope) items)) ≡ Valued z) static e in
      let at = subst (λ g. with_value (items_of (entered_with g scope) items) (λ xs. Valued (Some (g, xs))) ≡ Valued z) (unpack_pack h) into in
      let found = value_of_with (items_of (entered_with h scope) items) (λ xs. Valued (Some (h, xs))) z at in
      (found.0, found.1, sym (valued_is (Some (h, found.0)) z found.2))

  pub per_types : (q : Tree) (t : Type') → type_of scope (trees.summarize_per d q items) ≡ Valued t
      → (u : Type') × (type_of scope q ≡ Valued u) × HaveTypes (entered_with h scope) items
  per_types q t is =
      let both = values_of_both (with_value (type_of scope d) (λ s. with_items s (λ g. items_of (entered_with g scope) items))) (type_of scope q) per_type t is in
      let found = items_found both.0 both.2 in
      let rule = subst (λ z. per_type z both.1 ≡ Valued t) found.2 both.4 in
      let parts = values_of_both _ (gathered (map item_type found.0)) _ t rule in
      (both.1, both.3, (found.0, found.1, parts.1, parts.3))

  pub by_types : (by : Attributes) (t : Type') → type_of scope (trees.summarize_by d by items) ≡ Valued t → HaveTypes (entered_with h scope) items
  by_types by t is =
      let after = value_of_with (with_value (type_of scope d) (λ s. with_items s (λ g. items_of (entered_with g scope) items))) (by_type by) t is in
      let found = items_found after.0 after.1 in
      let rule = subst (λ z. by_type by z ≡ Valued t) found.2 after.2 in
      let parts = values_of_both _ (gathered (map item_type found.0)) _ t rule in
      (found.0, found.1, parts.1, parts.3)

-- ---- what has no type

module _ (scope : Scope) (d : Tree) (items : Summaries) where
  abbrev found_items : Type' → Outcome (Option HeadingItems)
  found_items s = with_items s (λ g. items_of (entered_with g scope) items)

  -- the operand's type is a relation's
  relation_found : (y : HeadingItems) → with_value (type_of scope d) found_items ≡ Valued (Some y)
      → (h : Heading) × (type_of scope d ≡ Valued (types.relation (pack h)))
  relation_found y e = let z = value_of_with (type_of scope d) found_items (Some y) e in of_type z.0 z.1 z.2
    where
      of_type : (s : Type') → type_of scope d ≡ Valued s → found_items s ≡ Valued (Some y)
          → (h : Heading) × (type_of scope d ≡ Valued (types.relation (pack h)))
      of_type (types.relation g) is e = (unpack g, is ∙ ap (λ a. Valued (types.relation a)) (sym (pack_unpack g)))
      of_type types.boolean is e = absurd (cc)
      of_type types.integer is e = absurd (cc)
      of_type types.char is e = absurd (cc)
      of_type (types.user n) is e = absurd (cc)
      of_type (types.tuple g) is e = absurd (cc)

  -- the operand is no relation
  module _ (none : (h : Heading) → type_of scope d ≡ Valued (types.relation (pack h)) → ⊥) where
    pub per_of_none : (q : Tree) (t : Type') → type_of scope (trees.summarize_per d q items) ≡ Valued t → ⊥
    per_of_none q t is =
        let both = values_of_both (with_value (type_of scope d) found_items) (type_of scope q) per_type t is in
        by_found both.0 both.1 t both.2 both.4
      where
        by_found : (z : Option HeadingItems) (u t : Type') → with_value (type_of scope d) found_items ≡ Valued z → per_type z u ≡ Valued t → ⊥
        by_found (Some y) u t e rule = let x = relation_found y e in none x.0 x.1
        by_found None u t e rule = absurd (cc)

    pub by_of_none : (by : Attributes) (t : Type') → type_of scope (trees.summarize_by d by items) ≡ Valued t → ⊥
    by_of_none by t is =
        let after = value_of_with (with_value (type_of scope d) found_items) (by_type by) t is in
        by_found after.0 t after.1 after.2
      where
        by_found : (z : Option HeadingItems) (t : Type') → with_value (type_of scope d) found_items ≡ Valued z → by_type by z ≡ Valued t → ⊥
        by_found (Some y) t e rule = let x = relation_found y e in none x.0 x.1
        by_found None t e rule = absurd (cc)

  -- the items have no types
  module _ (h : Heading) (static : type_of scope d ≡ Valued (types.relation (pack h)))
      (none : (xs : List Attribute) → summary_attributes (entered_with h scope) items ≡ Valued xs → ⊥) where
    pub per_of_refused : (q : Tree) (t : Type') → type_of scope (trees.summarize_per d q items) ≡ Valued t → ⊥
    per_of_refused q t is =
        let found = attributes_found (entered_with h scope) items (per_types scope d h static items q t is).2 in
        none found.0 found.1

    pub by_of_refused : (by : Attributes) (t : Type') → type_of scope (trees.summarize_by d by items) ≡ Valued t → ⊥
    by_of_refused by t is =
        let found = attributes_found (entered_with h scope) items (by_types scope d h static items by t is) in
        none found.0 found.1

-- ---- in a world

module _ (scope : Scope) (w : World) (s : List Tuple) (slots : Slots) (k : GivesValues w (outermost scope)) (hand : AreInHand scope s) (f : AreSlotsOf s slots) where
  module _ (slot : ℕ) (next : slot ≡ length scope.entered) where
    -- there are as many new attributes as items
    as_many_items : (inner : Scope) (ps : PlanTrees) (items : Summaries) (xs : List Attribute) → ArePlansOfTyped inner ps (in_summaries items)
        → summary_attributes inner items ≡ Valued xs → length xs ≡ length (zip (aggregates_in items) (plan_columns w slots slot ps))
    as_many_items inner plans.none trees.no_summaries xs all is = ap length (sym (valued_is [] xs is))
    as_many_items inner plans.none (trees.counted m rest) xs all is = absurd all
    as_many_items inner plans.none (trees.summed op e m rest) xs all is = absurd all
    as_many_items inner (plans.more p ps) trees.no_summaries xs all is = absurd all
    as_many_items inner (plans.more p ps) (trees.counted m rest) xs all is =
        let y = value_of_with (summary_attributes inner rest) (λ attributes. Valued ((m, integer) ∷ attributes)) xs is in
        ap length (sym (valued_is ((m, integer) ∷ y.0) xs y.2)) ∙ ap suc (as_many_items inner ps rest y.0 all.1 y.1)
    as_many_items inner (plans.more p ps) (trees.summed op e m rest) xs all is =
        let y = values_of_both (with_value (type_of inner e) (aggregate_type op)) (summary_attributes inner rest) (λ t attributes. Valued ((m, t) ∷ attributes)) xs is in
        ap length (sym (valued_is ((m, y.0) ∷ y.1) xs y.4)) ∙ ap suc (as_many_items inner ps rest y.1 all.1 y.3)

    -- each item is of the same in the tuples of the operand
    module _ (r : Relation) (h : Heading) (head : r.heading ≡ h) (typed : IsOfType scope.types (relation_value r) (types.relation (pack r.heading))) where
      items_alike : (ps : PlanTrees) (items : Summaries) (xs : List Attribute) → ArePlansOfTyped (entered_with h scope) ps (in_summaries items)
          → ItemsGiveNames items → ItemsHaveTexts items → summary_attributes (entered_with h scope) items ≡ Valued xs
          → SummandsAlikeIn r (zip (aggregates_in items) (plan_columns w slots slot ps)) (items_in_tuples w s items)
      items_alike plans.none trees.no_summaries xs all n x is = tt
      items_alike plans.none (trees.counted m rest) xs all n x is = absurd all
      items_alike plans.none (trees.summed op e m rest) xs all n x is = absurd all
      items_alike (plans.more p ps) trees.no_summaries xs all n x is = absurd all
      items_alike (plans.more p ps) (trees.counted m rest) xs all n x is =
          let y = value_of_with (summary_attributes (entered_with h scope) rest) (λ attributes. Valued ((m, integer) ∷ attributes)) xs is in (
            refl,
            one_alike scope w s slots k hand f r h head (rows_typed scope.types r typed) slot next p (trees.literal (trees.truth true)) boolean all.0 (tt, tt) refl,
            items_alike ps rest y.0 all.1 n.1 x y.1,
          )
      items_alike (plans.more p ps) (trees.summed op e m rest) xs all n x is =
          let y = values_of_both (with_value (type_of (entered_with h scope) e) (aggregate_type op)) (summary_attributes (entered_with h scope) rest)
          (λ t attributes. Valued ((m, t) ∷ attributes)) xs is in
          let z = value_of_with (type_of (entered_with h scope) e) (aggregate_type op) y.0 y.2 in (
            refl,
            one_alike scope w s slots k hand f r h head (rows_typed scope.types r typed) slot next p e z.0 all.0 (n.0, x.0) z.1,
            items_alike ps rest y.1 all.1 n.2 x.1 y.3,
          )

  module _ (d : Tree) (written : IsWritten d) (h : Heading) (static : type_of scope d ≡ Valued (types.relation (pack h))) (items : Summaries)
      (names : ItemsGiveNames items) (texts : ItemsHaveTexts items) (have : HaveTypes (entered_with h scope) items)
      (xs : List Attribute) (known : summary_attributes (entered_with h scope) items ≡ Valued xs)
      (cs : PlanTrees) (all : ArePlansOfTyped (entered_with h scope) cs (in_summaries items)) (slot : ℕ) (next : slot ≡ length scope.entered) where
    -- the new attributes have the same types where more is known
    same_attributes : Valued xs ≡ summary_attributes (entered_with h (with_tuples w.scope s)) items
    same_attributes =
        let there = more_changes_no_items (entered_with h scope) (entered_with h (with_tuples w.scope s)) items have.0 (more_there scope w s slots k hand f h) have.1 in
        sym known ∙ attributes_of_items (entered_with h scope) items have.0 have.1
        ∙ sym (attributes_of_items (entered_with h (with_tuples w.scope s)) items have.0 there)

    -- what is given of the operand's value
    pub summary_alike : (v u : Val) → value_of w s d ≡ Valued v
        → summary_of xs (zip (aggregates_in items) (plan_columns w slots slot cs)) v u
        ≡ summary_value (λ g. summary_attributes (entered_with g (with_tuples w.scope s)) items) (items_in_tuples w s items) v u
    summary_alike v u is =
        let summands = zip (aggregates_in items) (plan_columns w slots slot cs) in
        let many : nat_eq (length xs) (length summands) ≡ true = eq-eqb (length xs) (length summands) (as_many_items slot next (entered_with h scope) cs items xs all known) in
        let keeps = subst (KeepsType scope.types (Valued (types.relation (pack h)))) is (kept scope w s slots k hand f d (types.relation (pack h)) written static) in
        rw many
        (over_same scope.types (types.relation (pack h)) (Valued v)
        (λ r. on_relation u (λ p. summarized_value (Valued xs) summands r p))
        (λ r. on_relation u (λ p. summarized_value (summary_attributes (entered_with r.heading (with_tuples w.scope s)) items) (items_in_tuples w s items) r p))
        keeps
        (λ g r same head typed.
        let at = heading_is h g r same head in
        let one = λ (p : Relation). summarized_alike r p (Valued xs) summands (items_in_tuples w s items)
        (items_alike slot next r h at typed cs items xs all names texts known)
        ∙ (λ j. summarized_value (same_attributes j) (items_in_tuples w s items) r p)
        ∙ (λ j. summarized_value (summary_attributes (entered_with (sym at j) (with_tuples w.scope s)) items) (items_in_tuples w s items) r p) in
        λ j. on_relation u (λ p. one p j)))

-- ---- SUMMARIZE

module _ (scope : Scope) (p : PlanTree) (xs : List Attribute) (gs : List Agg) (slot : ℕ) (cs : PlanTrees) (d : Tree) (items : Summaries) (h : Heading)
    (next : slot ≡ length scope.entered) (i : IsPlanOfTyped scope p d) (static : type_of scope d ≡ Valued (types.relation (pack h)))
    (known : summary_attributes (entered_with h scope) items ≡ Valued xs) (asked : gs ≡ aggregates_in items)
    (all : ArePlansOfTyped (entered_with h scope) cs (in_summaries items)) where
  pub summary_planned : (r : PlanTree) (q : Tree) → IsPlanOfTyped scope r q
      → IsPlanOfTyped scope (plans.summarize_per p r xs gs slot cs) (trees.summarize_per d q items)
  summary_planned r q m = λ written t is w s slots k hand f.
      let found = per_types scope d h static items q t is in
      let own : IsWritten d = (written.0.0, written.1.0) in
      let columns = plan_columns w slots slot cs in
      let summands = zip (aggregates_in items) columns in
      (λ j. with_both (i own (types.relation (pack h)) static w s slots k hand f j)
      (m (written.0.1, written.1.1) found.0 found.1 w s slots k hand f j) (summary_of xs (zip (asked j) columns)))
      ∙ both_alike (value_of w s d) (value_of w s q) (summary_of xs summands)
      (summary_value (λ g. summary_attributes (entered_with g (with_tuples w.scope s)) items) (items_in_tuples w s items))
      (λ v u valued. summary_alike scope w s slots k hand f d own h static items written.0.2 written.1.2 found.2 xs known cs all slot next v u valued)

  pub summary_by_planned : (by : Attributes) → IsPlanOfTyped scope (plans.summarize_by p by xs gs slot cs) (trees.summarize_by d by items)
  summary_by_planned by = λ written t is w s slots k hand f.
      let have = by_types scope d h static items by t is in
      let own : IsWritten d = (written.0.0, written.1.0) in
      let columns = plan_columns w slots slot cs in
      let summands = zip (aggregates_in items) columns in
      let meant = summary_value (λ g. summary_attributes (entered_with g (with_tuples w.scope s)) items) (items_in_tuples w s items) in
      (λ j. with_value (i own (types.relation (pack h)) static w s slots k hand f j)
      (λ v. with_value (postfix_value (project by) v) (summary_of xs (zip (asked j) columns) v)))
      ∙ with_alike (value_of w s d) (λ v. with_value (postfix_value (project by) v) (summary_of xs summands v))
      (λ v. with_value (postfix_value (project by) v) (meant v))
      (λ v valued. with_alike (postfix_value (project by) v) (summary_of xs summands v) (meant v)
      (λ u other. summary_alike scope w s slots k hand f d own h static items written.0.1 written.1.1 have xs known cs all slot next v u valued))
