-- What is planned in the tuples of an operand is what is applied to them.
use Rattle.std.proofs.Common.{◌≡◌, ◌∙◌, ℕ, suc, true, List, [], ◌∷◌, ap, append-nil, length, subst, sym}
use Rattle.std.specs.List.{Contains}
use Rattle.std.specs.Prelude.{nat_eq}
use Rattle.std.proofs.lemmas.Bool.{eq-eqb}
use Rattle.td_algebra.proofs.Members.{second_true}
use Rattle.td_check.specs.model.OperatorTypes.{aggregate_type, extended_by, extension_type, over_relation, restriction_type}
use Rattle.td_check.specs.model.Scopes.{Scope, entered_with}
use Rattle.td_check.specs.laws.StaticLaws.{HasMore}
use Rattle.td_check.specs.model.StaticTypes.{named_types, type_of}
use Rattle.td_check.proofs.StaticLaws.{more_changes_no_parts}
use Rattle.td_eval.specs.model.AggregateValues.{aggregated_value, asked_of}
use Rattle.td_eval.specs.model.OperatorValues.{extended_by_settings, extended_value, on_relation, restricted_value}
use Rattle.td_eval.specs.model.TreeValues.{value_of, values_in_tuples}
use Rattle.td_eval.specs.laws.ValueTypes.{IsTypedTuple, KeepsType}
use Rattle.td_eval.specs.laws.UnfailingValues.{GivesValues}
use Rattle.td_eval.specs.model.Worlds.{World, with_tuples}
use Rattle.td_eval.proofs.law_lemmas.AlikeOutcomes.{over_same}
use Rattle.td_eval.proofs.law_lemmas.AlikeRows.{AlikeIn, AreAlikeIn, aggregated_alike, restricted_alike, settings_alike}
use Rattle.td_eval.proofs.law_lemmas.NewSettings.{new_settings_extend}
use Rattle.td_eval.proofs.code_lemmas.TypedRows.{rows_typed}
use Rattle.td_eval.proofs.code_lemmas.TypedTrees.{values_keep_types}
use Rattle.td_plan.specs.code.Narrowing.{Narrows}
use Rattle.td_plan.specs.code.PlannedParts.{ArePlansOfTyped, in_named}
use Rattle.td_plan.proofs.EnteredSlots.{entered_slots}
use Rattle.td_plan.proofs.PlannedAnswers.{parts_typed}
use Rattle.td_plan.specs.code.Plans as plans
use Rattle.td_plan.specs.code.Plans.{PlanTree, PlanTrees, Slots, extension_of, plan_columns, plan_value, with_slot}
use Rattle.td_plan.specs.code.PlansOf.{AreInHand, AreSlotsOf, IsPlanOf, IsPlanOfTyped, outermost}
use Rattle.td_tree.specs.declared.cause.Cause.TheVariants as causes
use Rattle.td_tree.specs.declared.operator.Aggregate.{Aggregate}
use Rattle.td_tree.specs.model.Outcomes.{Outcome, Valued, with_value}
use Rattle.td_tree.specs.model.Trees as trees
use Rattle.td_tree.specs.model.Trees.{NamedTrees, Tree}
use Rattle.td_tree.specs.model.WrittenTrees.{IsWritten, PartsGiveNames, PartsHaveTexts}
use Rattle.td_types.proofs.OutcomeLaws.{value_of_test, value_of_with, valued_is, values_of_both}
use Rattle.td_types.specs.model.Headings.{are_distinct, have_no_common}
use Rattle.td_types.specs.code.TypeCode.{unpack_pack}
use Rattle.td_types.specs.model.Types.{Attribute, Attrs, Heading, Type', attribute_names, pack, unpack}
use Rattle.td_types.specs.model.Types as types
use Rattle.td_value.specs.model.Values.{Relation, Tuple, heading_of}
use Rattle.td_value.specs.code.Views.{values_of}

-- ---- in the tuples of a relation that an operand has as its value

module _ (scope : Scope) (w : World) (s : List Tuple) (slots : Slots) (k : GivesValues w (outermost scope)) (hand : AreInHand scope s) (f : AreSlotsOf s slots) where
  -- a value of the operand's type
  pub kept : (d : Tree) (t : Type') → IsWritten d → type_of scope d ≡ Valued t → KeepsType scope.types (Valued t) (value_of w s d)
  kept d t written is =
      let here : with_tuples (outermost scope) s ≡ scope =
      λ i. record { types = scope.types; relvars = scope.relvars; constraints = scope.constraints; entered = hand.1 i } in
      subst (λ o. KeepsType scope.types o (value_of w s d)) (ap (λ z. type_of z d) here ∙ is)
      (values_keep_types w (outermost scope) s d k.keeps hand.0 written)

  -- more is known in the world
  pub more_there : (h : Heading) → HasMore (entered_with h scope) (entered_with h (with_tuples w.scope s))
  more_there h =
      record { types = k.keeps.types; relvars = ([], k.keeps.known ∙ sym (append-nil scope.relvars)); entered = λ i. h ∷ hand.1 i }

  module _ (r : Relation) (h : Heading) (head : r.heading ≡ h)
      (typed : (u : Tuple) → Contains r.body u → IsTypedTuple scope.types u × (heading_of u ≡ r.heading))
      (slot : ℕ) (next : slot ≡ length scope.entered) where
    pub one_alike : (c : PlanTree) (e : Tree) (t : Type') → IsPlanOfTyped (entered_with h scope) c e → IsWritten e → type_of (entered_with h scope) e ≡ Valued t
        → AlikeIn r (λ u. plan_value w (with_slot slot (values_of u) slots) c) (λ u. value_of w (u ∷ s) e)
    one_alike c e t i written is = λ u b.
        let at = typed u b in
        i written t is w (u ∷ s) (with_slot slot (values_of u) slots) k ((at.0, hand.0), λ j. (at.1 ∙ head) j ∷ hand.1 j)
        (entered_slots scope.entered u s slots slot next hand.1 f)

    pub parts_alike : (ps : PlanTrees) (es : NamedTrees) (xs : List Attribute) → ArePlansOfTyped (entered_with h scope) ps (in_named es)
        → PartsGiveNames es → PartsHaveTexts es → named_types (entered_with h scope) es ≡ Valued xs
        → AreAlikeIn r (plan_columns w slots slot ps) (values_in_tuples w s es)
    parts_alike plans.none trees.none_named xs all n x is = tt
    parts_alike plans.none (trees.more_named m e es) xs all n x is = absurd all
    parts_alike (plans.more p ps) trees.none_named xs all n x is = absurd all
    parts_alike (plans.more p ps) (trees.more_named m e es) xs all n x is =
        let y = values_of_both (type_of (entered_with h scope) e) (named_types (entered_with h scope) es) (λ t attributes. Valued ((m, t) ∷ attributes)) xs is in
        (one_alike p e y.0 all.0 (n.1, x.0) y.2, parts_alike ps es y.1 all.1 n.2 x.1 y.3)

-- the heading of a relation of the operand's type
pub heading_is : (h : Heading) (g : Attrs) (r : Relation) → types.relation (pack h) ≡ types.relation g → r.heading ≡ unpack g → r.heading ≡ h
heading_is h g r e head = let same : pack h ≡ g = cc in head ∙ ap unpack (sym same) ∙ unpack_pack h

-- ---- WHERE and aggregates

module _ (scope : Scope) where
  -- the type of what is applied
  inner_type : (d e : Tree) (h : Heading) (t : Type') (g : Type' → Type' → Outcome Type') → type_of scope d ≡ Valued (types.relation (pack h))
      → with_value (type_of scope d) (λ q. over_relation q (λ i. with_value (type_of (entered_with i scope) e) (g q))) ≡ Valued t
      → (u : Type') × (type_of (entered_with h scope) e ≡ Valued u)
  inner_type d e h t g static is =
      let into = subst (λ o. with_value o (λ q. over_relation q (λ i. with_value (type_of (entered_with i scope) e) (g q))) ≡ Valued t) static is in
      let z = value_of_with (type_of (entered_with (unpack (pack h)) scope) e) (g (types.relation (pack h))) t into in
      (z.0, subst (λ i. type_of (entered_with i scope) e ≡ Valued z.0) (unpack_pack h) z.1)

  -- where the operand's plan narrows it
  pub restriction_planned : (p : PlanTree) (slot : ℕ) (c : PlanTree) (d e : Tree) (h : Heading) → slot ≡ length scope.entered → Narrows scope p d e h
      → type_of scope d ≡ Valued (types.relation (pack h)) → IsPlanOfTyped (entered_with h scope) c e
      → IsPlanOfTyped scope (plans.restriction p slot c) (trees.restriction d e)
  restriction_planned p slot c d e h next i static j = λ written t is w s slots k hand f.
      let u = inner_type d e h t restriction_type static is in
      let inside = λ (t : Tuple). plan_value w (with_slot slot (values_of t) slots) c in
      let narrowed = i written t is w s slots k hand f in
      over_same scope.types (types.relation (pack h)) (plan_value w slots p)
      (restricted_value inside) (restricted_value (λ t. value_of w (t ∷ s) e)) narrowed.kept
      (λ g r same head typed. restricted_alike r inside (λ t. value_of w (t ∷ s) e)
      (one_alike scope w s slots k hand f r h (heading_is h g r same head) (rows_typed scope.types r typed) slot next c e u.0 j
      (written.0.1, written.1.1) u.1))
      ∙ narrowed.same

  pub aggregation_planned : (op : Aggregate) (p : PlanTree) (slot : ℕ) (c : PlanTree) (d e : Tree) (h : Heading) → slot ≡ length scope.entered
      → IsPlanOfTyped scope p d → type_of scope d ≡ Valued (types.relation (pack h)) → IsPlanOfTyped (entered_with h scope) c e
      → IsPlanOfTyped scope (plans.aggregate op p slot c) (trees.aggregate op d e)
  aggregation_planned op p slot c d e h next i static j = λ written t is w s slots k hand f.
      let u = inner_type d e h t (λ q. aggregate_type op) static is in
      let inside = λ (t : Tuple). plan_value w (with_slot slot (values_of t) slots) c in
      ap (λ o. with_value o (λ v. on_relation v (aggregated_value (asked_of op) inside)))
      (i (written.0.0, written.1.0) (types.relation (pack h)) static w s slots k hand f)
      ∙ over_same scope.types (types.relation (pack h)) (value_of w s d)
      (aggregated_value (asked_of op) inside) (aggregated_value (asked_of op) (λ t. value_of w (t ∷ s) e))
      (kept scope w s slots k hand f d (types.relation (pack h)) (written.0.0, written.1.0) static)
      (λ g r same head typed. aggregated_alike r (asked_of op) inside (λ t. value_of w (t ∷ s) e)
      (one_alike scope w s slots k hand f r h (heading_is h g r same head) (rows_typed scope.types r typed) slot next c e u.0 j
      (written.0.1, written.1.1) u.1))

  -- ---- EXTEND

  as_many : (w : World) (slots : Slots) (slot : ℕ) (inner : Scope) (ps : PlanTrees) (es : NamedTrees) (xs : List Attribute)
      → ArePlansOfTyped inner ps (in_named es) → named_types inner es ≡ Valued xs → length xs ≡ length (plan_columns w slots slot ps)
  as_many w slots slot inner plans.none trees.none_named xs all is = ap length (sym (valued_is [] xs is))
  as_many w slots slot inner plans.none (trees.more_named m e es) xs all is = absurd all
  as_many w slots slot inner (plans.more p ps) trees.none_named xs all is = absurd all
  as_many w slots slot inner (plans.more p ps) (trees.more_named m e es) xs all is =
      let y = values_of_both (type_of inner e) (named_types inner es) (λ t attributes. Valued ((m, t) ∷ attributes)) xs is in
      ap length (sym (valued_is ((m, y.0) ∷ y.1) xs y.4)) ∙ ap suc (as_many w slots slot inner ps es y.1 all.1 y.3)

  -- the attributes of both spellings, where the operand has the heading
  module _ (d : Tree) (es : NamedTrees) (h : Heading) (static : type_of scope d ≡ Valued (types.relation (pack h)))
      (xs : List Attribute) (known : named_types (entered_with h scope) es ≡ Valued xs) where
    -- they have the same types for each relation of the operand's type
    known_there : (w : World) (s : List Tuple) (slots : Slots) → GivesValues w (outermost scope) → AreInHand scope s → AreSlotsOf s slots
        → (r : Relation) → r.heading ≡ h → named_types (entered_with r.heading (with_tuples w.scope s)) es ≡ Valued xs
    known_there w s slots k hand f r at =
        ap (λ g. named_types (entered_with g (with_tuples w.scope s)) es) at
        ∙ more_changes_no_parts (entered_with h scope) (entered_with h (with_tuples w.scope s)) es xs (more_there scope w s slots k hand f h) known

    -- what plans give as settings
    settings_planned : (p : PlanTree) (slot : ℕ) (cs : PlanTrees) → slot ≡ length scope.entered → IsPlanOfTyped scope p d
        → ArePlansOfTyped (entered_with h scope) cs (in_named es) → IsWritten (trees.extend_setting d es)
        → IsPlanOf scope (plans.extend p xs slot cs) (trees.extend_setting d es)
    settings_planned p slot cs next i all written = λ w s slots k hand f.
        let columns = plan_columns w slots slot cs in
        let many : nat_eq (length xs) (length columns) ≡ true =
        eq-eqb (length xs) (length columns) (as_many w slots slot (entered_with h scope) cs es xs all known) in
        ap (λ o. with_value o (λ v. on_relation v (extension_of xs columns)))
        (i (written.0.0, written.1.0) (types.relation (pack h)) static w s slots k hand f)
        ∙ over_same scope.types (types.relation (pack h)) (value_of w s d) (extension_of xs columns)
        (λ r. extended_by_settings (named_types (entered_with r.heading (with_tuples w.scope s)) es) (values_in_tuples w s es) r)
        (kept scope w s slots k hand f d (types.relation (pack h)) (written.0.0, written.1.0) static)
        (λ g r same head typed.
        let at = heading_is h g r same head in
        let there = known_there w s slots k hand f r at in
        rw many
        (settings_alike r (Valued xs) columns (values_in_tuples w s es)
        (parts_alike scope w s slots k hand f r h at (rows_typed scope.types r typed) slot next cs es xs all written.0.1 written.1.1 known)
        ∙ (λ j. extended_by_settings (sym there j) (values_in_tuples w s es) r)))

    -- what is added to the operand's heading is set
    additions_set : (t : Type') → type_of scope (trees.extend d es) ≡ Valued t → IsWritten (trees.extend d es) → (w : World) (s : List Tuple) (slots : Slots)
        → GivesValues w (outermost scope) → AreInHand scope s → AreSlotsOf s slots
        → value_of w s (trees.extend d es) ≡ value_of w s (trees.extend_setting d es)
    additions_set t is written w s slots k hand f =
        let new = parts_typed scope d h es extension_type t static is in
        let extended = value_of_with (extended_by h new.0) (λ g. Valued (types.relation (pack g))) t new.2 in
        let apart : have_no_common xs h ≡ true =
        ap (λ ys. have_no_common ys h) (valued_is xs new.0 (sym known ∙ new.1))
        ∙ second_true (are_distinct (attribute_names new.0)) (have_no_common new.0 h) (value_of_test _ _ extended.0 causes.Heading extended.1).0 in
        over_same scope.types (types.relation (pack h)) (value_of w s d)
        (λ r. extended_value (named_types (entered_with r.heading (with_tuples w.scope s)) es) (values_in_tuples w s es) r)
        (λ r. extended_by_settings (named_types (entered_with r.heading (with_tuples w.scope s)) es) (values_in_tuples w s es) r)
        (kept scope w s slots k hand f d (types.relation (pack h)) (written.0.0, written.1.0) static)
        (λ g r same head typed.
        let at = heading_is h g r same head in
        let there_typed = named_types (entered_with r.heading (with_tuples w.scope s)) es in
        let there : there_typed ≡ Valued xs = known_there w s slots k hand f r at in
        sym (new_settings_extend there_typed (values_in_tuples w s es) r typed.0 (λ ys same.
        ap (λ zs. have_no_common zs r.heading) (valued_is ys xs (sym same ∙ there)) ∙ ap (have_no_common xs) at ∙ apart)))

  -- a plan of each spelling
  module _ (p : PlanTree) (xs : List Attribute) (slot : ℕ) (cs : PlanTrees) (d : Tree) (es : NamedTrees) (h : Heading) (next : slot ≡ length scope.entered)
      (i : IsPlanOfTyped scope p d) (static : type_of scope d ≡ Valued (types.relation (pack h)))
      (known : named_types (entered_with h scope) es ≡ Valued xs) (all : ArePlansOfTyped (entered_with h scope) cs (in_named es)) where
    pub setting_planned : IsPlanOfTyped scope (plans.extend p xs slot cs) (trees.extend_setting d es)
    setting_planned = λ written t is. settings_planned d es h static xs known p slot cs next i all written

    pub extension_planned : IsPlanOfTyped scope (plans.extend p xs slot cs) (trees.extend d es)
    extension_planned = λ written t is w s slots k hand f.
        settings_planned d es h static xs known p slot cs next i all written w s slots k hand f
        ∙ sym (additions_set d es h static xs known t is written w s slots k hand f)
