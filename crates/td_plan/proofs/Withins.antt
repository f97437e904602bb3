-- Which slots plans name.
use Rattle.std.proofs.Common.{◌≡◌, ◌∷◌, ◌⊎◌, inl, inr, [], List, Bool, true, false, ℕ, suc, ap, refl, if◌then◌else◌}
use Rattle.std.proofs.lemmas.Bool.{eq-eqb, ltb-true}
use Rattle.std.specs.List.{Contains, slice_get, zip}
use Rattle.std.specs.Prelude.{nat_eq, nat_lt}
use Rattle.td_algebra.proofs.Lists.{contains_first}
use Rattle.td_eval.specs.model.AggregateValues.{aggregated_value, asked_of}
use Rattle.td_eval.specs.model.OperatorValues.{on_relation, on_truth, on_tuple, postfix_value, restricted_value}
use Rattle.td_eval.specs.model.Worlds.{World, known_outcome}
use Rattle.td_group.specs.declared.aggregates.Agg.{Agg}
use Rattle.td_plan.specs.code.Plans as plans
use Rattle.td_plan.specs.code.Plans.{PlanTree, PlanTrees, Slots, dyadic_value, extension_of, looked_up, monadic_value, plan_columns, plan_value, plan_where_bound, selected_value, slots_before, summary_of, value_or, with_slot}
use Rattle.td_plan.specs.code.Memos.{AgreeOn, AreOn, IsOn, IsWithin}
use Rattle.td_plan.specs.code.Remembered.{AreAmong, AreAmongBefore, AreAmongBut, AreBefore}
use Rattle.td_tree.specs.declared.operator.Aggregate.{Aggregate}
use Rattle.td_tree.specs.model.Outcomes.{gathered, with_both, with_value}
use Rattle.td_tree.specs.model.Trees.{Attributes, project}
use Rattle.td_types.specs.model.Types.{Attribute}
use Rattle.td_value.specs.code.Views.{values_of}
use Rattle.td_value.specs.model.Values.{Val}

-- a plan that names these slots names those among which they are
pub on_more : (a b : List ℕ) (p : PlanTree) → AreAmong a b → IsOn a p → IsOn b p
on_more a b p among h = λ w s t agree. h w s t (λ j c. agree j (among j c))

-- where the slots that it names end
pub on_within : (reach : ℕ) (names : List ℕ) (p : PlanTree) → AreBefore reach names → IsOn names p → IsWithin reach p
on_within reach names p before h = λ w s t agree. h w s t (λ j c. agree j (before j c))

pub attribute_on : (slot place : ℕ) → IsOn (slot ∷ []) (plans.attribute slot place)
attribute_on slot place = λ w s t agree. ap (λ row. value_or (slice_get row place)) (agree slot (contains_first slot []))

module _ (names : List ℕ) where
  pub look_up_on : (n : List ℕ) (key : List (List ℕ)) (p : PlanTree) → IsOn names p → IsOn names (plans.look_up n key p)
  look_up_on n key p h = λ w s t agree. ap (λ o. with_value o (looked_up key (known_outcome (w.relvar n)))) (h w s t agree)

  pub monadic_on : (op : plans.Monadic) (p : PlanTree) → IsOn names p → IsOn names (plans.monadic op p)
  monadic_on op p h = λ w s t agree. ap (λ o. with_value o (monadic_value w op)) (h w s t agree)

  pub dyadic_on : (p : PlanTree) (op : plans.Dyadic) (q : PlanTree) → IsOn names p → IsOn names q → IsOn names (plans.dyadic p op q)
  dyadic_on p op q h i = λ w s t agree k. with_both (h w s t agree k) (i w s t agree k) (dyadic_value op)

  pub select_on : (selector : plans.Selector) (ps : PlanTrees) → AreOn names ps → IsOn names (plans.select selector ps)
  select_on selector ps h = λ w s t agree. ap (λ os. with_value (gathered os) (selected_value w selector)) (h w s t agree)

  pub choice_on : (p q r : PlanTree) → IsOn names p → IsOn names q → IsOn names r → IsOn names (plans.choice p q r)
  choice_on p q r h i j = λ w s t agree k.
      with_value (h w s t agree k) (λ v. on_truth v (λ b. if b then i w s t agree k else j w s t agree k))

  -- ---- in the tuples of a slot

  module _ (inner : List ℕ) (slot : ℕ) (among : AreAmongBut slot inner names) where
    entered_agree : (row : List Val) (s t : Slots) → AgreeOn names s t → AgreeOn inner (with_slot slot row s) (with_slot slot row t)
    entered_agree row s t agree = λ j c. by_case j (among j c)
      where
        by_case : (j : ℕ) → (j ≡ slot) ⊎ Contains names j → (if nat_eq j slot then row else s j) ≡ (if nat_eq j slot then row else t j)
        by_case j (inl e) = rw (eq-eqb j slot e) refl
        by_case j (inr c) = ap (λ x. if nat_eq j slot then row else x) (agree j c)

    entered_on : (q : PlanTree) → IsOn inner q → (w : World) (s t : Slots) → AgreeOn names s t → (row : List Val)
        → plan_value w (with_slot slot row s) q ≡ plan_value w (with_slot slot row t) q
    entered_on q i w s t agree row = i w (with_slot slot row s) (with_slot slot row t) (entered_agree row s t agree)

    columns_on : (ps : PlanTrees) → AreOn inner ps → (w : World) (s t : Slots) → AgreeOn names s t → plan_columns w s slot ps ≡ plan_columns w t slot ps
    columns_on plans.none h w s t agree = refl
    columns_on (plans.more p ps) h w s t agree =
        let first : IsOn inner p = λ v x y same. (let e = h v x y same in cc) in
        let rest : AreOn inner ps = λ v x y same. (let e = h v x y same in cc) in
        let columns = columns_on ps rest w s t agree in
        λ k. (λ u. entered_on p first w s t agree (values_of u) k) ∷ columns k

    pub restriction_on : (p q : PlanTree) → IsOn names p → IsOn inner q → IsOn names (plans.restriction p slot q)
    restriction_on p q h i = λ w s t agree k.
        with_value (h w s t agree k) (λ v. on_relation v (restricted_value (λ u. entered_on q i w s t agree (values_of u) k)))

    pub aggregate_on : (op : Aggregate) (p q : PlanTree) → IsOn names p → IsOn inner q → IsOn names (plans.aggregate op p slot q)
    aggregate_on op p q h i = λ w s t agree k.
        with_value (h w s t agree k) (λ v. on_relation v (aggregated_value (asked_of op) (λ u. entered_on q i w s t agree (values_of u) k)))

    pub extend_on : (p : PlanTree) (attributes : List Attribute) (qs : PlanTrees) → IsOn names p → AreOn inner qs → IsOn names (plans.extend p attributes slot qs)
    extend_on p attributes qs h i = λ w s t agree k.
        with_value (h w s t agree k) (λ v. on_relation v (extension_of attributes (columns_on qs i w s t agree k)))

    pub summarize_per_on : (p per : PlanTree) (attributes : List Attribute) (aggregates : List Agg) (qs : PlanTrees) → IsOn names p → IsOn names per
        → AreOn inner qs → IsOn names (plans.summarize_per p per attributes aggregates slot qs)
    summarize_per_on p per attributes aggregates qs h g i = λ w s t agree k.
        with_both (h w s t agree k) (g w s t agree k) (summary_of attributes (zip aggregates (columns_on qs i w s t agree k)))

    pub summarize_by_on : (p : PlanTree) (by : Attributes) (attributes : List Attribute) (aggregates : List Agg) (qs : PlanTrees) → IsOn names p
        → AreOn inner qs → IsOn names (plans.summarize_by p by attributes aggregates slot qs)
    summarize_by_on p by attributes aggregates qs h i = λ w s t agree k.
        with_value (h w s t agree k) (λ v. with_value (postfix_value (project by) v)
        (summary_of attributes (zip aggregates (columns_on qs i w s t agree k)) v))

  -- ---- where tuples are in slots of their own

  module _ (inner : List ℕ) where
    row_agree : (slot : ℕ) (row : List Val) (s t : Slots) → AgreeOn inner s t → AgreeOn inner (with_slot slot row s) (with_slot slot row t)
    row_agree slot row s t agree = λ j c. ap (λ x. if nat_eq j slot then row else x) (agree j c)

    where_bound_on : (w : World) (ps : PlanTrees) (q : PlanTree) → AreOn inner ps → IsOn inner q → (s t : Slots) → AgreeOn inner s t → (slot : ℕ)
        → plan_where_bound w s slot ps (λ u. plan_value w u q) ≡ plan_where_bound w t slot ps (λ u. plan_value w u q)
    where_bound_on w plans.none q h i s t agree slot = i w s t agree
    where_bound_on w (plans.more p ps) q h i s t agree slot =
        let first : IsOn inner p = λ v x y same. (let e = h v x y same in cc) in
        let rest : AreOn inner ps = λ v x y same. (let e = h v x y same in cc) in
        λ k. with_value (first w s t agree k)
        (λ v. on_tuple v (λ u. where_bound_on w ps q rest i (with_slot slot (values_of u) s) (with_slot slot (values_of u) t)
        (row_agree slot (values_of u) s t agree) (suc slot) k))

    before_agree : (slot : ℕ) → AreAmongBefore slot inner names → (s t : Slots) → AgreeOn names s t
        → AgreeOn inner (slots_before slot s) (slots_before slot t)
    before_agree slot among s t agree = λ j c. by_test j c (nat_lt j slot) refl
      where
        by_test : (j : ℕ) → Contains inner j → (b : Bool) → nat_lt j slot ≡ b → (if nat_lt j slot then s j else []) ≡ (if nat_lt j slot then t j else [])
        by_test j c true e = rw e (agree j (among j c (ltb-true j slot e)))
        by_test j c false e = rw e refl

    pub bound_on : (slot : ℕ) → AreAmongBefore slot inner names → (ps : PlanTrees) (q : PlanTree) → AreOn inner ps → IsOn inner q
        → IsOn names (plans.bound slot ps q)
    bound_on slot among ps q h i = λ w s t agree.
        where_bound_on w ps q h i (slots_before slot s) (slots_before slot t) (before_agree slot among s t agree) slot
