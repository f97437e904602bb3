-- An equality that is TRUE fixes the attribute that one of its operands names to the other one's value.
use Rattle.std.proofs.Common.{◌≡◌, ◌∙◌, ◌||◌, ℕ, Bool, true, false, List, [], ◌∷◌, ◌++◌, Option, Some, None, ap, refl, sym, true≢false}
use Rattle.std.specs.Cmp.Lexicographic.{same_text}
use Rattle.std.specs.List.{list_any}
use Rattle.std.specs.Prelude.{is_some, option_map}
use Rattle.td_algebra.proofs.Entries.{type_at-heading_of}
use Rattle.td_check.specs.laws.CannotFail.{cannot_fail}
use Rattle.td_check.specs.model.Scopes.{Scope}
use Rattle.td_check.specs.model.StaticTypes.{type_of}
use Rattle.td_eval.proofs.law_lemmas.UnfailingTrees.{unfailing_expressions_have_values}
use Rattle.td_eval.specs.model.OperatorValues.{comparison_value, of_truth}
use Rattle.td_eval.specs.model.TreeValues.{value_of}
use Rattle.td_eval.specs.model.Worlds.{World, innermost_value, known_outcome, with_tuples}
use Rattle.td_plan.proofs.EqualNames.{values_depend_on_names}
use Rattle.td_plan.proofs.EqualValues.{and_of_both, equality_of_one}
use Rattle.td_plan.specs.declared.rewriting.fixed.FixedValue.{FixedValue}
use Rattle.td_plan.specs.laws.EqualitiesOfNames.{NamesOnly}
use Rattle.td_plan.specs.code.Fixing.{AreOneWhere, MayFix}
use Rattle.td_plan.specs.code.Narrowing.{AreFixed, Implies, IsFixedTo}
use Rattle.td_plan.specs.code.Plans.{PlanTree}
use Rattle.td_plan.specs.code.PlansOf.{IsPlanOfTyped, outermost}
use Rattle.td_plan.specs.code.StepViews.{step_view}
use Rattle.td_tree.specs.declared.operator.Comparison.TheVariants as comparisons
use Rattle.td_tree.specs.declared.operator.Operator.TheVariants as operators
use Rattle.td_tree.specs.model.Outcomes.{Outcome, Valued, Refused, with_both}
use Rattle.td_tree.specs.model.Trees as trees
use Rattle.td_tree.specs.model.Trees.{Tree}
use Rattle.td_tree.specs.model.WrittenTrees.{IsWritten}
use Rattle.td_types.proofs.OutcomeLaws.{valued_is}
use Rattle.td_types.specs.model.Headings.{has_attribute, has_name}
use Rattle.td_types.specs.model.Types.{Heading, Type', same_name, type_at}
use Rattle.td_value.specs.model.Values.{Tuple, Val, heading_of, value_at}
use Rattle.td_value.specs.model.Values as values

-- ---- tests

-- where no name passes, one that is there does not
pub none_passes : (test : List ℕ → Bool) (ns : List (List ℕ)) → list_any test ns ≡ false → (n : List ℕ) → has_name n ns ≡ true → test n ≡ false
none_passes test [] none n there = absurd (true≢false (sym there))
none_passes test (m ∷ ns) none n there = by_test (none_passes test ns) (test m) refl none (same_name m n) refl there
  where
    by_test : (list_any test ns ≡ false → (k : List ℕ) → has_name k ns ≡ true → test k ≡ false)
        → (b : Bool) → test m ≡ b → (b || list_any test ns) ≡ false → (c : Bool) → same_name m n ≡ c → (c || has_name n ns) ≡ true → test n ≡ false
    by_test rest true is e c same d = absurd (true≢false e)
    by_test rest false is e true same d = ap test (sym (same_text m n (sym same))) ∙ is
    by_test rest false is e false same d = rest e n d

-- ---- conditions that are TRUE

both_one : (a b : Outcome Val) → with_both a b (comparison_value comparisons.Equal) ≡ of_truth true → a ≡ b
both_one (Valued v) (Valued u) e = ap Valued (equality_of_one v u e)
both_one (Valued v) (Refused ds) e = absurd (cc)
both_one (Refused cs) (Valued u) e = absurd (cc)
both_one (Refused cs) (Refused ds) e = absurd (cc)

-- a conjunct is TRUE where the condition is
pub first_implied : (e a b : Tree) → Implies e (trees.binary a operators.And b) → Implies e a
first_implied e a b implies w s is = (and_of_both (value_of w s a) (value_of w s b) (implies w s is)).0

pub second_implied : (e a b : Tree) → Implies e (trees.binary a operators.And b) → Implies e b
second_implied e a b implies w s is = (and_of_both (value_of w s a) (value_of w s b) (implies w s is)).1

-- so are the operands of an equality one, in either order
pub operands_are_one : (e a b : Tree) → Implies e (trees.compare a comparisons.Equal b) → AreOneWhere e a b
operands_are_one e a b implies w s is = both_one (value_of w s a) (value_of w s b) (implies w s is)

pub operands_are_one_back : (e a b : Tree) → Implies e (trees.compare a comparisons.Equal b) → AreOneWhere e b a
operands_are_one_back e a b implies w s is = sym (operands_are_one e a b implies w s is)

-- one more
pub one_more_fixed : (scope : Scope) (h : Heading) (e : Tree) (xs : List FixedValue) (x : FixedValue) → AreFixed scope h e xs
    → IsFixedTo scope h e x.name (step_view x.value) → AreFixed scope h e (xs ++ (x ∷ []))
one_more_fixed scope h e [] x all one = (one, tt)
one_more_fixed scope h e (y ∷ xs) x all one = (all.0, one_more_fixed scope h e xs x all.1 one)

-- ---- one attribute

-- what leads to what is not so is not so
never : (b : Bool) → (b ≡ true → false ≡ true) → b ≡ false
never false h = refl
never true h = absurd (true≢false (sym (h refl)))

abbrev first_or : List ℕ → List Tuple → Option Val → Option Val
first_or n s o = elim o as (λ _. Option Val) [ Some v ↦ Some v | None ↦ innermost_value n s ]

abbrev name_or : World → List ℕ → Option Val → Outcome Val
name_or w n o = elim o as (λ _. Outcome Val) [ Some v ↦ Valued v | None ↦ known_outcome (w.relvar n) ]

module _ (h : Heading) (u : Tuple) (headed : heading_of u ≡ h) where
  type_there : (n : List ℕ) → option_map values.type_of (value_at n u) ≡ type_at n h
  type_there n = sym (type_at-heading_of n u) ∙ ap (type_at n) headed

  -- an attribute of the heading has a value in the tuple
  value_there : (n : List ℕ) (t : Type') → type_at n h ≡ Some t → (v : Val) × (value_at n u ≡ Some v)
  value_there n t is = by_value (value_at n u) refl
    where
      by_value : (o : Option Val) → value_at n u ≡ o → (v : Val) × (value_at n u ≡ Some v)
      by_value (Some v) e = (v, e)
      by_value None e = absurd (let d : None ≡ Some t = sym (ap (option_map values.type_of) e) ∙ type_there n ∙ is in cc)

  -- another name has none
  no_value_there : (n : List ℕ) → has_attribute n h ≡ false → value_at n u ≡ None
  no_value_there n is = by_value (value_at n u) refl
    where
      by_value : (o : Option Val) → value_at n u ≡ o → value_at n u ≡ None
      by_value None e = e
      by_value (Some v) e = absurd (true≢false (ap (λ o. is_some (option_map values.type_of o)) (sym e) ∙ ap is_some (type_there n) ∙ is))

  -- an expression that names no attribute of the heading has the same value beside the tuple
  value_apart : (w : World) (s : List Tuple) (x : Tree) → NamesOnly [] h x → value_of w (u ∷ s) x ≡ value_of w s x
  value_apart w s x apart =
      values_depend_on_names w (u ∷ s) s x (λ n c. ap (first_or n s) (no_value_there n (never (has_attribute n h) (apart n c))))

  -- the attribute has the value that its name has
  name_there : (w : World) (s : List Tuple) (n : List ℕ) (t : Type') (v : Val) → type_at n h ≡ Some t
      → value_of w (u ∷ s) (trees.name n) ≡ Valued v → value_at n u ≡ Some v
  name_there w s n t v is e =
      let there = value_there n t is in
      let same : Valued there.0 ≡ Valued v = sym (ap (λ o. name_or w n (first_or n s o)) there.1) ∙ e in
      there.1 ∙ ap Some (valued_is there.0 v same)

module _ (scope : Scope) (h : Heading) (n : List ℕ) (x : Tree) (may : MayFix scope h n x) (written : IsWritten x) where
  pub one_fixed : (p : PlanTree) → IsPlanOfTyped scope p x → (e a : Tree) → a ≡ trees.name n → AreOneWhere e a x → IsFixedTo scope h e n p
  one_fixed p plan e a is same w s slots k hand f =
      let here : with_tuples (outermost scope) s ≡ scope =
      λ i. record { types = scope.types; relvars = scope.relvars; constraints = scope.constraints; entered = hand.1 i } in
      let t = may.typed.0 in
      let found = unfailing_expressions_have_values w (outermost scope) s x t k hand.0 written may.unfailing.numbers
      (ap (λ z. type_of z x) here ∙ may.typed.2) (ap (λ z. cannot_fail z x) here ∙ may.unfailing.never) in
      let v = found.0 in (
        v,
        plan written t may.typed.2 w s slots k hand f ∙ found.1,
        record {
          typed = (t, may.typed.1, found.2);
          same = λ u typed headed there.
              name_there h u headed w s n t v may.typed.1
              (ap (value_of w (u ∷ s)) (sym is) ∙ same w (u ∷ s) there ∙ value_apart h u headed w s x may.apart ∙ found.1);
        },
      )
