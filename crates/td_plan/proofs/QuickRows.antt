-- What is found in all tuples of a relation without causes.
use Rattle.std.proofs.Common.{◌≡◌, ◌∙◌, ◌<◌, ◌+◌, ◌++◌, ℕ, Bool, Option, true, List, [], ◌∷◌, ap, arith, get_or, length, map, refl, subst, sym, take}
use Rattle.std.proofs.lemmas.Bool.{eqb-true}
use Rattle.std.proofs.lemmas.List.{append_assoc, append-nil, map-append}
use Rattle.std.specs.Global.{Vec}
use Rattle.std.specs.List.{slice_get, zip}
use Rattle.std.specs.Prelude.{nat_eq, not, replicate}
use Rattle.td_check.proofs.CheckedLists.{step_taken}
use Rattle.td_eval.specs.model.OperatorValues.{prefix_value, truth_value}
use Rattle.td_eval.specs.model.Worlds.{World}
use Rattle.td_plan.specs.declared.plan.step.Step.{Step}
use Rattle.td_plan.proofs.SlotLaws.{agree_below, slot_here, slot_other}
use Rattle.td_plan.specs.declared.running.hand.Inside.{Inside}
use Rattle.td_plan.specs.declared.running.memo.Memo.{Memo}
use Rattle.td_plan.specs.code.Plans.{PlanTree, PlanTrees, Slots, attribute, bound, plan_value, value_or}
use Rattle.td_plan.specs.code.Hands.{slots_in, slots_inside}
use Rattle.td_plan.specs.code.Quick.{AreInRows, AreQuick, IsQuick}
use Rattle.td_plan.specs.code.QuickInside.{IsMemoInside, value_inside}
use Rattle.td_plan.specs.code.Memos.{IsMemo, Parts}
use Rattle.td_plan.specs.code.Runs.{step_value}
use Rattle.td_plan.specs.code.StepViews.{step_view}
use Rattle.td_tree.specs.declared.operator.Prefix.TheVariants as prefixes
use Rattle.td_tree.specs.model.Outcomes.{Outcome, Valued, gathered, with_both, with_value}
use Rattle.td_value.specs.code.Views.{values_of}
use Rattle.td_value.specs.model.Values.{Tuple, Val, boolean}

-- the value of one element more
pub one_more : {X Y : Type 0} (view : Y → Val) (f : X → Outcome Val) (xs : List X) (i : ℕ) (x : X) (ys : List Y) (y : Y) → i < length xs → x ≡ get_or xs i x
    → map f (take i xs) ≡ map (λ y. Valued (view y)) ys → f x ≡ Valued (view y)
    → map f (take (i + 1) xs) ≡ map (λ y. Valued (view y)) (ys ++ y ∷ [])
one_more view f xs i x ys y inside is so_far found =
    step_taken (λ zs. map f zs ≡ map (λ y. Valued (view y)) (ys ++ y ∷ [])) xs i x inside is
    (map-append f (take i xs) (x ∷ []) ∙ (λ j. so_far j ++ (found j ∷ [])) ∙ sym (map-append (λ y. Valued (view y)) ys (y ∷ [])))

-- what a plan gives in tuples of a loop is what its step does
pub of_plan : {X : Type 0} (view : X → Val) (w : World) (inside : Inside) (s : Step) (p : PlanTree) (ts : List Tuple) (found : Option (Vec X))
    → step_view s ≡ p → AreQuick view (λ t. plan_value w (slots_inside inside t) p) ts found → AreQuick view (value_inside w inside s) ts found
of_plan view w inside s p ts found is q = subst (λ p. AreQuick view (λ t. plan_value w (slots_inside inside t) p) ts found) (sym is) q

-- an attribute of the loop's tuples
pub of_attribute : {X : Type 0} (view : X → Val) (w : World) (inside : Inside) (slot place : ℕ) (ts : List Tuple) (found : Option (Vec X))
    → slot ≡ inside.slot → AreQuick view (λ t. value_or (slice_get (values_of t) place)) ts found
    → AreQuick view (λ t. plan_value w (slots_inside inside t) (attribute slot place)) ts found
of_attribute view w inside slot place ts found here q =
    subst (λ (f : Tuple → Outcome Val). AreQuick view f ts found) (λ i t. value_or (slice_get (sym (slot_here slot inside.slot (values_of t) (slots_in inside.outer.items) here) i) place)) q

-- an attribute of a tuple further out
pub of_outer : {X : Type 0} (view : X → Val) (w : World) (inside : Inside) (slot place : ℕ) (ts : List Tuple) (found : Option (Vec X))
    → (slot ≡ inside.slot → ⊥) → AreQuick view (λ t. value_or (slice_get (slots_in inside.outer.items slot) place)) ts found
    → AreQuick view (λ t. plan_value w (slots_inside inside t) (attribute slot place)) ts found
of_outer view w inside slot place ts found other q =
    subst (λ (f : Tuple → Outcome Val). AreQuick view f ts found)
    (λ i t. value_or (slice_get (sym (slot_other slot inside.slot (values_of t) (slots_in inside.outer.items) other) i) place)) q

-- what stands behind tuples that are in scope in another loop already
pub of_bound : {X : Type 0} (view : X → Val) (w : World) (inside inner : Inside) (s value : Step) (slot : ℕ) (items : PlanTrees) (ts : List Tuple) (found : Option (Vec X))
    → step_view s ≡ bound slot items (step_view value)
    → ((p : PlanTree) (t : Tuple) → plan_value w (slots_inside inside t) (bound slot items p) ≡ plan_value w (slots_inside inner t) p)
    → AreQuick view (value_inside w inner value) ts found → AreQuick view (value_inside w inside s) ts found
of_bound view w inside inner s value slot items ts found is same q =
    of_plan view w inside s (bound slot items (step_view value)) ts found is
    (subst (λ (f : Tuple → Outcome Val). AreQuick view f ts found) (λ i t. sym (same (step_view value) t) i) q)

-- what is found where a tuple of the loop is in scope
pub quick_inside : {X : Type 0} (view : X → Val) (found : Option X) (w : World) (inside : Inside) (t : Tuple) (s : Slots) (step : Step) (memo : Memo) (ps : Parts)
    → s ≡ slots_inside inside t → IsMemoInside ps w inside memo → (IsMemo ps w s memo → IsQuick view found (step_value w s step))
    → IsQuick view found (value_inside w inside step t)
quick_inside view found w inside t s step memo ps is m q =
    subst (λ x. IsQuick view found (step_value w x step)) is
    (q (subst (λ x. IsMemo ps w x memo) (sym is) (m (slots_inside inside t) (agree_below inside.slot (values_of t) (slots_in inside.outer.items)))))

-- what two steps give in tuples is what is given of their values at each place
abbrev pub of_two : {X : Type 0} → (X → Val) → (Val → Val → Outcome Val) → X × X → Outcome Val
of_two view f both = f (view both.0) (view both.1)

first_is : (o p : Outcome Val) (os ps : List (Outcome Val)) → o ∷ os ≡ p ∷ ps → o ≡ p
first_is o p os ps e = cc

rest_is : (o p : Outcome Val) (os ps : List (Outcome Val)) → o ∷ os ≡ p ∷ ps → os ≡ ps
rest_is o p os ps e = cc

pub of_both : {X : Type 0} (view : X → Val) (op : Val → Val → Outcome Val) (f g : Tuple → Outcome Val) (ts : List Tuple) (xs ys : List X)
    → AreInRows view f ts xs → AreInRows view g ts ys → map (λ t. with_both (f t) (g t) op) ts ≡ map (of_two view op) (zip xs ys)
of_both view op f g [] [] ys p q = refl
of_both view op f g [] (x ∷ xs) ys p q = absurd (cc)
of_both view op f g (t ∷ ts) [] ys p q = absurd (cc)
of_both view op f g (t ∷ ts) (x ∷ xs) [] p q = absurd (cc)
of_both view op f g (t ∷ ts) (x ∷ xs) (y ∷ ys) p q =
    λ i. with_both (first_is (f t) (Valued (view x)) (map f ts) (map (λ x. Valued (view x)) xs) p i) (first_is (g t) (Valued (view y)) (map g ts) (map (λ y. Valued (view y)) ys) q i) op
    ∷ of_both view op f g ts xs ys (rest_is (f t) (Valued (view x)) (map f ts) (map (λ x. Valued (view x)) xs) p) (rest_is (g t) (Valued (view y)) (map g ts) (map (λ y. Valued (view y)) ys) q) i

-- so is what one gives
pub of_one : {X : Type 0} (view : X → Val) (op : Val → Outcome Val) (f : Tuple → Outcome Val) (ts : List Tuple) (xs : List X)
    → AreInRows view f ts xs → map (λ t. with_value (f t) op) ts ≡ map (λ x. op (view x)) xs
of_one view op f [] [] p = refl
of_one view op f [] (x ∷ xs) p = absurd (cc)
of_one view op f (t ∷ ts) [] p = absurd (cc)
of_one view op f (t ∷ ts) (x ∷ xs) p =
    λ i. with_value (first_is (f t) (Valued (view x)) (map f ts) (map (λ x. Valued (view x)) xs) p i) op
    ∷ of_one view op f ts xs (rest_is (f t) (Valued (view x)) (map f ts) (map (λ x. Valued (view x)) xs) p) i

negated_all : (bs : List Bool) → map (λ b. Valued (boolean (not b))) bs ≡ map (λ b. Valued (boolean b)) (map not bs)
negated_all [] = refl
negated_all (b ∷ bs) = ap (λ os. Valued (boolean (not b)) ∷ os) (negated_all bs)

-- NOT of each
pub negated : (f : Tuple → Outcome Val) (ts : List Tuple) (bs ns : List Bool) → ns ≡ map not bs → AreInRows boolean f ts bs
    → AreInRows boolean (λ t. with_value (f t) (prefix_value prefixes.Not)) ts ns
negated f ts bs ns is p =
    of_one boolean (prefix_value prefixes.Not) f ts bs p ∙ negated_all bs ∙ ap (map (λ b. Valued (boolean b))) (sym is)

-- an outcome that is the same in each tuple
pub the_same : {X : Type 0} (view : X → Val) (o : Outcome Val) (x : X) (ts : List Tuple) (n : ℕ) → o ≡ Valued (view x) → length ts ≡ n
    → AreInRows view (λ t. o) ts (replicate n x)
the_same view o x ts n is many = subst (λ n. AreInRows view (λ t. o) ts (replicate n x)) many (in_each ts)
  where
    in_each : (ts : List Tuple) → AreInRows view (λ t. o) ts (replicate (length ts) x)
    in_each [] = refl
    in_each (t ∷ ts) = λ i. is i ∷ in_each ts i

-- truth values in tuples are those that are gathered
pub truths_gathered : (f : Tuple → Outcome Val) (ts : List Tuple) (bs : List Bool) → AreInRows boolean f ts bs
    → gathered (map (λ t. truth_value (f t)) ts) ≡ Valued bs
truths_gathered f [] [] p = refl
truths_gathered f [] (b ∷ bs) p = absurd (cc)
truths_gathered f (t ∷ ts) [] p = absurd (cc)
truths_gathered f (t ∷ ts) (b ∷ bs) p =
    λ i. with_both (truth_value (first_is (f t) (Valued (boolean b)) (map f ts) (map (λ b. Valued (boolean b)) bs) p i))
    (truths_gathered f ts bs (rest_is (f t) (Valued (boolean b)) (map f ts) (map (λ b. Valued (boolean b)) bs) p) i) (λ b bs. Valued (b ∷ bs))

-- the values of a part more
pub part_more : {X : Type 0} (view : X → Val) (f : Tuple → Outcome Val) (xs ys zs : List X) (rest part after : List Tuple) → rest ≡ part ++ after
    → AreInRows view f part ys → zs ≡ xs ++ ys
    → map (λ x. Valued (view x)) xs ++ map f rest ≡ map (λ x. Valued (view x)) zs ++ map f after
part_more view f xs ys zs rest part after whole found more =
    ap (λ ts. map (λ x. Valued (view x)) xs ++ map f ts) whole
    ∙ ap (λ os. map (λ x. Valued (view x)) xs ++ os) (map-append f part after ∙ ap (λ os. os ++ map f after) found)
    ∙ sym (append_assoc (map (λ x. Valued (view x)) xs) (map (λ x. Valued (view x)) ys) (map f after))
    ∙ ap (λ os. os ++ map f after) (sym (map-append (λ x. Valued (view x)) xs ys) ∙ ap (map (λ x. Valued (view x))) (sym more))

-- and where nothing is left
pub no_rest : {X : Type 0} (view : X → Val) (f : Tuple → Outcome Val) (xs : List X) (rest : List Tuple) → nat_eq (length rest) 0 ≡ true
    → map (λ x. Valued (view x)) xs ++ map f rest ≡ map (λ x. Valued (view x)) xs
no_rest view f xs [] e = append-nil (map (λ x. Valued (view x)) xs)
no_rest view f xs (t ∷ rest) e = absurd (let none = eqb-true (length (t ∷ rest)) 0 e in omega (arith, none))
