-- Steps whose parts are kept once they are made.
use Rattle.std.proofs.Common.{◌≡◌, ◌∙◌, ◌∷◌, ◌⊎◌, [], List, inl, inr, ℕ, suc, ap, length, refl, subst, sym}
use Rattle.std.specs.List.{Contains}
use Rattle.std.specs.Prelude.{IfOk, Result, Ok, Err, ⊤}
use Rattle.td_plan.specs.declared.plan.step.Step.{Step}
use Rattle.td_plan.proofs.PlacedLaws.{placed_all, placed_both, placed_map, placed_more}
use Rattle.td_plan.proofs.Withins.{on_more}
use Rattle.td_plan.specs.code.Plans.{PlanTree, PlanTrees, more}
use Rattle.td_plan.specs.code.Memos.{AreWithinReach, AreOn, AreSound, IsOn, IsSound, Parts, Placed}
use Rattle.td_plan.specs.code.Remembered.{AreAllAmong, AreAllRemembered, AreAmong, AreAmongBefore, AreAmongBut, AreBoundNames, AreEachKept, AreEachRemembered, AreRemembered, AreRememberedBound, AreRememberedInside, AreRememberedInsideBoth, AreThreeRemembered, IsRemembered, KeepsPart}
use Rattle.td_plan.specs.code.StepViews.{step_view, steps_view}

pub among_but_more : (slot : ℕ) (inner a b : List ℕ) → AreAmongBut slot inner a → AreAmong a b → AreAmongBut slot inner b
among_but_more slot inner a b h further = λ j c. by_case j (h j c)
  where
    by_case : (j : ℕ) → (j ≡ slot) ⊎ Contains a j → (j ≡ slot) ⊎ Contains b j
    by_case j (inl e) = inl e
    by_case j (inr d) = inr (further j d)

pub ok_by_both : {X E : Type 0} (r : Result X E) (P Q R : X → Type 0) → ((x : X) → P x → Q x → R x) → IfOk r P → IfOk r Q → IfOk r R
ok_by_both (Ok x) P Q R f p q = f x p q
ok_by_both (Err e) P Q R f p q = tt

-- ---- a part that is kept

pub kept_view : (a b : ℕ) (names : List ℕ) (old new : Step) → KeepsPart a b names old new → step_view new ≡ step_view old
kept_view a b names old new (inl h) = ap step_view h.1
kept_view a b names old new (inr h) = h.1

pub placed_kept : (z a b : ℕ) (names : List ℕ) (old new : Step) (Q : Parts → Type 0) → KeepsPart a b names old new → IsOn names (step_view old)
    → Placed z a (λ ps. IsSound ps old × Q ps) → Placed z b (λ ps. IsSound ps new × Q ps)
placed_kept z a b names old new Q (inl h) on placed =
    subst (λ n. Placed z n (λ ps. IsSound ps new × Q ps)) (sym h.0) (subst (λ p. Placed z a (λ ps. IsSound ps p × Q ps)) (sym h.1) placed)
placed_kept z a b names old new Q (inr h) on placed =
    subst (λ n. Placed z n (λ ps. IsSound ps new × Q ps)) (sym h.0)
    (placed_map z (suc a) _ _ (λ ps i. (h.2 ps on i.0 i.1.0, i.1.1)) (placed_more z a (step_view old) _ placed))

swapped : (z a : ℕ) (P Q : Parts → Type 0) → Placed z a (λ ps. P ps × Q ps) → Placed z a (λ ps. Q ps × P ps)
swapped z a P Q h = placed_map z a (λ ps. P ps × Q ps) (λ ps. Q ps × P ps) (λ ps x. (x.1, x.0)) h

-- ---- steps of no part, and of one

pub leaf_remembered : (a : ℕ) (names : List ℕ) (old new : Step) → step_view new ≡ step_view old → IsOn names (step_view old) → ((ps : Parts) → IsSound ps new)
    → IsRemembered a a names old new
leaf_remembered a names old new view on sound = record { view = view; on = on; placed = placed_all a _ sound }

pub one_remembered : (make : PlanTree → PlanTree) (a b : ℕ) (names : List ℕ) → ((p : PlanTree) → IsOn names p → IsOn names (make p))
    → (o new_o old new : Step) → IsRemembered a b names o new_o → step_view old ≡ make (step_view o) → step_view new ≡ make (step_view new_o)
    → ((ps : Parts) → IsSound ps new_o → IsSound ps new) → IsRemembered a b names old new
one_remembered make a b names law o new_o old new h was is sound = record {
  view = is ∙ ap make h.view ∙ sym was;
  on = subst (IsOn names) (sym was) (law (step_view o) h.on);
  placed = placed_map a b _ _ sound h.placed;
}

-- ---- two steps

-- each of which may be kept after both
pub two_placed : (a b c d e : ℕ) (f g : List ℕ) (l l1 l2 r r1 r2 : Step) → IsRemembered a b f l l1 → IsRemembered b c g r r1
    → KeepsPart c d f l1 l2 → KeepsPart d e g r1 r2 → Placed a e (λ ps. IsSound ps l2 × IsSound ps r2)
two_placed a b c d e f g l l1 l2 r r1 r2 h i j k =
    swapped a e (λ ps. IsSound ps r2) (λ ps. IsSound ps l2)
    (placed_kept a d e g r1 r2 (λ ps. IsSound ps l2) k (subst (IsOn g) (sym i.view) i.on)
    (swapped a d (λ ps. IsSound ps l2) (λ ps. IsSound ps r1)
    (placed_kept a c d f l1 l2 (λ ps. IsSound ps r1) j (subst (IsOn f) (sym h.view) h.on) (placed_both a b c _ _ h.placed i.placed))))

-- what is made of two parts, by what is said of the slots that they name
pub two_remembered : (make : PlanTree → PlanTree → PlanTree) (claim : List ℕ → List ℕ → Type 0) (a b : ℕ) (names : List ℕ)
    → ((x y : List ℕ) (p q : PlanTree) → claim x y → IsOn x p → IsOn y q → IsOn names (make p q))
    → (l r new_l new_r old new : Step) → AreRemembered a b claim l r new_l new_r → step_view old ≡ make (step_view l) (step_view r)
    → step_view new ≡ make (step_view new_l) (step_view new_r) → ((ps : Parts) → IsSound ps new_l × IsSound ps new_r → IsSound ps new)
    → IsRemembered a b names old new
two_remembered make claim a b names law l r new_l new_r old new h was is sound =
    let on = h.on in
    record {
      view = is ∙ (λ i. make (h.left i) (h.right i)) ∙ sym was;
      on = subst (IsOn names) (sym was) (law on.0 on.1 (step_view l) (step_view r) on.4 on.2 on.3);
      placed = placed_map a b _ _ sound h.placed;
    }

-- ---- three steps

pub three_remembered : (a b c d e z : ℕ) (names own all : List ℕ) (f f1 f2 s s1 s2 t t1 t2 : Step)
    → AreRemembered a b (λ x y. AreAmong x names × AreAmong y names) s t s1 t1 → IsRemembered b c own f f1
    → KeepsPart c d own f1 f2 → KeepsPart d e names s1 s2 → KeepsPart e z names t1 t2 → AreAmong own all → AreAmong names all
    → AreThreeRemembered a z all f s t f2 s2 t2
three_remembered a b c d e z names own all f f1 f2 s s1 s2 t t1 t2 h i j k l first others =
    let on = h.on in
    let second_on : IsOn names (step_view s) = on_more on.0 names (step_view s) on.4.0 on.2 in
    let third_on : IsOn names (step_view t) = on_more on.1 names (step_view t) on.4.1 on.3 in
    record {
      first = kept_view c d own f1 f2 j ∙ i.view;
      second = kept_view d e names s1 s2 k ∙ h.left;
      third = kept_view e z names t1 t2 l ∙ h.right;
      first_on = on_more own all (step_view f) first i.on;
      second_on = on_more names all (step_view s) others second_on;
      third_on = on_more names all (step_view t) others third_on;
      placed =
          placed_map a z (λ ps. IsSound ps t2 × (IsSound ps f2 × IsSound ps s2)) _ (λ ps x. (x.1.0, x.1.1, x.0))
          (placed_kept a e z names t1 t2 (λ ps. IsSound ps f2 × IsSound ps s2) l (subst (IsOn names) (sym h.right) third_on)
          (placed_map a e (λ ps. IsSound ps s2 × (IsSound ps t1 × IsSound ps f2)) _ (λ ps x. (x.1.0, (x.1.1, x.0)))
          (placed_kept a d e names s1 s2 (λ ps. IsSound ps t1 × IsSound ps f2) k (subst (IsOn names) (sym h.left) second_on)
          (placed_map a d (λ ps. IsSound ps f2 × (IsSound ps s1 × IsSound ps t1)) _ (λ ps x. (x.1.0, (x.1.1, x.0)))
          (placed_kept a c d own f1 f2 (λ ps. IsSound ps s1 × IsSound ps t1) j (subst (IsOn own) (sym i.view) i.on)
          (swapped a c (λ ps. IsSound ps s1 × IsSound ps t1) (λ ps. IsSound ps f1) (placed_both a b c _ _ h.placed i.placed)))))));
    }

pub three_made : (make : PlanTree → PlanTree → PlanTree → PlanTree) (a b : ℕ) (names : List ℕ)
    → ((p q r : PlanTree) → IsOn names p → IsOn names q → IsOn names r → IsOn names (make p q r))
    → (f s t new_f new_s new_t old new : Step) → AreThreeRemembered a b names f s t new_f new_s new_t
    → step_view old ≡ make (step_view f) (step_view s) (step_view t) → step_view new ≡ make (step_view new_f) (step_view new_s) (step_view new_t)
    → ((ps : Parts) → IsSound ps new_f × IsSound ps new_s × IsSound ps new_t → IsSound ps new) → IsRemembered a b names old new
three_made make a b names law f s t new_f new_s new_t old new h was is sound = record {
  view = is ∙ (λ i. make (h.first i) (h.second i) (h.third i)) ∙ sym was;
  on = subst (IsOn names) (sym was) (law (step_view f) (step_view s) (step_view t) h.first_on h.second_on h.third_on);
  placed = placed_map a b _ _ sound h.placed;
}

-- ---- lists of steps

abbrev AreEachOn : List (List ℕ) → List Step → Type 0
AreEachOn [] [] = ⊤
AreEachOn [] (s ∷ ss) = ⊥
AreEachOn (n ∷ ns) [] = ⊥
AreEachOn (n ∷ ns) (s ∷ ss) = IsOn n (step_view s) × AreEachOn ns ss

-- what is known of each and all of them
pub record AreListed (a b : ℕ) (ns : List (List ℕ)) (os xs : List Step) : Type 0 where
  pub lengths : length ns ≡ length xs
  pub views : steps_view xs ≡ steps_view os
  pub each_on : AreEachOn ns xs
  pub on : (names : List ℕ) → AreAllAmong ns names → AreOn names (steps_view os)
  pub placed : Placed a b (λ ps. AreSound ps xs)

pub listed : (a b : ℕ) (ns : List (List ℕ)) (os xs : List Step) → AreEachRemembered a b ns os xs → AreListed a b ns os xs
listed a b [] [] [] h = record {
  lengths = refl;
  views = refl;
  each_on = tt;
  on = λ names among w s t agree. refl;
  placed = subst (λ z. Placed a z (λ ps. ⊤)) h (placed_all a _ (λ ps. tt));
}
listed a b [] [] (y ∷ xs) h = absurd h
listed a b [] (q ∷ os) [] h = absurd h
listed a b [] (q ∷ os) (y ∷ xs) h = absurd h
listed a b (m ∷ ns) [] [] h = absurd h
listed a b (m ∷ ns) [] (y ∷ xs) h = absurd h
listed a b (m ∷ ns) (q ∷ os) [] h = absurd h
listed a b (m ∷ ns) (q ∷ os) (y ∷ xs) h =
    let rest = listed h.0 b ns os xs h.2 in
    let first = h.1 in
    record {
      lengths = ap suc rest.lengths;
      views = λ i. more (first.view i) (rest.views i);
      each_on = (subst (IsOn m) (sym first.view) first.on, rest.each_on);
      on = λ names among w s t agree i. on_more m names (step_view q) among.0 first.on w s t agree i ∷ rest.on names among.1 w s t agree i;
      placed = placed_both a h.0 b _ _ first.placed rest.placed;
    }

pub each_kept_views : (a b : ℕ) (ns : List (List ℕ)) (os xs : List Step) → AreEachKept a b ns os xs → steps_view xs ≡ steps_view os
each_kept_views a b [] [] [] h = refl
each_kept_views a b [] [] (y ∷ xs) h = absurd h
each_kept_views a b [] (q ∷ os) [] h = absurd h
each_kept_views a b [] (q ∷ os) (y ∷ xs) h = absurd h
each_kept_views a b (m ∷ ns) [] [] h = absurd h
each_kept_views a b (m ∷ ns) [] (y ∷ xs) h = absurd h
each_kept_views a b (m ∷ ns) (q ∷ os) [] h = absurd h
each_kept_views a b (m ∷ ns) (q ∷ os) (y ∷ xs) h =
    let first = kept_view a h.0 m q y h.1 in
    let rest = each_kept_views h.0 b ns os xs h.2 in
    λ i. more (first i) (rest i)

pub each_placed_kept : (z a b : ℕ) (ns : List (List ℕ)) (os xs : List Step) (Q : Parts → Type 0) → AreEachKept a b ns os xs → AreEachOn ns os
    → Placed z a (λ ps. AreSound ps os × Q ps) → Placed z b (λ ps. AreSound ps xs × Q ps)
each_placed_kept z a b [] [] [] Q h on placed = subst (λ n. Placed z n (λ ps. ⊤ × Q ps)) h placed
each_placed_kept z a b [] [] (y ∷ xs) Q h on placed = absurd h
each_placed_kept z a b [] (q ∷ os) [] Q h on placed = absurd h
each_placed_kept z a b [] (q ∷ os) (y ∷ xs) Q h on placed = absurd h
each_placed_kept z a b (m ∷ ns) [] [] Q h on placed = absurd h
each_placed_kept z a b (m ∷ ns) [] (y ∷ xs) Q h on placed = absurd h
each_placed_kept z a b (m ∷ ns) (q ∷ os) [] Q h on placed = absurd h
each_placed_kept z a b (m ∷ ns) (q ∷ os) (y ∷ xs) Q h on placed =
    placed_map z b (λ ps. AreSound ps xs × (IsSound ps y × Q ps)) _ (λ ps x. ((x.1.0, x.0), x.1.1))
    (each_placed_kept z h.0 b ns os xs (λ ps. IsSound ps y × Q ps) h.2 on.1
    (placed_map z h.0 (λ ps. IsSound ps y × (AreSound ps os × Q ps)) _ (λ ps x. (x.1.0, (x.0, x.1.1)))
    (placed_kept z a h.0 m q y (λ ps. AreSound ps os × Q ps) h.1 on.0
    (placed_map z a (λ ps. (IsSound ps q × AreSound ps os) × Q ps) _ (λ ps x. (x.0.0, (x.0.1, x.1))) placed))))

-- all of a list, each of which may be kept after all
pub all_remembered : (a b c : ℕ) (ns : List (List ℕ)) (names : List ℕ) (os ms xs : List Step) → AreEachRemembered a b ns os ms → AreAllAmong ns names
    → AreEachKept b c ns ms xs → AreAllRemembered a c names os xs
all_remembered a b c ns names os ms xs h among k =
    let all = listed a b ns os ms h in
    record {
      views = each_kept_views b c ns ms xs k ∙ all.views;
      on = all.on names among;
      placed = placed_map a c (λ ps. AreSound ps xs × ⊤) _ (λ ps x. x.0)
          (each_placed_kept a b c ns ms xs (λ ps. ⊤) k all.each_on (placed_map a b _ (λ ps. AreSound ps ms × ⊤) (λ ps x. (x, tt)) all.placed));
    }

-- an operand, and a list in the tuples of a slot
pub inside_remembered : (a b c d e slot : ℕ) (f : List ℕ) (ns : List (List ℕ)) (inner outer names : List ℕ) (l l1 l2 : Step) (os ms xs : List Step)
    → IsRemembered a b f l l1 → AreEachRemembered b c ns os ms → AreAllAmong ns inner → AreAmongBut slot inner outer → KeepsPart c d f l1 l2
    → AreEachKept d e ns ms xs → AreAmong f names → AreAmong outer names → AreRememberedInside a e slot names l os l2 xs
inside_remembered a b c d e slot f ns inner outer names l l1 l2 os ms xs h i among but j k first second =
    let all = listed b c ns os ms i in
    record {
      operand = kept_view c d f l1 l2 j ∙ h.view;
      views = each_kept_views d e ns ms xs k ∙ all.views;
      operand_on = on_more f names (step_view l) first h.on;
      on = (inner, all.on inner among, among_but_more slot inner outer names but second);
      placed = swapped a e (λ ps. AreSound ps xs) (λ ps. IsSound ps l2)
          (each_placed_kept a d e ns ms xs (λ ps. IsSound ps l2) k all.each_on
          (swapped a d (λ ps. IsSound ps l2) (λ ps. AreSound ps ms)
          (placed_kept a c d f l1 l2 (λ ps. AreSound ps ms) j (subst (IsOn f) (sym h.view) h.on) (placed_both a b c _ _ h.placed all.placed))));
    }

-- two operands, the first of which has the list beside it
pub inside_both_remembered : (a b c d e slot : ℕ) (f g names : List ℕ) (l l1 l2 r r1 r2 : Step) (os xs : List Step)
    → AreRememberedInside a b slot f l os l1 xs → IsRemembered b c g r r1 → KeepsPart c d g r1 r2 → KeepsPart d e f l1 l2
    → AreAmong f names → AreAmong g names → AreRememberedInsideBoth a e slot names l r os l2 r2 xs
inside_both_remembered a b c d e slot f g names l l1 l2 r r1 r2 os xs h i j k first second =
    let on = h.on in
    record {
      left = kept_view d e f l1 l2 k ∙ h.operand;
      right = kept_view c d g r1 r2 j ∙ i.view;
      views = h.views;
      left_on = on_more f names (step_view l) first h.operand_on;
      right_on = on_more g names (step_view r) second i.on;
      on = (on.0, on.1, among_but_more slot on.0 f names on.2 first);
      placed =
          placed_map a e (λ ps. IsSound ps l2 × (AreSound ps xs × IsSound ps r2)) _ (λ ps x. (x.0, x.1.1, x.1.0))
          (placed_kept a d e f l1 l2 (λ ps. AreSound ps xs × IsSound ps r2) k (subst (IsOn f) (sym h.operand) h.operand_on)
          (placed_map a d (λ ps. IsSound ps r2 × (IsSound ps l1 × AreSound ps xs)) _ (λ ps x. (x.1.0, (x.1.1, x.0)))
          (placed_kept a c d g r1 r2 (λ ps. IsSound ps l1 × AreSound ps xs) j (subst (IsOn g) (sym i.view) i.on)
          (swapped a c (λ ps. IsSound ps l1 × AreSound ps xs) (λ ps. IsSound ps r1) (placed_both a b c _ _ h.placed i.placed)))));
    }

-- ---- steps of lists

pub all_made : (make : PlanTrees → PlanTree) (a b : ℕ) (names : List ℕ) → ((ps : PlanTrees) → AreOn names ps → IsOn names (make ps))
    → (os xs : List Step) (old new : Step) → AreAllRemembered a b names os xs → step_view old ≡ make (steps_view os) → step_view new ≡ make (steps_view xs)
    → ((ps : Parts) → AreSound ps xs → IsSound ps new) → IsRemembered a b names old new
all_made make a b names law os xs old new h was is sound = record {
  view = is ∙ ap make h.views ∙ sym was;
  on = subst (IsOn names) (sym was) (law (steps_view os) h.on);
  placed = placed_map a b _ _ sound h.placed;
}

pub inside_made : (make : PlanTree → PlanTrees → PlanTree) (a b slot : ℕ) (names : List ℕ)
    → ((inner : List ℕ) (p : PlanTree) (ps : PlanTrees) → AreAmongBut slot inner names → IsOn names p → AreOn inner ps → IsOn names (make p ps))
    → (l l2 : Step) (os xs : List Step) (old new : Step) → AreRememberedInside a b slot names l os l2 xs → step_view old ≡ make (step_view l) (steps_view os)
    → step_view new ≡ make (step_view l2) (steps_view xs) → ((ps : Parts) → IsSound ps l2 × AreSound ps xs → IsSound ps new) → IsRemembered a b names old new
inside_made make a b slot names law l l2 os xs old new h was is sound =
    let on = h.on in
    record {
      view = is ∙ (λ i. make (h.operand i) (h.views i)) ∙ sym was;
      on = subst (IsOn names) (sym was) (law on.0 (step_view l) (steps_view os) on.2 h.operand_on on.1);
      placed = placed_map a b _ _ sound h.placed;
    }

pub inside_both_made : (make : PlanTree → PlanTree → PlanTrees → PlanTree) (a b slot : ℕ) (names : List ℕ)
    → ((inner : List ℕ) (p q : PlanTree) (ps : PlanTrees) → AreAmongBut slot inner names → IsOn names p → IsOn names q → AreOn inner ps → IsOn names (make p q ps))
    → (l r l2 r2 : Step) (os xs : List Step) (old new : Step) → AreRememberedInsideBoth a b slot names l r os l2 r2 xs
    → step_view old ≡ make (step_view l) (step_view r) (steps_view os) → step_view new ≡ make (step_view l2) (step_view r2) (steps_view xs)
    → ((ps : Parts) → IsSound ps l2 × IsSound ps r2 × AreSound ps xs → IsSound ps new) → IsRemembered a b names old new
inside_both_made make a b slot names law l r l2 r2 os xs old new h was is sound =
    let on = h.on in
    record {
      view = is ∙ (λ i. make (h.left i) (h.right i) (h.views i)) ∙ sym was;
      on = subst (IsOn names) (sym was) (law on.0 (step_view l) (step_view r) (steps_view os) on.2 h.left_on h.right_on on.1);
      placed = placed_map a b _ _ sound h.placed;
    }

-- ---- tuples in slots of their own, and what stands where they are in scope

pub bound_remembered : (a b c d e slot reach : ℕ) (f : List ℕ) (ns : List (List ℕ)) (names : List ℕ) (l l1 l2 : Step) (os ms xs : List Step)
    → IsRemembered a b f l l1 → AreEachRemembered b c ns os ms → AreBoundNames slot ns f names reach
    → KeepsPart c d f l1 l2 → AreEachKept d e ns ms xs → AreRememberedBound a e slot reach names l os l2 xs
bound_remembered a b c d e slot reach f ns names l l1 l2 os ms xs h i n j k =
    let all = listed b c ns os ms i in
    let inner = n.together in
    let apart = n.apart in
    record {
      value = kept_view c d f l1 l2 j ∙ h.view;
      views = each_kept_views d e ns ms xs k ∙ all.views;
      on = (inner.0, on_more f inner.0 (step_view l) inner.2 h.on, all.on inner.0 inner.1, inner.3);
      apart = λ before w s t agree. all.on apart.0 apart.1 w s t (λ j c. agree j (apart.2 before j c));
      placed =
          each_placed_kept a d e ns ms xs (λ ps. IsSound ps l2) k all.each_on
          (swapped a d (λ ps. IsSound ps l2) (λ ps. AreSound ps ms)
          (placed_kept a c d f l1 l2 (λ ps. AreSound ps ms) j (subst (IsOn f) (sym h.view) h.on) (placed_both a b c _ _ h.placed all.placed)));
    }

pub bound_made : (make : PlanTrees → PlanTree → PlanTree) (a b slot reach : ℕ) (names : List ℕ)
    → ((inner : List ℕ) (ps : PlanTrees) (p : PlanTree) → AreAmongBefore slot inner names → AreOn inner ps → IsOn inner p → IsOn names (make ps p))
    → (l l2 : Step) (os xs : List Step) (old new : Step) → AreRememberedBound a b slot reach names l os l2 xs → step_view old ≡ make (steps_view os) (step_view l)
    → step_view new ≡ make (steps_view xs) (step_view l2)
    → ((ps : Parts) → (AreSound ps xs × IsSound ps l2) × AreWithinReach reach slot (steps_view xs) → IsSound ps new) → IsRemembered a b names old new
bound_made make a b slot reach names law l l2 os xs old new h was is sound =
    let on = h.on in
    record {
      view = is ∙ (λ i. make (h.views i) (h.value i)) ∙ sym was;
      on = subst (IsOn names) (sym was) (law on.0 (steps_view os) (step_view l) on.3 on.2 on.1);
      placed = placed_map a b _ _ (λ ps x. sound ps (x, subst (AreWithinReach reach slot) (sym h.views) h.apart)) h.placed;
    }
