-- Steps in a vector of a step's: which parts they have, and how deep they are.
use Rattle.std.proofs.Common.{◌≡◌, ◌∙◌, ◌<◌, ◌≤◌, ◌+◌, ◌∷◌, [], List, ℕ, zero, suc, ap, arith, drop, get_or, length, refl, subst, sym}
use Rattle.std.proofs.lemmas.List.{drop_more}
use Rattle.std.specs.Global.{Vec}
use Rattle.std.specs.Prelude.{max}
use Rattle.td_plan.specs.declared.plan.step.Selector.TheVariants as selectors
use Rattle.td_plan.specs.declared.plan.step.Step.{Step, Row_of-Step, end_of-Step, more_of-Step, items-the_row-Step, items_hidden-the_row-Step-0}
use Rattle.td_plan.specs.declared.plan.step.Step.TheVariants as p
use Rattle.td_plan.specs.code.Memos.{AreSound, IsSoundRow, Parts}
use Rattle.td_plan.specs.code.StepHeights.{row_height, step_height, steps_height}

abbrev part_row : Step → (n : _) × Row_of-Step n
part_row (p.Select' selector _ row) = (_, row)
part_row _ = (_, end_of-Step)

row_sound : (ps : Parts) (n : _) (row : Row_of-Step n) → AreSound ps (items-the_row-Step n row) → IsSoundRow ps row
row_sound ps n end_of-Step h = tt
row_sound ps n (more_of-Step first rest) h = (h.0, row_sound ps _ rest h.1)

pub parts_sound : (ps : Parts) (v : Vec Step) → AreSound ps v.items → IsSoundRow ps (part_row (p.Select selectors.Relation v)).1
parts_sound ps v h =
    let row = part_row (p.Select selectors.Relation v) in
    row_sound ps row.0 row.1 (subst (AreSound ps) (sym (items_hidden-the_row-Step-0 v)) h)

row_deep : (n : _) (row : Row_of-Step n) → row_height row ≡ steps_height (items-the_row-Step n row)
row_deep n end_of-Step = refl
row_deep n (more_of-Step first rest) = ap (max (step_height first)) (row_deep _ rest)

pub parts_deep : (v : Vec Step) → row_height (part_row (p.Select selectors.Relation v)).1 ≡ steps_height v.items
parts_deep v =
    let row = part_row (p.Select selectors.Relation v) in
    row_deep row.0 row.1 ∙ ap steps_height (items_hidden-the_row-Step-0 v)

-- one that is still to come, of a list that is gone through in place
pub part_deep : (cur old : List Step) (i : ℕ) (x : Step) → i < length cur → x ≡ get_or cur i x → drop i cur ≡ drop i old → step_height x ≤ steps_height old
part_deep cur old i x l e left =
    let rest : x ∷ drop (i + 1) cur ≡ drop i old = ap (λ y. y ∷ drop (i + 1) cur) e ∙ sym (drop_more cur i x l) ∙ left in
    let there = ap steps_height rest in
    let all = drop_deep old i in
    omega (arith, there, all)
  where
    drop_deep : (xs : List Step) (i : ℕ) → steps_height (drop i xs) ≤ steps_height xs
    drop_deep xs zero = omega arith
    drop_deep [] (suc i) = omega arith
    drop_deep (y ∷ xs) (suc i) = let h = drop_deep xs i in omega (arith, h)
