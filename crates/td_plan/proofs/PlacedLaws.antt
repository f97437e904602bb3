-- Parts for places.
use Rattle.std.proofs.Common.{◌≡◌, ◌∙◌, ℕ, Bool, true, false, suc, ap, arith, refl, sym, if◌then◌else◌}
use Rattle.std.specs.Prelude.{nat_eq}
use Rattle.std.proofs.lemmas.Bool.{eq-eqb, eqb-true}
use Rattle.td_plan.specs.code.Memos.{Parts, Placed, SameBelow}
use Rattle.td_plan.specs.code.Plans as plans
use Rattle.td_plan.specs.code.Plans.{PlanTree}
use Rattle.td_tree.specs.declared.cause.Cause.TheVariants as causes

unequal : (a b : ℕ) → (a ≡ b → ⊥) → nat_eq a b ≡ false
unequal a b h = by_test (nat_eq a b) refl
  where
    by_test : (t : Bool) → nat_eq a b ≡ t → nat_eq a b ≡ false
    by_test true e = absurd (h (eqb-true a b e))
    by_test false e = e

with_part : ℕ → PlanTree → Parts → Parts
with_part k p ps = λ j. if nat_eq j k then p else ps j

part_here : (k : ℕ) (p : PlanTree) (ps : Parts) → with_part k p ps k ≡ p
unfolding with_part
part_here k p ps = ap (λ b. if b then p else ps k) (eq-eqb k k refl)

part_below : (k : ℕ) (p : PlanTree) (ps : Parts) → SameBelow k ps (with_part k p ps)
unfolding with_part
part_below k p ps = λ j l. sym (ap (λ b. if b then p else ps j) (unequal j k (λ e. omega (arith, e, l))))

pub placed_all : (a : ℕ) (P : Parts → Type 0) → ((ps : Parts) → P ps) → Placed a a P
placed_all a P h = (omega arith, λ qs. (qs, λ j l. refl, λ rs same. h rs))

pub placed_map : (a b : ℕ) (P Q : Parts → Type 0) → ((ps : Parts) → P ps → Q ps) → Placed a b P → Placed a b Q
placed_map a b P Q f h = (h.0, λ qs. let x = h.1 qs in (x.0, x.1, λ rs same. f rs (x.2 rs same)))

pub placed_both : (a b c : ℕ) (P Q : Parts → Type 0) → Placed a b P → Placed b c Q → Placed a c (λ ps. P ps × Q ps)
placed_both a b c P Q h i = (
  omega (arith, h.0, i.0),
  λ qs.
      let x = h.1 qs in
      let y = i.1 x.0 in
      (y.0, λ j l. x.1 j l ∙ y.1 j (omega (arith, l, h.0)), λ rs same. (x.2 rs (λ j l. y.1 j l ∙ same j (omega (arith, l, i.0))), y.2 rs same)),
)

-- one more place, for this part
pub placed_more : (a b : ℕ) (p : PlanTree) (P : Parts → Type 0) → Placed a b P → Placed a (suc b) (λ ps. (ps b ≡ p) × P ps)
placed_more a b p P h = (
  omega (arith, h.0),
  λ qs.
      let x = h.1 qs in
      let below = part_below b p x.0 in (
        with_part b p x.0,
        λ j l. x.1 j l ∙ below j (omega (arith, l, h.0)),
        λ rs same.
            (sym (same b (omega arith)) ∙ part_here b p x.0, x.2 rs (λ j l. below j l ∙ same j (omega (arith, l)))),
      ),
)

pub placed_end : (a b : ℕ) (P : Parts → Type 0) → Placed a b P → (ps : Parts) × P ps
placed_end a b P h = let x = h.1 (λ j. plans.refused causes.NameUnknown) in (x.0, x.2 x.0 (λ j l. refl))
