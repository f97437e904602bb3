-- Slots where one more tuple is in scope.
use Rattle.std.proofs.Common.{◌≡◌, ◌∙◌, ◌≤◌, ℕ, Bool, true, false, List, [], ◌∷◌, ap, arith, length, map, refl, sym}
use Rattle.std.specs.Prelude.{nat_eq}
use Rattle.std.proofs.lemmas.Bool.{eq-eqb, eqb-true}
use Rattle.std.proofs.lemmas.List.{length-map}
use Rattle.td_plan.specs.code.Plans.{Slots, with_slot}
use Rattle.td_plan.specs.code.PlansOf.{AreSlotsOf}
use Rattle.td_types.specs.model.Types.{Heading}
use Rattle.td_value.specs.model.Values.{Tuple, Val, heading_of}
use Rattle.td_value.specs.code.Views.{values_of}

-- what is further out stays
other_slot : (j k : ℕ) (row : List Val) (slots : Slots) → (j ≡ k → ⊥) → with_slot k row slots j ≡ slots j
other_slot j k row slots other = by_test (nat_eq j k) refl
  where
    by_test : (b : Bool) → nat_eq j k ≡ b → with_slot k row slots j ≡ slots j
    by_test true e = absurd (other (eqb-true j k e))
    by_test false e = rw e refl

outer_slots : (s : List Tuple) (k : ℕ) (row : List Val) (slots : Slots) → length s ≤ k → AreSlotsOf s slots → AreSlotsOf s (with_slot k row slots)
outer_slots [] k row slots l f = tt
outer_slots (t ∷ s) k row slots l f =
    (other_slot (length s) k row slots (λ e. omega (arith, e, l)) ∙ f.0, outer_slots s k row slots (omega (arith, l)) f.1)

same_slot : (k : ℕ) (row : List Val) (slots : Slots) → with_slot k row slots k ≡ row
same_slot k row slots = rw (eq-eqb k k refl) refl

-- the slot of a further tuple is how many are in scope
pub entered_slots : (hs : List Heading) (t : Tuple) (s : List Tuple) (slots : Slots) (slot : ℕ) → slot ≡ length hs → map heading_of s ≡ hs
    → AreSlotsOf s slots → AreSlotsOf (t ∷ s) (with_slot slot (values_of t) slots)
entered_slots hs t s slots slot e headed f =
    let at : length s ≡ slot = sym (length-map s heading_of) ∙ ap length headed ∙ sym e in (
      ap (with_slot slot (values_of t) slots) at ∙ same_slot slot (values_of t) slots,
      outer_slots s slot (values_of t) slots (omega (arith, at)) f,
    )
