-- The tuples in hand are in the slots of their places.
use Rattle.std.proofs.Common.{◌≡◌, ◌∙◌, ◌+◌, ℕ, zero, suc, List, [], ◌∷◌, ◌++◌, ap, append_assoc, arith, length, map, reverse, subst, sym}
use Rattle.std.proofs.lemmas.List.{append-nil, reverse-append}
use Rattle.std.specs.Borrow.{Bor}
use Rattle.std.specs.List.{slice_get}
use Rattle.td_plan.specs.code.Hands.{cells_lent, slots_lent}
use Rattle.td_plan.specs.code.Plans.{Slots}
use Rattle.td_plan.specs.code.PlansOf.{AreSlotsOf}
use Rattle.td_value.specs.model.Values.{Tuple}

-- so are those from a place on, before others
slots_from : (ts : List (Bor Tuple)) (rest : List Tuple) (s : Slots) → ((j n : ℕ) → n ≡ length rest + j → s n ≡ cells_lent (slice_get ts j)) → AreSlotsOf rest s
    → AreSlotsOf (reverse (map (λ t. t.now) ts) ++ rest) s
slots_from [] rest s at are = are
slots_from (t ∷ ts) rest s at are =
    let us = map (λ (t : Bor Tuple). t.now) ts in
    let next : reverse (t.now ∷ us) ++ rest ≡ reverse us ++ (t.now ∷ rest) = ap (λ xs. xs ++ rest) (reverse-append (t.now ∷ []) us) ∙ append_assoc (reverse us) (t.now ∷ []) rest in
    subst (λ xs. AreSlotsOf xs s) (sym next)
    (slots_from ts (t.now ∷ rest) s (λ j n h. at (suc j) n (omega (arith, h))) (at zero (length rest) (omega arith), are))

pub hand_slots : (ts : List (Bor Tuple)) → AreSlotsOf (reverse (map (λ t. t.now) ts)) (slots_lent ts)
hand_slots ts =
    subst (λ xs. AreSlotsOf xs (slots_lent ts)) (append-nil (reverse (map (λ (t : Bor Tuple). t.now) ts)))
    (slots_from ts [] (slots_lent ts) (λ j n h. ap (slots_lent ts) (let e : n ≡ j = omega (arith, h) in e)) tt)
