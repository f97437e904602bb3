-- Running sums, and the greatest and least so far.
use Rattle.std.proofs.Common.{◌≡◌, ◌∙◌, ◌+◌, ◌<◌, ap, sym, refl, ℕ, true, false, List, [], ◌∷◌, ◌++◌, get_or, length, take}
use Rattle.std.proofs.lemmas.List.{take_more}
use Rattle.std.proofs.Math.IntN.{+ℤ_assoc, +ℤ_idl, +ℤ_idr}
use Rattle.std.specs.Ordering.{is_lt}
use Rattle.td_value.specs.model.Values.{value_cmp}
use Rattle.std.specs.Prelude.{◌+ℤ◌}
use Rattle.td_value.specs.model.Values.{Val}
use Rattle.td_group.specs.model.Aggregates.{greater, greatest_value, least_value, less, summand, sum_of}

pub sum_more : (vs : List Val) (w : Val) → sum_of (vs ++ w ∷ []) ≡ (sum_of vs +ℤ summand w)
sum_more [] w = +ℤ_idr (summand w) ∙ sym (+ℤ_idl (summand w))
sum_more (v ∷ vs) w = ap (λ z. summand v +ℤ z) (sum_more vs w) ∙ sym (+ℤ_assoc (summand v) (sum_of vs) (summand w))

pub greatest_more : (v : Val) (vs : List Val) (w : Val) → greatest_value v (vs ++ w ∷ []) ≡ greater (greatest_value v vs) w
greatest_more v [] w = refl
greatest_more v (u ∷ vs) w = greatest_more (greater v u) vs w

pub least_more : (v : Val) (vs : List Val) (w : Val) → least_value v (vs ++ w ∷ []) ≡ less (least_value v vs) w
least_more v [] w = refl
least_more v (u ∷ vs) w = least_more (less v u) vs w

-- one value more of those that a loop has passed
pub sum_taken : (vs : List Val) (k : ℕ) (w : Val) → k < length vs → w ≡ get_or vs k w → sum_of (take (k + 1) vs) ≡ (sum_of (take k vs) +ℤ summand w)
sum_taken vs k w l is = ap sum_of (take_more vs k w l ∙ ap (λ y. take k vs ++ y ∷ []) (sym is)) ∙ sum_more (take k vs) w

pub greatest_taken : (v : Val) (vs : List Val) (k : ℕ) (w : Val) → k < length vs → w ≡ get_or vs k w → greatest_value v (take (k + 1) vs) ≡ greater (greatest_value v (take k vs)) w
greatest_taken v vs k w l is = ap (greatest_value v) (take_more vs k w l ∙ ap (λ y. take k vs ++ y ∷ []) (sym is)) ∙ greatest_more v (take k vs) w

pub least_taken : (v : Val) (vs : List Val) (k : ℕ) (w : Val) → k < length vs → w ≡ get_or vs k w → least_value v (take (k + 1) vs) ≡ less (least_value v (take k vs)) w
least_taken v vs k w l is = ap (least_value v) (take_more vs k w l ∙ ap (λ y. take k vs ++ y ∷ []) (sym is)) ∙ least_more v (take k vs) w

-- the greatest and the least of one value more
module _ (v : Val) (vs : List Val) (k : ℕ) (w best next : Val) (l : k < length vs) (is : w ≡ get_or vs k w) where
  pub greater_is : best ≡ greatest_value v (take k vs) → is_lt (value_cmp best w) ≡ true → next ≡ w → next ≡ greatest_value v (take (k + 1) vs)
  greater_is h test e =
      let new : greater best w ≡ w = rw test refl in
      e ∙ sym new ∙ ap (λ u. greater u w) h ∙ sym (greatest_taken v vs k w l is)

  pub greater_stays : best ≡ greatest_value v (take k vs) → is_lt (value_cmp best w) ≡ false → next ≡ best → next ≡ greatest_value v (take (k + 1) vs)
  greater_stays h test e =
      let old : greater best w ≡ best = rw test refl in
      e ∙ sym old ∙ ap (λ u. greater u w) h ∙ sym (greatest_taken v vs k w l is)

  pub less_is : best ≡ least_value v (take k vs) → is_lt (value_cmp w best) ≡ true → next ≡ w → next ≡ least_value v (take (k + 1) vs)
  less_is h test e =
      let new : less best w ≡ w = rw test refl in
      e ∙ sym new ∙ ap (λ u. less u w) h ∙ sym (least_taken v vs k w l is)

  pub less_stays : best ≡ least_value v (take k vs) → is_lt (value_cmp w best) ≡ false → next ≡ best → next ≡ least_value v (take (k + 1) vs)
  less_stays h test e =
      let old : less best w ≡ best = rw test refl in
      e ∙ sym old ∙ ap (λ u. less u w) h ∙ sym (least_taken v vs k w l is)
