-- Tuples by number, of which some are gone (this project's own).
use Rattle.std.specs.Prelude.{ℕ, ◌+◌, Bool, cond, List, [], ◌∷◌, refl}
use Rattle.std.specs.Coded.{Coded, code_by, coded×, coded_bool, coded_list, coded_ℕ}
use Rattle.std.specs.List.{list_any}
use Rattle.std.specs.Ordering.{eq_by_cmp}
use Rattle.td_types.specs.model.Types.{Heading}
use Rattle.td_types.specs.code.TypeCode.{heading_code}
use Rattle.td_value.specs.model.Values.{Tuple, tuple_cmp}
use Rattle.td_value.specs.code.ValueCode.{tuple_code}

-- tuples of a heading by number, with the marks of those that are gone; the first `fixed` of them stay, and so many more can
-- be put in with no memory taken
pub record Numbered : Type 0 where
  pub heading : Heading
  pub rows : List Tuple
  pub gone : List Bool
  pub fixed : ℕ
  pub room : ℕ

abbrev pub numbered_code : Coded Numbered
numbered_code =
    code_by (Heading × (List Tuple × (List Bool × (ℕ × ℕ)))) (coded× heading_code (coded× (coded_list tuple_code) (coded× (coded_list coded_bool) (coded× coded_ℕ coded_ℕ))))
    (λ n. (n.heading, (n.rows, (n.gone, (n.fixed, n.room))))) (λ p. record { heading = p.0; rows = p.1.0; gone = p.1.1.0; fixed = p.1.1.1.0; room = p.1.1.1.1 }) (λ _. refl)

-- those that are not gone
abbrev pub live : {K : Type 0} → List K → List Bool → List K
live [] gone = []
live (r ∷ rows) [] = []
live (r ∷ rows) (mark ∷ gone) = cond mark (live rows gone) (r ∷ live rows gone)

-- how many items are alike to a later one
abbrev pub repeats : {K : Type 0} → (K → K → Bool) → List K → ℕ
repeats alike [] = 0
repeats alike (x ∷ xs) = cond (list_any (alike x) xs) 1 0 + repeats alike xs

-- whether two tuples are one
abbrev pub tuple_eq : Tuple → Tuple → Bool
tuple_eq = eq_by_cmp tuple_cmp

-- the items but the last
abbrev pub front : {K : Type 0} → List K → List K
front [] = []
front (x ∷ []) = []
front (x ∷ y ∷ ys) = x ∷ front (y ∷ ys)
