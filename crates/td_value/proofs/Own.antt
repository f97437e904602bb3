-- A tuple's own names and values.
use Rattle.std.proofs.Common.{◌≡◌, ◌∙◌, ◌++◌, ℕ, List, [], ◌∷◌, ap, length, refl, sym}
use Rattle.std.proofs.lemmas.List.{length-map}
use Rattle.td_value.specs.code.Hashes.{fed_parts, fed_tuple, fed_value}
use Rattle.td_value.specs.model.Values.{Tuple, Val, pack_parts, tuple_names}
use Rattle.td_value.specs.code.Views.{tuple_view, values_of}
use Rattle.td_value.proofs.Zips.{unzipped}

-- it has as many names as values
pub as_many : (t : Tuple) → length (tuple_names t) ≡ length (values_of t)
as_many t = length-map t (λ e. e.0) ∙ sym (length-map t (λ e. e.1))

-- lists that are its names and its values are as long
pub as_many_lent : (t : Tuple) (ns : List (List ℕ)) (vs : List Val) → ns ≡ tuple_names t → vs ≡ values_of t → length ns ≡ length vs
as_many_lent t ns vs names values = ap length names ∙ as_many t ∙ sym (ap length values)

-- they are its entries
pub own_entries : (t : Tuple) (ns : List (List ℕ)) (vs : List Val) → ns ≡ tuple_names t → vs ≡ values_of t → tuple_view ns vs ≡ t
own_entries t ns vs names values = ap (λ xs. tuple_view xs vs) names ∙ ap (tuple_view (tuple_names t)) values ∙ unzipped t

-- what its hash is fed is what those of its values are
pub fed_by_own_values : (t : Tuple) → fed_tuple t ≡ fed_parts (pack_parts (values_of t))
fed_by_own_values [] = refl
fed_by_own_values (e ∷ t) = ap (λ r. fed_value e.1 ++ r) (fed_by_own_values t)
