use Rattle.std.specs.Prelude.{ℕ, List, [], ◌∷◌, length, ◌≡◌, refl, ◌++◌}
use Rattle.std.proofs.Common.{arith, ap}
use Rattle.std.specs.List.Sorted.{IsStrictlySortedBy}
use Rattle.td_tree.specs.model.Names.{IsName}
use Rattle.td_value.specs.code.ValueCode.{unpack_pack_fields}
use Rattle.td_value.specs.code.Views.{tuple_view, values_of}
use Rattle.std.specs.Ordering.{nat_cmp}
use Rattle.std.specs.Cmp.Lexicographic.{slice_cmp}
use Rattle.td_value.specs.model.Values.{Val, Tuple, AreFields, IsValue, IsTuple, tuple_names, pack_fields}

-- a tuple's names and values are those that it was made of
pub zip_names : (ns : List (List ℕ)) (vs : List Val) → length ns ≡ length vs → tuple_names (tuple_view ns vs) ≡ ns
zip_names [] [] e = refl
zip_names [] (v ∷ vs) e = absurd (omega (arith, e))
zip_names (n ∷ ns) [] e = absurd (omega (arith, e))
zip_names (n ∷ ns) (v ∷ vs) e = ap (λ r. n ∷ r) (zip_names ns vs (omega (arith, e)))

pub zip_values : (ns : List (List ℕ)) (vs : List Val) → length ns ≡ length vs → values_of (tuple_view ns vs) ≡ vs
zip_values [] [] e = refl
zip_values [] (v ∷ vs) e = absurd (omega (arith, e))
zip_values (n ∷ ns) [] e = absurd (omega (arith, e))
zip_values (n ∷ ns) (v ∷ vs) e = ap (λ r. v ∷ r) (zip_values ns vs (omega (arith, e)))

-- entries are their names with their values
pub unzipped : (es : Tuple) → tuple_view (tuple_names es) (values_of es) ≡ es
unzipped [] = refl
unzipped (e ∷ es) = ap (λ r. e ∷ r) (unzipped es)

pub AreFields-push : (es : Tuple) (n : List ℕ) (v : Val) → AreFields (pack_fields es) → IsName n → IsValue v → AreFields (pack_fields (es ++ (n, v) ∷ []))
AreFields-push [] n v h p q = (p, q, tt)
AreFields-push (e ∷ es) n v h p q = (h.0, h.1, AreFields-push es n v h.2 p q)

-- the tuple that is made of entries
pub IsTuple-from : (es : Tuple) → AreFields (pack_fields es) → IsStrictlySortedBy (slice_cmp nat_cmp) (tuple_names es) → IsTuple es
IsTuple-from es h a = (h, rw (unpack_pack_fields es) a)
