-- Names with at least as many values: the tuple of the first of these.
use Rattle.std.proofs.Common.{◌≡◌, ◌≤◌, ℕ, zero, suc, List, [], ◌∷◌, length, refl, arith, ap, take}
use Rattle.std.specs.List.{All}
use Rattle.td_tree.specs.model.Names.{IsName}
use Rattle.td_value.specs.model.Values.{Tuple, Val, AreFields, AreValues, IsTuple, pack_fields, pack_parts, tuple_names}
use Rattle.td_value.specs.code.Depths.{parts_depth, tuple_depth}
use Rattle.td_value.specs.code.ValueCode.{unpack_pack_fields}
use Rattle.td_value.specs.code.Views.{tuple_view, values_of}
use Rattle.td_value.specs.code.Zipped.{AreNames}

-- the tuple's names, its values, and how many there are
pub cut_names : (ns : List (List ℕ)) (vs : List Val) → length ns ≤ length vs → tuple_names (tuple_view ns vs) ≡ ns
cut_names [] vs e = refl
cut_names (n ∷ ns) [] e = absurd (omega (arith, e))
cut_names (n ∷ ns) (v ∷ vs) e = ap (λ r. n ∷ r) (cut_names ns vs (omega (arith, e)))

pub cut_values : (ns : List (List ℕ)) (vs : List Val) → length ns ≤ length vs → values_of (tuple_view ns vs) ≡ take (length ns) vs
cut_values [] vs e = refl
cut_values (n ∷ ns) [] e = absurd (omega (arith, e))
cut_values (n ∷ ns) (v ∷ vs) e = ap (λ r. v ∷ r) (cut_values ns vs (omega (arith, e)))

pub cut_length : (ns : List (List ℕ)) (vs : List Val) → length ns ≤ length vs → length (tuple_view ns vs) ≡ length ns
cut_length [] vs e = refl
cut_length (n ∷ ns) [] e = absurd (omega (arith, e))
cut_length (n ∷ ns) (v ∷ vs) e = ap suc (cut_length ns vs (omega (arith, e)))

-- more values than names count for nothing
pub cut_first : (ns : List (List ℕ)) (vs : List Val) → tuple_view ns (take (length ns) vs) ≡ tuple_view ns vs
cut_first [] vs = refl
cut_first (n ∷ ns) [] = refl
cut_first (n ∷ ns) (v ∷ vs) = ap (λ r. (n, v) ∷ r) (cut_first ns vs)

-- a tuple of as many names as values nests as deep as the values do
pub zip_depth : (ns : List (List ℕ)) (vs : List Val) → length ns ≡ length vs → parts_depth (pack_parts vs) ≤ tuple_depth (tuple_view ns vs)
zip_depth [] [] e = omega arith
zip_depth [] (v ∷ vs) e = absurd (omega (arith, e))
zip_depth (n ∷ ns) [] e = absurd (omega (arith, e))
zip_depth (n ∷ ns) (v ∷ vs) e = omega (arith, zip_depth ns vs (omega (arith, e)))

fields : (ns : List (List ℕ)) (vs : List Val) → All IsName ns → AreValues (pack_parts vs) → AreFields (pack_fields (tuple_view ns vs))
fields [] vs a h = tt
fields (n ∷ ns) [] a h = tt
fields (n ∷ ns) (v ∷ vs) a h = (a 0 n (omega arith), h.0, fields ns vs (λ k d p. a (suc k) d (omega arith)) h.1)

-- names that ascend, with at least as many values, make a tuple
pub cut_tuple : (ns : List (List ℕ)) (vs : List Val) → length ns ≤ length vs → AreNames ns → AreValues (pack_parts vs) → IsTuple (tuple_view ns vs)
cut_tuple ns vs e names values =
    (fields ns vs names.1 values, rw (unpack_pack_fields (tuple_view ns vs), cut_names ns vs e) names.0)

-- a tuple's names are names, and ascend
are_names : (t : Tuple) → AreFields (pack_fields t) → All IsName (tuple_names t)
are_names [] h k d p = absurd (omega (arith, p))
are_names (e ∷ t) h zero d p = h.0
are_names (e ∷ t) h (suc k) d p = are_names t h.2 k d (omega (arith, p))

pub names_of_tuple : (t : Tuple) → IsTuple t → AreNames (tuple_names t)
names_of_tuple t h = (rw (unpack_pack_fields t) at h.1, are_names t h.0)
