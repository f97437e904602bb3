-- Tuples by the values that they give to names.
use Rattle.std.proofs.Common.{◌≡◌, ◌∙◌, ap, sym, refl, subst, ℕ, Bool, true, false, List, [], ◌∷◌, None, filter}
use Rattle.std.specs.Prelude.{◌&&◌, IsTrue, T, if◌then◌else◌}
use Rattle.std.specs.declared.cmp.Ordering.{Ordering}
use Rattle.std.specs.declared.cmp.Ordering.TheVariants.{Less, Equal, Greater}
use Rattle.std.specs.Ordering.{is_lt}
use Rattle.std.specs.List.{AllByRecursion}
use Rattle.std.specs.List.Sorted.{IsStrictlySortedBy}
use Rattle.std.specs.FinMap.Entries.{below_all, find, find-where_key, is_sorted, same_entries}
use Rattle.std.proofs.lemmas.Cmp.{nat_list_cmp_total}
use Rattle.std.proofs.lemmas.Map.Lookups.{exact_bytes}
use Rattle.td_types.specs.model.Headings.{has_name}
use Rattle.td_types.proofs.HeadingLaws.{name_cmp, same_name-ties}
use Rattle.td_value.specs.model.Agreement.{AgreeOn, agree_on}
use Rattle.td_value.specs.laws.AgreementLaws.{AgreementIsOfValues, ProjectionsKeepValues, TuplesAreTheirValues}
use Rattle.td_value.specs.code.ValueCode.{unpack_pack_fields}
use Rattle.td_value.specs.code.ValueOrder.{tuple_Decides}
use Rattle.td_value.specs.model.Values.{Tuple, IsTuple, projected_tuple, tuple_names, value_at}
use Rattle.td_value.proofs.Kept.{IsTuple-filter}

-- the value of a name is what std's look-up finds
pub find-value_at : (n : List ℕ) (es : Tuple) → find name_cmp n es ≡ value_at n es
find-value_at n [] = refl
find-value_at n (e ∷ es) = rw (same_name-ties e.0 n, find-value_at n es) refl

less_is : (o : Ordering) → o ≡ Less → T (is_lt o)
less_is Less e = tt
less_is Equal e = cc
less_is Greater e = cc

both : (a b : Bool) → T a → T b → T (a && b)
both true b p q = q
both false b p q = p

above_first : (n : List ℕ) (es : Tuple) → AllByRecursion (λ m. name_cmp n m ≡ Less) (tuple_names es) → T (below_all name_cmp n es)
above_first n [] h = tt
above_first n (e ∷ es) h = both _ _ (less_is (name_cmp n e.0) h.0) (above_first n es h.1)

-- ascending names are sorted entries
sorted_entries : (es : Tuple) → IsStrictlySortedBy name_cmp (tuple_names es) → T (is_sorted name_cmp es)
unfolding IsStrictlySortedBy
sorted_entries [] h = tt
sorted_entries (e ∷ es) h = both _ _ (above_first e.0 es h.0) (sorted_entries es h.1)

-- entries whose names ascend are the values that they give
pub entries_of_values : (es fs : Tuple) → IsStrictlySortedBy name_cmp (tuple_names es) → IsStrictlySortedBy name_cmp (tuple_names fs)
    → ((n : List ℕ) → value_at n es ≡ value_at n fs) → es ≡ fs
entries_of_values es fs a b e =
    same_entries name_cmp nat_list_cmp_total exact_bytes es fs (sorted_entries es a) (sorted_entries fs b)
    (λ n. find-value_at n es ∙ e n ∙ sym (find-value_at n fs))

-- a tuple's names ascend
pub names_ascend : (t : Tuple) → IsTuple t → IsStrictlySortedBy name_cmp (tuple_names t)
names_ascend t h = subst (λ es. IsStrictlySortedBy name_cmp (tuple_names es)) (unpack_pack_fields t) h.1

pub tuples_of_values : TuplesAreTheirValues
tuples_of_values s t p q e = entries_of_values s t (names_ascend s p) (names_ascend t q) e

-- the entries whose names pass a test
pub value_at-filter : (p : List ℕ → Bool) (n : List ℕ) (es : Tuple) → value_at n (filter (λ e. p e.0) es) ≡ (if p n then value_at n es else None)
value_at-filter p n es =
    sym (find-value_at n (filter (λ e. p e.0) es)) ∙ find-where_key name_cmp p n (λ m e. ap p (sym (exact_bytes n m e))) es
    ∙ ap (λ v. if p n then v else None) (find-value_at n es)

pub value_of_projection : ProjectionsKeepValues
value_of_projection names t name = value_at-filter (λ n. has_name n names) name t

pub agreement_of_values : AgreementIsOfValues
agreement_of_values names s t p q = (values, projections)
  where
    kept : (u : Tuple) (n : List ℕ) → has_name n names ≡ true → value_at n (projected_tuple names u) ≡ value_at n u
    kept u n e = value_of_projection names u n ∙ rw e refl

    values : IsTrue (agree_on names s t) → AgreeOn names s t
    values h n e =
        let same : projected_tuple names s ≡ projected_tuple names t = (tuple_Decides (projected_tuple names s) (projected_tuple names t)).0 h in
        sym (kept s n e) ∙ ap (value_at n) same ∙ kept t n e

    by_name : AgreeOn names s t → (n : List ℕ) (there : Bool) → has_name n names ≡ there
        → (if there then value_at n s else None) ≡ (if there then value_at n t else None)
    by_name h n true e = h n e
    by_name h n false e = refl

    projections : AgreeOn names s t → IsTrue (agree_on names s t)
    projections h =
        (tuple_Decides (projected_tuple names s) (projected_tuple names t)).1
        (tuples_of_values (projected_tuple names s) (projected_tuple names t) (IsTuple-filter (λ e. has_name e.0 names) s p) (IsTuple-filter (λ e. has_name e.0 names) t q)
        (λ n. value_of_projection names s n ∙ by_name h n (has_name n names) refl ∙ sym (value_of_projection names t n)))
