-- The entries of a tuple that pass a test, kept one after another.
use Rattle.std.proofs.Common.{◌≡◌, ◌∙◌, ◌+◌, ◌<◌, ap, sym, refl, arith, ℕ, List, [], ◌∷◌, ◌++◌, length, get_or, drop, filter, Bool, true, false, cond, append_assoc}
use Rattle.std.specs.declared.cmp.Ordering.TheVariants.{Less}
use Rattle.std.specs.List.{AllByRecursion}
use Rattle.std.specs.List.Sorted.{IsStrictlySortedBy}
use Rattle.std.proofs.lemmas.List.{at_drop_more}
use Rattle.td_value.specs.model.Values.{Val, AreFields, Tuple, IsTuple, tuple_names, pack_fields}
use Rattle.td_value.specs.code.ValueCode.{unpack_pack_fields}
use Rattle.td_value.specs.code.Views.{tuple_view}
use Rattle.td_value.proofs.HeadingOf.{zip-append}
use Rattle.td_types.proofs.DistinctNames.{name_cmp}
use Rattle.td_value.proofs.Zips.{IsTuple-from}

module _ (p : List ℕ × Val → Bool) where
  first_left : (ns : List (List ℕ)) (vs : List Val) (i : ℕ) (n : List ℕ) (v : Val) → length ns ≡ length vs → i < length vs → n ≡ get_or ns i n → v ≡ get_or vs i v
      → filter p (tuple_view (drop i ns) (drop i vs)) ≡ cond (p (n, v)) ((n, v) ∷ filter p (tuple_view (drop (i + 1) ns) (drop (i + 1) vs))) (filter p (tuple_view (drop (i + 1) ns) (drop (i + 1) vs)))
  first_left ns vs i n v e k q r =
      let names : drop i ns ≡ n ∷ drop (i + 1) ns = at_drop_more (λ r. r) ns i n (omega (arith, e, k)) ∙ ap (λ x. x ∷ drop (i + 1) ns) (sym q) in
      let values : drop i vs ≡ v ∷ drop (i + 1) vs = at_drop_more (λ r. r) vs i v k ∙ ap (λ x. x ∷ drop (i + 1) vs) (sym r) in
      rw (names, values) refl

  -- an entry that passes
  pub kept_yes : (ns : List (List ℕ)) (vs : List Val) (i : ℕ) (n : List ℕ) (v : Val) (kn : List (List ℕ)) (kv : List Val) (all : Tuple)
      → length ns ≡ length vs → i < length vs → n ≡ get_or ns i n → v ≡ get_or vs i v → length kn ≡ length kv → p (n, v) ≡ true
      → tuple_view kn kv ++ filter p (tuple_view (drop i ns) (drop i vs)) ≡ all
      → tuple_view (kn ++ n ∷ []) (kv ++ v ∷ []) ++ filter p (tuple_view (drop (i + 1) ns) (drop (i + 1) vs)) ≡ all
  kept_yes ns vs i n v kn kv all e k q r d h inv =
      rw (zip-append kn kv n v d, append_assoc)
      (ap (λ l. tuple_view kn kv ++ l) (sym (first_left ns vs i n v e k q r ∙ rw h refl)) ∙ inv)

  -- an entry that does not
  pub kept_no : (ns : List (List ℕ)) (vs : List Val) (i : ℕ) (n : List ℕ) (v : Val) (kn : List (List ℕ)) (kv : List Val) (all : Tuple)
      → length ns ≡ length vs → i < length vs → n ≡ get_or ns i n → v ≡ get_or vs i v → p (n, v) ≡ false
      → tuple_view kn kv ++ filter p (tuple_view (drop i ns) (drop i vs)) ≡ all
      → tuple_view kn kv ++ filter p (tuple_view (drop (i + 1) ns) (drop (i + 1) vs)) ≡ all
  kept_no ns vs i n v kn kv all e k q r h inv =
      ap (λ l. tuple_view kn kv ++ l) (sym (first_left ns vs i n v e k q r ∙ rw h refl)) ∙ inv

  fields_kept : (es : Tuple) → AreFields (pack_fields es) → AreFields (pack_fields (filter p es))
  fields_kept [] h = tt
  fields_kept (e ∷ es) h = by_test (fields_kept es h.2) (p e)
    where
      by_test : AreFields (pack_fields (filter p es)) → (b : Bool) → AreFields (pack_fields (cond b (e ∷ filter p es) (filter p es)))
      by_test rest true = (h.0, h.1, rest)
      by_test rest false = rest

  below_kept : (n : List ℕ) (es : Tuple) → AllByRecursion (λ m. name_cmp n m ≡ Less) (tuple_names es) → AllByRecursion (λ m. name_cmp n m ≡ Less) (tuple_names (filter p es))
  below_kept n [] h = tt
  below_kept n (e ∷ es) h = by_test (below_kept n es h.1) (p e)
    where
      by_test : AllByRecursion (λ m. name_cmp n m ≡ Less) (tuple_names (filter p es)) → (b : Bool) → AllByRecursion (λ m. name_cmp n m ≡ Less) (tuple_names (cond b (e ∷ filter p es) (filter p es)))
      by_test rest true = (h.0, rest)
      by_test rest false = rest

  names_kept : (es : Tuple) → IsStrictlySortedBy name_cmp (tuple_names es) → IsStrictlySortedBy name_cmp (tuple_names (filter p es))
  unfolding IsStrictlySortedBy
  names_kept [] h = tt
  names_kept (e ∷ es) h = by_test (names_kept es h.1) (p e)
    where
      by_test : IsStrictlySortedBy name_cmp (tuple_names (filter p es)) → (b : Bool) → IsStrictlySortedBy name_cmp (tuple_names (cond b (e ∷ filter p es) (filter p es)))
      by_test rest true = (below_kept e.0 es h.0, rest)
      by_test rest false = rest

  -- the entries of a tuple that pass are a tuple
  pub IsTuple-filter : (es : Tuple) → IsTuple es → IsTuple (filter p es)
  IsTuple-filter es h = IsTuple-from (filter p es) (fields_kept es h.0) (names_kept es (rw (sym (unpack_pack_fields es)) h.1))
