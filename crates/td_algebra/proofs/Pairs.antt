-- The tuples of pairs: what a layout takes of the values of both.
use Rattle.std.proofs.Common.{◌≡◌, ◌∙◌, ap, sym, refl, arith, ℕ, ◌+◌, ◌<◌, Bool, true, false, List, [], ◌∷◌, ◌++◌, append-nil, append_assoc, drop, filter, get_or, length, map, take}
use Rattle.std.specs.Prelude.{◌&&◌, not}
use Rattle.std.specs.List.Sorted.{IsPermutation}
use Rattle.std.specs.Ordering.{eq_by_cmp}
use Rattle.std.proofs.lemmas.List.{flat_map_more, length-append, map-append, take_more}
use Rattle.std.proofs.lemmas.List.Elements.{All-append}
use Rattle.std.proofs.lemmas.List.Sorted.{All-permutation, IsPermutation-map, list_any-IsPermutation}
use Rattle.std.proofs.Math.Seq.{drop-append_seam}
use Rattle.td_types.specs.model.Headings.{are_distinct, has_attribute, has_name, outside}
use Rattle.td_types.specs.model.Types.{Heading, IsHeading, attribute_names, pack}
use Rattle.td_types.proofs.HeadingLaws.{IsHeading-filter, has_attribute-names}
use Rattle.td_value.specs.model.Sets.{set_of}
use Rattle.td_value.specs.code.ValueOrder.{entry_order_same, entry_order_total}
use Rattle.td_value.specs.model.Values.{Val, IsTupleOf, Tuple, entry_cmp, tuple_names, tuple_of}
use Rattle.td_value.specs.code.Views.{values_of}
use Rattle.td_value.proofs.SetLaws.{has-set_of, is_set_of, set_of-ascends}
use Rattle.td_algebra.specs.code.Layouts.{AreInRange, Sources, source_names, sources_outside, entries_taken}
use Rattle.td_algebra.specs.model.Operators.{united_tuple}
use Rattle.td_algebra.specs.code.Pairs.{IsPaired, paired_tuple, pairs_with, pair_sources, pair_tuple}
use Rattle.td_algebra.proofs.Entries.{as_many, has_name-heading, heading_distinct, names_apart, names_of_heading}
use Rattle.td_algebra.proofs.Lists.{all_kept}
use Rattle.td_algebra.proofs.Members.{first_true}
use Rattle.td_algebra.proofs.Keys.{kept_alike}
use Rattle.td_algebra.proofs.Layouts.{entry_in, taken_entries}
use Rattle.td_algebra.proofs.Sources.{has_attribute-outside, names_outside, outside_in_range, taken-append, taken_outside}

-- sources in another order make the same tuple
pub same_tuple : (sources layout : Sources) (vs : List Val) → IsPermutation sources layout → AreInRange sources vs → tuple_of (entries_taken sources vs) ≡ tuple_of (entries_taken layout vs)
same_tuple sources layout vs p h =
    let there : AreInRange layout vs = All-permutation (λ s. s.1 < length vs) sources layout p h in
    let moved : IsPermutation (entries_taken sources vs) (entries_taken layout vs) =
    rw (taken_entries sources vs h, taken_entries layout vs there) (IsPermutation-map (entry_in vs) sources layout p) in
    is_set_of entry_cmp entry_order_total entry_order_same (set_of entry_cmp (entries_taken sources vs)) (entries_taken layout vs) (set_of-ascends entry_cmp entry_order_total entry_order_same (entries_taken sources vs))
    (λ e. has-set_of entry_cmp entry_order_total entry_order_same e (entries_taken sources vs) ∙ list_any-IsPermutation (eq_by_cmp entry_cmp e) (entries_taken sources vs) (entries_taken layout vs) moved)

-- ---- the names

pub pair_distinct : (left_out : Heading) (start : ℕ) (g : Heading) (other_start : ℕ) (h : Heading) → IsHeading (pack g) → IsHeading (pack h)
    → are_distinct (source_names (pair_sources left_out start g other_start h)) ≡ true
pair_distinct left_out start g other_start h p q =
    rw (map-append (λ (s : List ℕ × ℕ). s.0) (sources_outside left_out start g) (sources_outside g other_start h), names_outside left_out start g, names_outside g other_start h)
    (names_apart (attribute_names (outside left_out g)) (attribute_names (outside g h))
    (heading_distinct (outside left_out g) (IsHeading-filter (λ a. not (has_attribute a.0 left_out)) g p)) (heading_distinct (outside g h) (IsHeading-filter (λ a. not (has_attribute a.0 g)) h q)) apart)
  where
    not_both : (b c : Bool) → b ≡ true → (c && not b) ≡ false
    not_both true true e = refl
    not_both true false e = refl
    not_both false c e = absurd (cc)

    apart : (n : List ℕ) → has_name n (attribute_names (outside left_out g)) ≡ true → has_name n (attribute_names (outside g h)) ≡ false
    apart n e =
        let there : has_attribute n g ≡ true =
        first_true (has_attribute n g) (not (has_attribute n left_out)) (sym (has_attribute-outside left_out g n) ∙ has_attribute-names n (outside left_out g) ∙ e) in
        sym (has_attribute-names n (outside g h)) ∙ has_attribute-outside g h n ∙ not_both (has_attribute n g) (has_attribute n h) there

-- ---- the values

module _ (left_out g h : Heading) (t u : Tuple) (p : IsTupleOf g t) (q : IsTupleOf h u) where
  lacking : filter (λ e. not (has_attribute e.0 g)) u ≡ filter (λ e. not (has_name e.0 (tuple_names t))) u
  lacking = kept_alike (λ n. not (has_attribute n g)) (λ n. not (has_name n (tuple_names t))) u (λ n there. ap not (sym (has_name-heading g t p n)))

  -- the values of the first before those of the second
  module _ (layout : Sources) (laid : IsPermutation (pair_sources left_out 0 g (length g) h) layout) where
    in_range : AreInRange (pair_sources left_out 0 g (length g) h) (values_of t ++ values_of u)
    in_range =
        let first : length (values_of t) ≡ length g = sym (as_many g t p) in
        let second : length (values_of u) ≡ length h = sym (as_many h u q) in
        let all : length (values_of t ++ values_of u) ≡ length (values_of t) + length (values_of u) = length-append (values_of t) (values_of u) in
        All-append (λ s. s.1 < length (values_of t ++ values_of u)) (sources_outside left_out 0 g) (sources_outside g (length g) h)
        (outside_in_range left_out 0 (length (values_of t ++ values_of u)) g (omega (arith, all, first, second)))
        (outside_in_range g (length g) (length (values_of t ++ values_of u)) h (omega (arith, all, first, second)))

    pub is_paired : IsPaired layout t u
    is_paired = All-permutation (λ s. s.1 < length (values_of t ++ values_of u)) (pair_sources left_out 0 g (length g) h) layout laid in_range

    pub pair_is : pair_tuple layout t u ≡ paired_tuple left_out t u
    pair_is =
        let first = taken_outside left_out g t 0 (values_of t ++ values_of u) (values_of u) (names_of_heading g t p) refl in
        let past : drop (length g) (values_of t ++ values_of u) ≡ values_of u ++ [] =
        rw (as_many g t p) (drop-append_seam (values_of t) (values_of u) ∙ sym (append-nil (values_of u))) in
        let second = taken_outside g h u (length g) (values_of t ++ values_of u) [] (names_of_heading h u q) past in
        sym (same_tuple (pair_sources left_out 0 g (length g) h) layout (values_of t ++ values_of u) laid in_range)
        ∙ ap tuple_of (taken-append (sources_outside left_out 0 g) (sources_outside g (length g) h) (values_of t ++ values_of u) ∙ (λ i. first i ++ (second ∙ lacking) i))

  -- and the other way round
  module _ (layout : Sources) (laid : IsPermutation (pair_sources left_out (length h) g 0 h) layout) where
    turned_range : AreInRange (pair_sources left_out (length h) g 0 h) (values_of u ++ values_of t)
    turned_range =
        let first : length (values_of t) ≡ length g = sym (as_many g t p) in
        let second : length (values_of u) ≡ length h = sym (as_many h u q) in
        let all : length (values_of u ++ values_of t) ≡ length (values_of u) + length (values_of t) = length-append (values_of u) (values_of t) in
        All-append (λ s. s.1 < length (values_of u ++ values_of t)) (sources_outside left_out (length h) g) (sources_outside g 0 h)
        (outside_in_range left_out (length h) (length (values_of u ++ values_of t)) g (omega (arith, all, first, second)))
        (outside_in_range g 0 (length (values_of u ++ values_of t)) h (omega (arith, all, first, second)))

    pub is_turned : IsPaired layout u t
    is_turned = All-permutation (λ s. s.1 < length (values_of u ++ values_of t)) (pair_sources left_out (length h) g 0 h) layout laid turned_range

    pub turned_is : pair_tuple layout u t ≡ paired_tuple left_out t u
    turned_is =
        let past : drop (length h) (values_of u ++ values_of t) ≡ values_of t ++ [] =
        rw (as_many h u q) (drop-append_seam (values_of u) (values_of t) ∙ sym (append-nil (values_of t))) in
        let first = taken_outside left_out g t (length h) (values_of u ++ values_of t) [] (names_of_heading g t p) past in
        let second = taken_outside g h u 0 (values_of u ++ values_of t) (values_of t) (names_of_heading h u q) refl in
        sym (same_tuple (pair_sources left_out (length h) g 0 h) layout (values_of u ++ values_of t) laid turned_range)
        ∙ ap tuple_of (taken-append (sources_outside left_out (length h) g) (sources_outside g 0 h) (values_of u ++ values_of t) ∙ (λ i. first i ++ (second ∙ lacking) i))

-- where nothing is left out, that is the united tuple
pub united_is : (t u : Tuple) → paired_tuple [] t u ≡ united_tuple t u
united_is t u = ap (λ es. tuple_of (es ++ filter (λ e. not (has_name e.0 (tuple_names t))) u)) (all_kept (λ (e : List ℕ × Val). not (has_attribute e.0 [])) t (λ e. refl))

-- ---- loops over pairs

-- the first of the items left is put after the others
pub put_first : {X Y : Type 0} (f : X → Y) (items rest : List X) (x : X) (y : Y) (old new all : List Y) → items ≡ x ∷ rest → y ≡ f x
    → new ≡ old ++ y ∷ [] → old ++ map f items ≡ all → new ++ map f rest ≡ all
put_first f items rest x y old new all first is push so_far =
    ap (λ ys. ys ++ map f rest) push ∙ append_assoc old (y ∷ []) (map f rest)
    ∙ ap (λ z. old ++ z ∷ map f rest) is ∙ ap (λ xs. old ++ map f xs) (sym first) ∙ so_far

-- the pairs of one more
pub pairs_more : (partners : Tuple → List Tuple) (f : Tuple → Tuple → Tuple) (rows : List Tuple) (i : ℕ) (row : Tuple) (old new : List Tuple) → i < length rows → row ≡ get_or rows i row
    → new ≡ old ++ map (f row) (partners row) → old ≡ pairs_with partners f (take i rows) → new ≡ pairs_with partners f (take (i + 1) rows)
pairs_more partners f rows i row old new l is put so_far =
    put ∙ ap (λ ts. ts ++ map (f row) (partners row)) so_far ∙ flat_map_more (λ t. map (f t) (partners t)) [] (take i rows) row
    ∙ ap (pairs_with partners f) (sym (take_more rows i row l ∙ ap (λ t. take i rows ++ t ∷ []) (sym is)))
