-- The tuples that layouts make of a row's values with others: those of WRAP, UNGROUP and UNWRAP.
use Rattle.std.proofs.Common.{◌≡◌, ◌∙◌, ◌+◌, ap, append-nil, arith, length, map, sym, refl, subst, ℕ, Bool, true, false, List, [], ◌∷◌, ◌++◌}
use Rattle.std.specs.Prelude.{◌&&◌, not}
use Rattle.std.specs.List.{All, flat_map, zip}
use Rattle.std.specs.List.Sorted.{IsPermutation}
use Rattle.std.proofs.lemmas.List.{length-append, length-map}
use Rattle.std.proofs.lemmas.List.Elements.{All-contains}
use Rattle.std.proofs.lemmas.List.Sorted.{IsPermutation-sym}
use Rattle.td_types.specs.model.Headings.{are_distinct, has_attribute, has_name, have_no_common, outside, projection, without_attribute}
use Rattle.td_types.specs.model.Types.{Heading, IsHeading, attribute_names, pack}
use Rattle.td_types.proofs.HeadingLaws.{IsHeading-filter, has_attribute-names}
use Rattle.td_value.specs.model.Values.{IsTupleOf, Relation, Tuple, Val, projected_tuple, tuple_of, tuple_value, value_at}
use Rattle.td_value.specs.code.Views.{values_of}
use Rattle.td_value.proofs.Zips.{unzipped}
use Rattle.td_algebra.specs.code.Layouts.{AreInRange, Sources, entries_taken, numbered_sources, placed_tuple, sources_outside, sources_with}
use Rattle.td_algebra.specs.code.Pairs.{IsPaired, pair_tuple, pairs_with}
use Rattle.td_algebra.proofs.Entries.{as_many, has_name-heading, heading_distinct, names_apart, names_of_heading}
use Rattle.td_algebra.proofs.Extensions.{entries_outside, with_in_range}
use Rattle.td_algebra.proofs.Joined.{pairs_alike}
use Rattle.td_algebra.proofs.Keys.{kept_alike}
use Rattle.td_algebra.proofs.Pairs.{same_tuple}
use Rattle.td_algebra.proofs.Relations.{All-from_members}
use Rattle.td_algebra.proofs.Sources.{has_attribute-outside, taken-append, taken_outside}
use Rattle.td_algebra.proofs.Taken.{layout_in_range, map_alike, placed_projection, taken_numbered}
use Rattle.td_group.specs.model.Nesting.{inner_heading, names_without, rest_heading, tuples_inside, unnested_tuples, wrapped_tuple}
use Rattle.td_group.proofs.Apart.{none_common}
use Rattle.td_group.proofs.Nested.{inside_headed}

-- ---- a row's values but for those of a part, and others

module _ (part h : Heading) (t : Tuple) (p : IsTupleOf h t) (ns : List (List ℕ)) (vs : List Val) (many : length ns ≡ length vs) where
  placed_with : placed_tuple (sources_with part h ns) (values_of t ++ vs) ≡ tuple_of (entries_outside part t ++ zip ns vs)
  placed_with = ap tuple_of (taken-append (sources_outside part 0 h) (numbered_sources (length h) ns) (values_of t ++ vs) ∙ (λ i. old i ++ new i))
    where
      old : entries_taken (sources_outside part 0 h) (values_of t ++ vs) ≡ entries_outside part t
      old = taken_outside part h t 0 (values_of t ++ vs) vs (names_of_heading h t p) refl

      new : entries_taken (numbered_sources (length h) ns) (values_of t ++ vs) ≡ zip ns vs
      new =
          ap (λ n. entries_taken (numbered_sources n ns) (values_of t ++ vs)) (as_many h t p)
          ∙ ap (λ ws. entries_taken (numbered_sources (length (values_of t)) ns) (values_of t ++ ws)) (sym (append-nil vs))
          ∙ taken_numbered (values_of t) ns vs [] many

  with_range : AreInRange (sources_with part h ns) (values_of t ++ vs)
  with_range =
      let all : length (values_of t ++ vs) ≡ length (values_of t) + length vs = length-append (values_of t) vs in
      let own : length h ≡ length (values_of t) = as_many h t p in
      with_in_range part h ns (length (values_of t ++ vs)) (omega (arith, all, own, many))

  module _ (layout : Sources) (laid : IsPermutation (sources_with part h ns) layout) where
    pub row_in_range : AreInRange layout (values_of t ++ vs)
    row_in_range = layout_in_range (sources_with part h ns) layout (values_of t ++ vs) laid with_range

    pub row_is : placed_tuple layout (values_of t ++ vs) ≡ tuple_of (entries_outside part t ++ zip ns vs)
    row_is = sym (same_tuple (sources_with part h ns) layout (values_of t ++ vs) laid with_range) ∙ placed_with

-- ---- the rest of a row

-- but for what a part has, it is the tuple on the names of what is outside of it
outside_entries : (part h : Heading) (t : Tuple) → IsTupleOf h t → entries_outside part t ≡ projected_tuple (attribute_names (outside part h)) t
outside_entries part h t p =
    kept_alike (λ n. not (has_attribute n part)) (λ n. has_name n (attribute_names (outside part h))) t
    (λ n there. test (has_attribute n h) (not (has_attribute n part)) (sym (has_name-heading h t p n) ∙ there) ∙ sym (has_attribute-outside part h n) ∙ has_attribute-names n (outside part h))
  where
    test : (b c : Bool) → b ≡ true → c ≡ (b && c)
    test true c e = refl
    test false c e = absurd (cc)

-- but for what is outside of a rest, it is the tuple on the rest's names
rest_entries : (rest h : Heading) (t : Tuple) → IsTupleOf h t → entries_outside (outside rest h) t ≡ projected_tuple (attribute_names rest) t
rest_entries rest h t p =
    kept_alike (λ n. not (has_attribute n (outside rest h))) (λ n. has_name n (attribute_names rest)) t
    (λ n there. ap not (has_attribute-outside rest h n) ∙ test (has_attribute n h) (has_attribute n rest) (sym (has_name-heading h t p n) ∙ there) ∙ has_attribute-names n rest)
  where
    test : (b c : Bool) → b ≡ true → not (b && not c) ≡ c
    test true true e = refl
    test true false e = refl
    test false c e = absurd (cc)

-- ---- UNGROUP and UNWRAP

-- the names are distinct of what is outside of the outside of a rest, and of a heading that has no attribute of it
pub unnested_distinct : (rest inner h : Heading) → IsHeading (pack h) → IsHeading (pack inner) → have_no_common rest inner ≡ true
    → are_distinct (attribute_names (outside (outside rest h) h) ++ attribute_names inner) ≡ true
unnested_distinct rest inner h p q apart =
    names_apart (attribute_names (outside part h)) (attribute_names inner) (heading_distinct (outside part h) (IsHeading-filter (λ a. not (has_attribute a.0 part)) h p))
    (heading_distinct inner q)
    (λ n there. sym (has_attribute-names n inner) ∙ none_common rest inner apart n (in_rest n (has_attribute-names n (outside part h) ∙ there)))
  where
    part : Heading
    part = outside rest h

    second : (b c : Bool) → (b && not (b && not c)) ≡ true → c ≡ true
    second b true e = refl
    second true false e = absurd (cc)
    second false false e = absurd (cc)

    in_rest : (n : List ℕ) → has_attribute n (outside part h) ≡ true → has_attribute n rest ≡ true
    in_rest n there =
        second (has_attribute n h) (has_attribute n rest)
        (ap (λ b. has_attribute n h && not b) (sym (has_attribute-outside rest h n)) ∙ sym (has_attribute-outside part h n) ∙ there)

module _ (rest inner h : Heading) (layout : Sources) (laid : IsPermutation (sources_with (outside rest h) h (attribute_names inner)) layout)
    (u x : Tuple) (p : IsTupleOf h u) (q : IsTupleOf inner x) where
  as_named : length (attribute_names inner) ≡ length (values_of x)
  as_named = ap length (sym (names_of_heading inner x q)) ∙ length-map x (λ e. e.0) ∙ sym (length-map x (λ e. e.1))

  pair_in_range : IsPaired layout u x
  pair_in_range = row_in_range (outside rest h) h u p (attribute_names inner) (values_of x) as_named layout laid

  pair_is : pair_tuple layout u x ≡ tuple_of (projected_tuple (attribute_names rest) u ++ x)
  pair_is =
      let own : zip (attribute_names inner) (values_of x) ≡ x = ap (λ ns. zip ns (values_of x)) (sym (names_of_heading inner x q)) ∙ unzipped x in
      row_is (outside rest h) h u p (attribute_names inner) (values_of x) as_named layout laid ∙ (λ i. tuple_of (rest_entries rest h u p i ++ own i))

-- each row with each of the tuples inside its attribute's value
module _ (name : List ℕ) (r : Relation) (all : All (IsTupleOf r.heading) r.body) (part h : Heading) (ns : List (List ℕ)) (layout : Sources)
    (own : h ≡ r.heading) (beside : part ≡ outside (without_attribute name r.heading) r.heading) (named : ns ≡ attribute_names (inner_heading name r.heading))
    (given : IsPermutation (sources_with part h ns) layout) where
  laid : IsPermutation (sources_with (outside (without_attribute name r.heading) r.heading) r.heading (attribute_names (inner_heading name r.heading))) layout
  laid = subst (λ ss. IsPermutation ss layout) (λ i. sources_with (beside i) (own i) (named i)) given

  pub unnested_paired : All (λ u. All (IsPaired layout u) (tuples_inside (value_at name u))) r.body
  unnested_paired =
      All-from_members (λ u. All (IsPaired layout u) (tuples_inside (value_at name u))) r.body (λ u c.
      let has : IsTupleOf r.heading u = All-contains (IsTupleOf r.heading) r.body u all c in
      All-from_members (IsPaired layout u) (tuples_inside (value_at name u)) (λ x d.
      pair_in_range (without_attribute name r.heading) (inner_heading name r.heading) r.heading layout laid u x has (inside_headed name r.heading u x has d)))

  pub unnested_made : pairs_with (λ u. tuples_inside (value_at name u)) (pair_tuple layout) r.body ≡ flat_map (unnested_tuples name r) r.body
  unnested_made =
      let joined : Tuple → Tuple → Tuple = λ u x. tuple_of (projected_tuple (names_without name r) u ++ x) in
      pairs_alike (λ u. tuples_inside (value_at name u)) (pair_tuple layout) joined r.body
      (All-from_members (λ u. All (λ x. pair_tuple layout u x ≡ joined u x) (tuples_inside (value_at name u))) r.body (λ u c.
      let has : IsTupleOf r.heading u = All-contains (IsTupleOf r.heading) r.body u all c in
      All-from_members (λ x. pair_tuple layout u x ≡ joined u x) (tuples_inside (value_at name u)) (λ x d.
      pair_is (without_attribute name r.heading) (inner_heading name r.heading) r.heading layout laid u x has (inside_headed name r.heading u x has d))))

-- ---- WRAP

-- the parts
module _ (names : List (List ℕ)) (r : Relation) (all : All (IsTupleOf r.heading) r.body) (rest h : Heading) (layout : Sources) (own : h ≡ r.heading)
    (is : rest ≡ rest_heading names r.heading) (given : IsPermutation (sources_with rest h []) layout) where
  abbrev part_sources : Sources
  part_sources = sources_outside (rest_heading names r.heading) 0 r.heading

  part_laid : IsPermutation part_sources layout
  part_laid = subst (λ ss. IsPermutation ss layout) (append-nil (sources_outside rest 0 h) ∙ (λ i. sources_outside (is i) 0 (own i))) given

  pub parts_in_range : All (λ t. AreInRange layout (values_of t)) r.body
  parts_in_range =
      All-from_members (λ t. AreInRange layout (values_of t)) r.body (λ t c.
      subst (AreInRange layout) (append-nil (values_of t)) (row_in_range rest r.heading t (All-contains (IsTupleOf r.heading) r.body t all c) [] [] refl layout
      (subst (λ g. IsPermutation (sources_with rest g []) layout) own given)))

  -- each is the projection on the names
  pub part_placed : (t : Tuple) → IsTupleOf r.heading t → AreInRange layout (values_of t) → placed_tuple layout (values_of t) ≡ projected_tuple names t
  part_placed t p range =
      same_tuple layout part_sources (values_of t) (IsPermutation-sym part_sources layout part_laid) range ∙ placed_projection names r.heading t p

  pub parts_made : (parts rows : List Tuple) → rows ≡ r.body
      → ((sources : Sources) → IsPermutation sources layout → parts ≡ map (λ t. placed_tuple sources (values_of t)) rows)
      → parts ≡ map (projected_tuple names) r.body
  parts_made parts rows body made =
      made part_sources part_laid ∙ ap (map (λ t. placed_tuple part_sources (values_of t))) body
      ∙ map_alike (IsTupleOf r.heading) _ (projected_tuple names) r.body all (placed_projection names r.heading)

-- the rows, each with its part
module _ (names : List (List ℕ)) (name : List ℕ) (r : Relation) (all : All (IsTupleOf r.heading) r.body) (part h : Heading) (ns : List (List ℕ)) (layout : Sources)
    (own : h ≡ r.heading) (is : part ≡ projection names r.heading) (named : ns ≡ name ∷ []) (given : IsPermutation (sources_with part h ns) layout) where
  abbrev row_sources : Sources
  row_sources = sources_with (projection names r.heading) r.heading (name ∷ [])

  row_laid : IsPermutation row_sources layout
  row_laid = subst (λ ss. IsPermutation ss layout) (λ i. sources_with (is i) (own i) (named i)) given

  pub wrapped_in_range : All (λ t. (v : Val) → AreInRange layout (values_of t ++ v ∷ [])) r.body
  wrapped_in_range =
      All-from_members (λ t. (v : Val) → AreInRange layout (values_of t ++ v ∷ [])) r.body (λ t c v.
      row_in_range (projection names r.heading) r.heading t (All-contains (IsTupleOf r.heading) r.body t all c) (name ∷ []) (v ∷ []) refl layout row_laid)

  wrapped_is : (t : Tuple) → IsTupleOf r.heading t
      → placed_tuple row_sources (values_of t ++ tuple_value (projected_tuple names t) ∷ []) ≡ wrapped_tuple names name r t
  wrapped_is t p =
      placed_with (projection names r.heading) r.heading t p (name ∷ []) (tuple_value (projected_tuple names t) ∷ []) refl
      ∙ ap (λ es. tuple_of (es ++ (name, tuple_value (projected_tuple names t)) ∷ [])) (outside_entries (projection names r.heading) r.heading t p)

  pub wrapped_made : (parts wrapped rows : List Tuple) → rows ≡ r.body → parts ≡ map (projected_tuple names) r.body
      → ((sources : Sources) (part_of : Tuple → Tuple) → IsPermutation sources layout → parts ≡ map part_of rows
      → wrapped ≡ map (λ t. placed_tuple sources (values_of t ++ tuple_value (part_of t) ∷ [])) rows)
      → wrapped ≡ map (wrapped_tuple names name r) r.body
  wrapped_made parts wrapped rows body of_rows made =
      made row_sources (projected_tuple names) row_laid (of_rows ∙ ap (map (projected_tuple names)) (sym body))
      ∙ ap (map (λ t. placed_tuple row_sources (values_of t ++ tuple_value (projected_tuple names t) ∷ []))) body
      ∙ map_alike (IsTupleOf r.heading) _ (wrapped_tuple names name r) r.body all wrapped_is
