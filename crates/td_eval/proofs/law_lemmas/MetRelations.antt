-- Values in which each user value has a property, and the relations that the relational operators make of such: these only
-- rearrange the values of their operands.
use Rattle.std.proofs.Common.{◌≡◌, ◌++◌, ◌⊎◌, inl, inr, ℕ, zero, suc, Bool, true, false, None, Option, Some, List, [], ◌∷◌, filter, length, map, subst}
use Rattle.std.specs.Prelude.{if◌then◌else◌, not}
use Rattle.std.specs.List.{AllByRecursion, Contains, flat_map}
use Rattle.std.proofs.lemmas.List.Elements.{Contains-append_cases}
use Rattle.td_algebra.proofs.Lists.{contains_cases, contains_filter, contains_first, contains_flat_map, contains_later, contains_map, contains_none}
use Rattle.td_algebra.specs.model.Operators.{Addition, added_attributes, added_values, are_partners, composition, extended_relation, extended_tuple, join, own_names, product, projected_relation, renamed_relation, renamed_tuple, restriction, set_relation, set_tuple, union, united_tuple, new_attribute}
use Rattle.td_eval.proofs.code_lemmas.KeepsRelations.{all_filtered, all_joined, all_made}
use Rattle.td_eval.specs.model.MetConstraints.{EachInFields, EachInRows, EachUserValue}
use Rattle.td_group.specs.model.Closure.{chained_tuple, chained_tuples, closure, is_followed_by}
use Rattle.td_group.specs.model.Nesting.{group_of, grouped_relation, names_without, rest_names, tuples_inside, unnested_relation, unnested_tuples, wrapped_relation, wrapped_tuple}
use Rattle.td_types.specs.model.Headings.{has_attribute, has_name, new_name, projection}
use Rattle.td_types.specs.model.Types.{Heading, pack, same_name}
use Rattle.td_types.specs.model.Types as types
use Rattle.td_value.proofs.Members.{set_members}
use Rattle.td_value.specs.model.Agreement.{agree_on}
use Rattle.td_value.specs.model.Values.{Val, relation_value, tuple, relation, Parts, Fields, no_fields, field, Rows, no_rows, row, Relation, Tuple, pack_fields, pack_rows, projected_tuple, relation_of, tuple_names, tuple_of, tuple_value, unpack_fields, unpack_rows, value_at}

module _ (P : List ℕ → Parts → Type 0) where
  -- the user values in an entry, in a tuple and in the tuples of a relation have it
  abbrev pub EntryMeets : List ℕ × Val → Type 0
  EntryMeets e = EachUserValue P e.1

  abbrev pub TupleMeets : Tuple → Type 0
  TupleMeets = AllByRecursion EntryMeets

  abbrev pub RelationMeets : Relation → Type 0
  RelationMeets r = (t : Tuple) → Contains r.body t → TupleMeets t

  -- ---- inside a value

  pub fields_meet : (t : Tuple) → TupleMeets t → EachInFields P (pack_fields t)
  fields_meet [] h = tt
  fields_meet (e ∷ t) h = (h.0, fields_meet t h.1)

  pub entries_meet : (t : Tuple) → EachInFields P (pack_fields t) → TupleMeets t
  entries_meet [] h = tt
  entries_meet (e ∷ t) h = (h.0, entries_meet t h.1)

  pub unpacked_meet : (fs : Fields) → EachInFields P fs → TupleMeets (unpack_fields fs)
  unpacked_meet no_fields h = tt
  unpacked_meet (field n v fs) h = (h.0, unpacked_meet fs h.1)

  -- each tuple of a list, from the first and the others
  cons_meets : (u : Tuple) (ts : List Tuple) → TupleMeets u → ((t : Tuple) → Contains ts t → TupleMeets t)
      → (t : Tuple) → Contains (u ∷ ts) t → TupleMeets t
  cons_meets u ts h k t c = by_case (contains_cases u ts t c)
    where
      by_case : (u ≡ t) ⊎ Contains ts t → TupleMeets t
      by_case (inl is) = subst TupleMeets is h
      by_case (inr d) = k t d

  pub rows_meet : (rs : Rows) → EachInRows P rs → (t : Tuple) → Contains (unpack_rows rs) t → TupleMeets t
  rows_meet no_rows h t c = absurd (contains_none t c)
  rows_meet (row fs rs) h t c = cons_meets (unpack_fields fs) (unpack_rows rs) (unpacked_meet fs h.0) (rows_meet rs h.1) t c

  packed_meet : (ts : List Tuple) → ((t : Tuple) → Contains ts t → TupleMeets t) → EachInRows P (pack_rows ts)
  packed_meet [] h = tt
  packed_meet (t ∷ ts) h = (fields_meet t (h t (contains_first t ts)), packed_meet ts (λ u c. h u (contains_later t ts u c)))

  -- a relation as a value
  pub relation_meets : (r : Relation) → RelationMeets r → EachUserValue P (relation_value r)
  relation_meets r m = packed_meet r.body m

  pub met_relation : (r : Relation) → EachUserValue P (relation_value r) → RelationMeets r
  met_relation r h = by_body r.body h
    where
      by_body : (ts : List Tuple) → EachInRows P (pack_rows ts) → (t : Tuple) → Contains ts t → TupleMeets t
      by_body [] k t c = absurd (contains_none t c)
      by_body (u ∷ ts) k t c = cons_meets u ts (entries_meet u k.0) (by_body ts k.1) t c

  -- the set of tuples
  pub set_meets : (h : Heading) (ts : List Tuple) → ((t : Tuple) → Contains ts t → TupleMeets t) → RelationMeets (relation_of h ts)
  set_meets h ts own t c = own t ((set_members ts t).0 c)

  -- what is made of each tuple of a relation
  pub mapped_meets : (h : Heading) (f : Tuple → Tuple) (r : Relation) → ((t : Tuple) → Contains r.body t → TupleMeets (f t))
      → RelationMeets (relation_of h (map f r.body))
  mapped_meets h f r own =
      set_meets h (map f r.body) (λ y c. let d = (contains_map f r.body y).0 c in subst TupleMeets d.2 (own d.0 d.1))

  -- ---- the operators on relations

  pub restriction_meets : (p : Tuple → Bool) (r : Relation) → RelationMeets r → RelationMeets (restriction p r)
  restriction_meets p r m t c = m t ((contains_filter p r.body t).0 c).0

  pub union_meets : (q r : Relation) → RelationMeets q → RelationMeets r → RelationMeets (union q r)
  union_meets q r m n = set_meets q.heading (q.body ++ r.body) (λ t c. by_case t (Contains-append_cases q.body r.body t c))
    where
      by_case : (t : Tuple) → Contains q.body t ⊎ Contains r.body t → TupleMeets t
      by_case t (inl c) = m t c
      by_case t (inr c) = n t c

  -- tuples of one relation united with tuples of another
  united_meet : (h : Heading) (q r : Relation) (partners : Tuple → List Tuple) → RelationMeets q → RelationMeets r
      → ((t u : Tuple) → Contains (partners t) u → Contains r.body u)
      → RelationMeets (relation_of h (flat_map (λ t. map (united_tuple t) (partners t)) q.body))
  united_meet h q r partners m n among =
      set_meets h (flat_map (λ t. map (united_tuple t) (partners t)) q.body)
      (λ y c.
      let d = (contains_flat_map (λ t. map (united_tuple t) (partners t)) q.body y).0 c in
      let e = (contains_map (united_tuple d.0) (partners d.0) y).0 d.2 in
      subst TupleMeets e.2 (own d.0 e.0 (m d.0 d.1) (n e.0 (among d.0 e.0 e.1))))
    where
      own : (t u : Tuple) → TupleMeets t → TupleMeets u → TupleMeets (united_tuple t u)
      own t u a b =
          let others = filter (λ (e : List ℕ × Val). not (has_name e.0 (tuple_names t))) u in
          all_made EntryMeets (t ++ others)
          (all_joined EntryMeets t others a (all_filtered EntryMeets (λ e. not (has_name e.0 (tuple_names t))) u b))

  pub join_meets : (q r : Relation) → RelationMeets q → RelationMeets r → RelationMeets (join q r)
  join_meets q r m n =
      united_meet (join q r).heading q r (λ t. filter (are_partners q r t) r.body) m n
      (λ t u c. ((contains_filter (are_partners q r t) r.body u).0 c).0)

  pub product_meets : (q r : Relation) → RelationMeets q → RelationMeets r → RelationMeets (product q r)
  product_meets q r m n = united_meet (product q r).heading q r (λ t. r.body) m n (λ t u c. c)

  -- a part of a tuple
  part_meets : (names : List (List ℕ)) (t : Tuple) → TupleMeets t → TupleMeets (projected_tuple names t)
  part_meets names t h = all_filtered EntryMeets (λ e. has_name e.0 names) t h

  pub projected_meets : (names : List (List ℕ)) (r : Relation) → RelationMeets r → RelationMeets (projected_relation names r)
  projected_meets names r m =
      mapped_meets (projection names r.heading) (projected_tuple names) r (λ t c. part_meets names t (m t c))

  pub composition_meets : (q r : Relation) → RelationMeets q → RelationMeets r → RelationMeets (composition q r)
  composition_meets q r m n = projected_meets (own_names q r ++ own_names r q) (join q r) (join_meets q r m n)

  renamed_entries : (pairs : List (List ℕ × List ℕ)) (t : Tuple) → TupleMeets t → TupleMeets (map (λ e. (new_name pairs e.0, e.1)) t)
  renamed_entries pairs [] h = tt
  renamed_entries pairs (e ∷ t) h = (h.0, renamed_entries pairs t h.1)

  pub renamed_meets : (pairs : List (List ℕ × List ℕ)) (r : Relation) → RelationMeets r → RelationMeets (renamed_relation pairs r)
  renamed_meets pairs r m =
      mapped_meets (renamed_relation pairs r).heading (renamed_tuple pairs) r
      (λ t c. all_made EntryMeets (map (λ e. (new_name pairs e.0, e.1)) t) (renamed_entries pairs t (m t c)))

  -- ---- new attributes

  -- the values that they have in a tuple
  abbrev pub ValuesMeet : List Addition → Tuple → Type 0
  ValuesMeet bs t = AllByRecursion (λ (b : Addition). EachUserValue P (b.value t)) bs

  pub added_meet : (bs : List Addition) (t : Tuple) → ValuesMeet bs t → TupleMeets (added_values bs t)
  added_meet [] t h = tt
  added_meet (b ∷ bs) t h = (h.0, added_meet bs t h.1)

  pub extended_meets : (bs : List Addition) (r : Relation) → RelationMeets r → ((t : Tuple) → Contains r.body t → ValuesMeet bs t)
      → RelationMeets (extended_relation bs r)
  extended_meets bs r m h =
      mapped_meets (extended_relation bs r).heading (extended_tuple bs) r
      (λ t c. all_made EntryMeets (t ++ added_values bs t) (all_joined EntryMeets t (added_values bs t) (m t c) (added_meet bs t (h t c))))

  -- attributes that are set
  pub set_attributes_meet : (bs : List Addition) (r : Relation) → RelationMeets r → ((t : Tuple) → Contains r.body t → ValuesMeet bs t)
      → RelationMeets (set_relation bs r)
  set_attributes_meet bs r m h = mapped_meets (set_relation bs r).heading (set_tuple bs) r own
    where
      own : (t : Tuple) → Contains r.body t → TupleMeets (set_tuple bs t)
      own t c =
          let is_other = λ (e : List ℕ × Val). not (has_attribute e.0 (added_attributes bs)) in
          all_made EntryMeets (filter is_other t ++ added_values bs t)
          (all_joined EntryMeets (filter is_other t) (added_values bs t) (all_filtered EntryMeets is_other t (m t c)) (added_meet bs t (h t c)))

  -- ---- GROUP and WRAP

  pub grouped_meets : (names : List (List ℕ)) (name : List ℕ) (r : Relation) → RelationMeets r → RelationMeets (grouped_relation names name r)
  grouped_meets names name r m =
      extended_meets
      (new_attribute name (types.relation (pack (projection names r.heading))) (λ t. relation_value (group_of names r t)) ∷ [])
      (projected_relation (rest_names names r) r) (projected_meets (rest_names names r) r m) (λ t c. (group_meets t, tt))
    where
      group_meets : (t : Tuple) → EachUserValue P (relation_value (group_of names r t))
      group_meets t =
          let others = restriction (agree_on (rest_names names r) t) r in
          relation_meets (projected_relation names others)
          (projected_meets names others (restriction_meets (agree_on (rest_names names r) t) r m))

  pub wrapped_meets : (names : List (List ℕ)) (name : List ℕ) (r : Relation) → RelationMeets r → RelationMeets (wrapped_relation names name r)
  wrapped_meets names name r m = mapped_meets (wrapped_relation names name r).heading (wrapped_tuple names name r) r own
    where
      own : (t : Tuple) → Contains r.body t → TupleMeets (wrapped_tuple names name r t)
      own t c =
          let front = projected_tuple (rest_names names r) t in
          let wrapped : Tuple = (name, tuple_value (projected_tuple names t)) ∷ [] in
          all_made EntryMeets (front ++ wrapped)
          (all_joined EntryMeets front wrapped (part_meets (rest_names names r) t (m t c))
          (fields_meet (projected_tuple names t) (part_meets names t (m t c)), tt))

  -- ---- UNGROUP and UNWRAP

  -- the value of a name
  pub value_meets : (name : List ℕ) (t : Tuple) (v : Val) → TupleMeets t → value_at name t ≡ Some v → EachUserValue P v
  value_meets name [] v h e = absurd (cc)
  value_meets name (f ∷ t) v h e = by_name (value_meets name t v h.1) (same_name f.0 name) e
    where
      some_is : (u : Val) → Some u ≡ Some v → u ≡ v
      some_is u q = cc

      by_name : (value_at name t ≡ Some v → EachUserValue P v) → (b : Bool) → (if b then Some f.1 else value_at name t) ≡ Some v → EachUserValue P v
      by_name rest true q = subst (EachUserValue P) (some_is f.1 q) h.0
      by_name rest false q = rest q

  -- the tuples inside a value
  inside_meet : (v : Val) → EachUserValue P v → (x : Tuple) → Contains (tuples_inside (Some v)) x → TupleMeets x
  inside_meet (tuple fs) h x c = rows_meet (row fs no_rows) (h, tt) x c
  inside_meet (relation g rs) h x c = rows_meet rs h x c
  inside_meet _ h x c = absurd (contains_none x c)

  part_inside_meets : (name : List ℕ) (u : Tuple) → TupleMeets u → (x : Tuple) → Contains (tuples_inside (value_at name u)) x → TupleMeets x
  part_inside_meets name u h x c = by_value (value_at name u) (λ v e. value_meets name u v h e) c
    where
      by_value : (o : Option Val) → ((v : Val) → o ≡ Some v → EachUserValue P v) → Contains (tuples_inside o) x → TupleMeets x
      by_value None k d = absurd (contains_none x d)
      by_value (Some v) k d = inside_meet v (k v (λ i. Some v)) x d

  pub unnested_meets : (name : List ℕ) (r : Relation) → RelationMeets r → RelationMeets (unnested_relation name r)
  unnested_meets name r m = set_meets (unnested_relation name r).heading (flat_map (unnested_tuples name r) r.body) own
    where
      own : (y : Tuple) → Contains (flat_map (unnested_tuples name r) r.body) y → TupleMeets y
      own y c =
          let d = (contains_flat_map (unnested_tuples name r) r.body y).0 c in
          let rest = projected_tuple (names_without name r) d.0 in
          let e = (contains_map (λ x. tuple_of (rest ++ x)) (tuples_inside (value_at name d.0)) y).0 d.2 in
          subst TupleMeets e.2
          (all_made EntryMeets (rest ++ e.0)
          (all_joined EntryMeets rest e.0 (part_meets (names_without name r) d.0 (m d.0 d.1)) (part_inside_meets name d.0 (m d.0 d.1) e.0 e.1)))

  -- ---- TCLOSE

  chained_meets : (t u : Tuple) → TupleMeets t → TupleMeets u → TupleMeets (chained_tuple t u)
  chained_meets [] u h k = tt
  chained_meets (d ∷ es) [] h k = tt
  chained_meets (d ∷ es) (f ∷ gs) h k = (h.0, k.1)

  chains_meet : (n : ℕ) (ts : List Tuple) → ((t : Tuple) → Contains ts t → TupleMeets t) → (t : Tuple) → Contains (chained_tuples n ts) t → TupleMeets t
  chains_meet zero ts h t c = h t c
  chains_meet (suc n) ts h t c =
      by_case (chains_meet n ts h) (Contains-append_cases ts (flat_map (λ p. map (chained_tuple p) (filter (is_followed_by p) ts)) (chained_tuples n ts)) t c)
    where
      by_case : ((p : Tuple) → Contains (chained_tuples n ts) p → TupleMeets p)
          → Contains ts t ⊎ Contains (flat_map (λ p. map (chained_tuple p) (filter (is_followed_by p) ts)) (chained_tuples n ts)) t → TupleMeets t
      by_case rest (inl d) = h t d
      by_case rest (inr d) =
          let p = (contains_flat_map (λ p. map (chained_tuple p) (filter (is_followed_by p) ts)) (chained_tuples n ts) t).0 d in
          let u = (contains_map (chained_tuple p.0) (filter (is_followed_by p.0) ts) t).0 p.2 in
          let among = (contains_filter (is_followed_by p.0) ts u.0).0 u.1 in
          subst TupleMeets u.2 (chained_meets p.0 u.0 (rest p.0 p.1) (h u.0 among.0))

  pub closure_meets : (r : Relation) → RelationMeets r → RelationMeets (closure r)
  closure_meets r m = set_meets r.heading (chained_tuples (length r.body) r.body) (chains_meet (length r.body) r.body m)
