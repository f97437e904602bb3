-- The tuples and relations that expressions list, and what is applied to the tuples of a relation.
use Rattle.std.proofs.Common.{◌≡◌, ◌∙◌, ℕ, Bool, true, false, Contains, List, [], ◌∷◌, map, ap, refl, subst, sym}
use Rattle.std.specs.Prelude.{⊤}
use Rattle.std.specs.List.{AllByRecursion}
use Rattle.std.specs.declared.cmp.Ordering.{Ordering}
use Rattle.std.specs.declared.cmp.Ordering.TheVariants.{Less, Equal, Greater}
use Rattle.td_algebra.proofs.Entries.{IsTupleOf-tuple_of, names-heading, type_at-heading_of}
use Rattle.td_algebra.proofs.Relations.{All-from_members, IsRelation-relation_of, member_headed}
use Rattle.td_check.specs.model.OperatorTypes.{element_type, headed_type, listed_type, over_relation, same_heading, same_type, tuple_type, restriction_type}
use Rattle.td_tree.specs.declared.cause.Cause.TheVariants as causes
use Rattle.td_tree.specs.model.Names.{IsName}
use Rattle.td_tree.specs.model.Outcomes.{Outcome, Valued, Refused, gathered, value_if, with_both, with_value}
use Rattle.td_types.specs.model.Headings.{are_distinct, heading_from, made_heading}
use Rattle.td_types.specs.model.TypeLists.{AreKnown, DeclaredType, IsKnown}
use Rattle.td_types.specs.model.Types.{Type', Attribute, Attrs, Heading, IsHeading, IsType, attribute_names, pack, unpack}
use Rattle.td_types.specs.model.Types as types
use Rattle.td_types.proofs.Made.{type_at-heading_from}
use Rattle.td_types.proofs.Meanings.{known_heading, pack_unpack}
use Rattle.td_value.proofs.Packed.{pack_unpack_fields, pack_unpack_rows}
use Rattle.td_value.specs.model.KnownValues.{HasHeading, HasType}
use Rattle.td_value.specs.model.Sets.{with_item_placed, put_in, set_of}
use Rattle.td_value.specs.model.Values.{Val, relation_value, tuple, relation, AreFields, Fields, IsTuple, IsTupleOf, IsValue, Relation, Rows, Tuple, entry_cmp, heading_of, pack_fields, relation_of, tuple_cmp, tuple_names, tuple_of, type_of, unpack_fields, unpack_rows, relation_view}
use Rattle.td_value.proofs.KnownValues.{by_values, has_its_type, has_known_type}
use Rattle.td_value.proofs.Typed.{typed}
use Rattle.td_eval.specs.model.OperatorValues.{element_of, headed_value, listed_value, of_relation, on_relation, restricted_value, tuple_from}
use Rattle.td_eval.specs.laws.ValueTypes.{IsOfType, IsTypedTuple, KeepsType}
use Rattle.td_eval.proofs.code_lemmas.KeepsGathered.{has_type_members, member_from_all}
use Rattle.td_eval.proofs.code_lemmas.KeepsExtension.{PartsKeep, restricted_keeps}
use Rattle.td_eval.proofs.code_lemmas.TypedOutcomes.{KeepsAs, keeps_both, made_keeps, test_keeps}
use Rattle.td_eval.proofs.code_lemmas.TypedValues.{fields_heading, fields_of, heading_is, relation_keeps, rows_of, same_is, type_is}

-- ---- what holds of each item holds of the set of them

module _ {K : Type 0} (R : K → K → Ordering) (P : K → Type 0) where
  put_in_all : (x : K) (xs : List K) → P x → AllByRecursion P xs → AllByRecursion P (put_in R x xs)
  put_in_all x [] p h = (p, tt)
  put_in_all x (y ∷ ys) p h = by_order (R x y) (put_in_all x ys p h.1)
    where
      by_order : (o : Ordering) → AllByRecursion P (put_in R x ys) → AllByRecursion P (with_item_placed o x y ys (put_in R x ys))
      by_order Less rest = (p, h)
      by_order Equal rest = h
      by_order Greater rest = (h.0, rest)

  pub set_of_all : (xs : List K) → AllByRecursion P xs → AllByRecursion P (set_of R xs)
  set_of_all [] h = tt
  set_of_all (x ∷ xs) h = put_in_all x (set_of R xs) h.0 (set_of_all xs h.1)

-- ---- tuples of entries

-- a name with a value, of its own type
abbrev pub IsTypedEntry : List DeclaredType → List ℕ × Val → Type 0
IsTypedEntry ds e = IsName e.0 × IsOfType ds e.1 (type_of e.1)

-- a value of a type is of its own
pub own_type : (ds : List DeclaredType) (v : Val) (t : Type') → IsOfType ds v t → IsOfType ds v (type_of v)
own_type ds v t h = (h.0, subst (HasType ds v) (sym (has_its_type ds v t h.1)) h.1)

module _ (ds : List DeclaredType) where
  entries_fields : (es : Tuple) → AllByRecursion (IsTypedEntry ds) es → AreFields (pack_fields es)
  entries_fields [] h = tt
  entries_fields (e ∷ es) h = (h.0.0, h.0.1.0, entries_fields es h.1)

  entries_have : (es : Tuple) → AllByRecursion (IsTypedEntry ds) es → HasHeading ds (pack_fields es) (pack (heading_of es))
  entries_have [] h = tt
  entries_have (e ∷ es) h = (refl, h.0.1.1, entries_have es h.1)

  entries_known : (es : Tuple) → AllByRecursion (IsTypedEntry ds) es → AllByRecursion (λ a. IsName a.0 × IsType a.1 × IsKnown ds a.1) (heading_of es)
  entries_known [] h = tt
  entries_known (e ∷ es) h = ((h.0.0, typed e.1 h.0.1.0, has_known_type ds e.1 (type_of e.1) h.0.1.1), entries_known es h.1)

  -- entries of distinct names make a tuple, of the heading that their types make
  pub made_typed : (es : Tuple) → are_distinct (tuple_names es) ≡ true → AllByRecursion (IsTypedEntry ds) es
      → IsTypedTuple ds (tuple_of es) × (heading_of (tuple_of es) ≡ heading_from (heading_of es))
  made_typed es d h =
      let distinct : are_distinct (attribute_names (heading_of es)) ≡ true = ap are_distinct (names-heading es) ∙ d in
      let made : made_heading (heading_of es) ≡ Valued (heading_from (heading_of es)) = rw distinct refl in
      let head = known_heading ds (heading_of es) (heading_from (heading_of es)) (entries_known es h) made in
      let fields = entries_fields es h in
      let types = λ (n : List ℕ). sym (type_at-heading_of n es) ∙ sym (type_at-heading_from n (heading_of es) distinct) in
      let is = IsTupleOf-tuple_of (heading_from (heading_of es)) es fields d head.0 types in
      ((is.0, entries_have (tuple_of es) (set_of_all entry_cmp (IsTypedEntry ds) es h)), is.1)

  -- a value of a type makes a tuple of one attribute
  pub one_typed : (n : List ℕ) (v : Val) (t : Type') → IsName n → IsOfType ds v t → IsTypedTuple ds ((n, v) ∷ [])
  one_typed n v t name h = (made_typed ((n, v) ∷ []) refl ((name, own_type ds v t h), tt)).0

  -- entries of the types of the attributes
  abbrev pub AreEntriesOf : List Attribute → Tuple → Type 0
  AreEntriesOf attributes es = (attributes ≡ heading_of es) × AllByRecursion (IsTypedEntry ds) es

  pub tuple_from_keeps : (attributes : List Attribute) (es : Tuple) → AreEntriesOf attributes es → KeepsType ds (tuple_type attributes) (tuple_from es)
  tuple_from_keeps attributes es h = subst (λ xs. KeepsType ds (tuple_type xs) (tuple_from es)) (sym h.0) (by_test (are_distinct (tuple_names es)) refl)
    where
      by_test : (b : Bool) → are_distinct (tuple_names es) ≡ b → KeepsType ds (tuple_type (heading_of es)) (tuple_from es)
      by_test true d =
          let distinct : are_distinct (attribute_names (heading_of es)) ≡ true = ap are_distinct (names-heading es) ∙ d in
          let is = made_typed es d h.1 in
          rw (distinct, d) (is.0.0, (pack (heading_of (tuple_of es)), ap (λ g. types.tuple (pack g)) (sym is.1), is.0.1))
      by_test false d =
          let distinct : are_distinct (attribute_names (heading_of es)) ≡ false = ap are_distinct (names-heading es) ∙ d in
          rw distinct tt

  -- ---- relations of elements

  -- a tuple of the heading
  abbrev pub IsTupleAt : Heading → Tuple → Type 0
  IsTupleAt h t = IsTuple t × HasHeading ds (pack_fields t) (pack h)

  pub relation_typed : (h : Heading) (ts : List Tuple) → IsHeading (pack h) → AreKnown ds (pack h) → AllByRecursion (IsTupleAt h) ts
      → IsOfType ds (relation_value (relation_of h ts)) (types.relation (pack h))
  relation_typed h ts p k all =
      let headed = All-from_members (IsTupleOf h) ts
      (λ t c. let at = member_from_all (IsTupleAt h) ts all t c in (at.0, ((by_values ds t h).0 at.1).0, p)) in
      let each = set_of_all tuple_cmp (IsTupleAt h) ts all in (
        IsRelation-relation_of h ts p headed,
        (refl, k, (has_type_members ds (set_of tuple_cmp ts) (pack h)).1 (λ t c. (member_from_all (IsTupleAt h) (set_of tuple_cmp ts) each t c).1)),
      )

  -- as many values as types, each of its own
  abbrev pub AreOf : List Type' → List Val → Type 0
  AreOf [] [] = ⊤
  AreOf [] (v ∷ vs) = ⊥
  AreOf (t ∷ ts) [] = ⊥
  AreOf (t ∷ ts) (v ∷ vs) = IsOfType ds v t × AreOf ts vs

  element_keeps : (h : Heading) (t : Type') (v : Val) → IsOfType ds v t → KeepsAs (λ _ u. IsTupleAt h u) (element_type h t) (element_of h v)
  element_keeps h (types.tuple g) v q =
      let x = fields_of ds g v q.1 in
      let value = subst IsValue x.1 q.0 in
      rw x.1 (by_test x.0 x.2 value (same_heading (unpack g) h) refl)
    where
      by_test : (fs : Fields) → HasHeading ds fs g → IsValue (tuple fs) → (b : Bool) → same_heading (unpack g) h ≡ b
          → KeepsAs (λ (_ : Type') u. IsTupleAt h u) (value_if b (types.tuple g) causes.Heading) (element_of h (tuple fs))
      by_test fs k p true e =
          let is : unpack g ≡ h = heading_is (unpack g) h e in
          let head : same_heading (heading_of (unpack_fields fs)) h ≡ true = same_is (heading_of (unpack_fields fs)) h (fields_heading ds fs g k ∙ is) in
          rw head (
            subst (λ es. IsValue (tuple es)) (sym (pack_unpack_fields fs)) p,
            subst (λ es. HasHeading ds es (pack h)) (sym (pack_unpack_fields fs)) (subst (HasHeading ds fs) (sym (pack_unpack g) ∙ ap pack is) k),
          )
      by_test fs k p false e = tt
  element_keeps h _ v q = tt

  elements_keep : (h : Heading) (ts : List Type') (vs : List Val) → AreOf ts vs
      → KeepsAs (λ _ us. AllByRecursion (IsTupleAt h) us) (gathered (map (element_type h) ts)) (gathered (map (element_of h) vs))
  elements_keep h [] [] k = tt
  elements_keep h [] (v ∷ vs) k = absurd k
  elements_keep h (t ∷ ts) [] k = absurd k
  elements_keep h (t ∷ ts) (v ∷ vs) k =
      keeps_both (λ (_ : Type') u. IsTupleAt h u) (λ (_ : List Type') us. AllByRecursion (IsTupleAt h) us) (λ (_ : List Type') us. AllByRecursion (IsTupleAt h) us)
      (element_type h t) (gathered (map (element_type h) ts)) (element_of h v) (gathered (map (element_of h) vs))
      (λ s ss. Valued (s ∷ ss)) (λ u us. Valued (u ∷ us)) (element_keeps h t v k.0) (elements_keep h ts vs k.1) (λ s u ss us p q. (p, q))

  pub headed_keeps : (h : Heading) (ts : List Type') (vs : List Val) → IsHeading (pack h) → AreKnown ds (pack h) → AreOf ts vs
      → KeepsType ds (headed_type h ts) (headed_value h vs)
  headed_keeps h ts vs p k all =
      made_keeps ds (λ (_ : List Type') us. AllByRecursion (IsTupleAt h) us) (gathered (map (element_type h) ts)) (gathered (map (element_of h) vs))
      (λ _. Valued (types.relation (pack h))) (λ us. of_relation (relation_of h us)) (elements_keep h ts vs all)
      (λ _ us q. relation_typed h us p k q)

  tuple_at : (g : Attrs) (fs : Fields) → IsOfType ds (tuple fs) (types.tuple g) → HasHeading ds fs g → IsTupleAt (unpack g) (unpack_fields fs)
  tuple_at g fs q k = rw (pack_unpack_fields fs, pack_unpack g) (q.0, k)

  one_more : (h : Heading) (x : Outcome (List Type')) (u : Tuple) (o : Outcome (List Tuple)) → IsTupleAt h u
      → KeepsAs (λ _ us. AllByRecursion (IsTupleAt h) us) x o → KeepsAs (λ _ us. AllByRecursion (IsTupleAt h) us) x (with_both (Valued u) o (λ y ys. Valued (y ∷ ys)))
  one_more h (Valued ts) u (Valued us) p k = (p, k)
  one_more h (Valued ts) u (Refused cs) p k = k
  one_more h (Refused cs) u o p k = tt

  pub listed_keeps : (ts : List Type') (vs : List Val) → AreOf ts vs → KeepsType ds (listed_type ts) (listed_value vs)
  listed_keeps [] [] k = tt
  listed_keeps [] (v ∷ vs) k = absurd k
  listed_keeps (t ∷ ts) [] k = absurd k
  listed_keeps (types.tuple g ∷ ts) (v ∷ vs) k =
      let x = fields_of ds g v k.0.1 in
      let value : IsOfType ds (tuple x.0) (types.tuple g) = subst (λ w. IsOfType ds w (types.tuple g)) x.1 k.0 in
      let head : heading_of (unpack_fields x.0) ≡ unpack g = fields_heading ds x.0 g x.2 in
      let known = has_known_type ds v (types.tuple g) k.0.1 in
      let is = subst IsType (has_its_type ds v (types.tuple g) k.0.1) (typed v k.0.0) in
      let same : pack (unpack g) ≡ g = pack_unpack g in
      let first : element_of (unpack g) (tuple x.0) ≡ Valued (unpack_fields x.0) = rw (same_is (heading_of (unpack_fields x.0)) (unpack g) head) refl in
      let each = subst (λ (o : Outcome Tuple). KeepsAs (λ _ us. AllByRecursion (IsTupleAt (unpack g)) us) (gathered (map (element_type (unpack g)) ts))
      (with_both o (gathered (map (element_of (unpack g)) vs)) (λ y ys. Valued (y ∷ ys)))) (sym first)
      (one_more (unpack g) (gathered (map (element_type (unpack g)) ts)) (unpack_fields x.0) (gathered (map (element_of (unpack g)) vs))
      (tuple_at g x.0 value x.2) (elements_keep (unpack g) ts vs k.1)) in
      rw x.1 (subst (λ h. KeepsType ds (listed_type (types.tuple g ∷ ts)) (headed_value h (tuple x.0 ∷ vs))) (sym head)
      (made_keeps ds (λ (_ : List Type') us. AllByRecursion (IsTupleAt (unpack g)) us) (gathered (map (element_type (unpack g)) ts))
      (gathered (map (element_of (unpack g)) (tuple x.0 ∷ vs))) (λ _. Valued (types.relation (pack (unpack g)))) (λ us. of_relation (relation_of (unpack g) us)) each
      (λ _ us q. relation_typed (unpack g) us (subst IsHeading (sym same) is) (subst (AreKnown ds) (sym same) known) q)))
  listed_keeps (_ ∷ ts) (v ∷ vs) k = tt

  -- ---- what is applied to the tuples of a relation

  -- a relation as its parts
  pub parts_typed : (h : Attrs) (rs : Rows) → IsOfType ds (relation h rs) (types.relation h)
      → IsOfType ds (relation_value (relation_view (unpack h) (unpack_rows rs))) (types.relation (pack (unpack h)))
  parts_typed h rs q = rw (pack_unpack h, pack_unpack_rows rs) q

  -- its tuples
  pub rows_typed : (r : Relation) → IsOfType ds (relation_value r) (types.relation (pack r.heading)) → (u : Tuple) → Contains r.body u
      → IsTypedTuple ds u × (heading_of u ≡ r.heading)
  rows_typed r q u c =
      let x = rows_of ds (pack r.heading) (relation_value r) q.1 in
      let at = member_headed r u q.0 c in
      let k = (has_type_members ds r.body (pack r.heading)).0 q.1.2 u c in
      ((at.0, subst (λ (h : Heading). HasHeading ds (pack_fields u) (pack h)) (sym at.1) k), at.1)

  pub where_keeps : (condition : Heading → Outcome Type') (p : Tuple → Outcome Val) (t : Type') (v : Val) → IsOfType ds v t
      → ((u : Tuple) → IsTypedTuple ds u → KeepsType ds (condition (heading_of u)) (p u))
      → KeepsType ds (over_relation t (λ h. with_value (condition h) (restriction_type t))) (on_relation v (restricted_value p))
  where_keeps condition p (types.relation h) v q k =
      relation_keeps ds (with_value (condition (unpack h)) (restriction_type (types.relation h))) v h (restricted_value p) q
      (λ rs w. restricts h rs w (condition (unpack h)) refl)
    where
      restricts : (h : Attrs) (rs : Rows) → IsOfType ds (relation h rs) (types.relation h) → (o : Outcome Type') → condition (unpack h) ≡ o
          → KeepsType ds (with_value o (restriction_type (types.relation h))) (restricted_value p (relation_view (unpack h) (unpack_rows rs)))
      restricts h rs w (Valued t) e =
          test_keeps ds (same_type t types.boolean) (types.relation h) causes.TypeMismatch (restricted_value p (relation_view (unpack h) (unpack_rows rs)))
          (λ is. subst (λ g. KeepsType ds (Valued (types.relation g)) (restricted_value p (relation_view (unpack h) (unpack_rows rs)))) (pack_unpack h)
          (restricted_keeps ds (relation_view (unpack h) (unpack_rows rs)) p (parts_typed h rs w)
          (λ u c.
          let at = rows_typed (relation_view (unpack h) (unpack_rows rs)) (parts_typed h rs w) u c in
          subst (λ o. KeepsType ds o (p u)) (ap condition at.1 ∙ e ∙ ap Valued (type_is t types.boolean is)) (k u at.0))))
      restricts h rs w (Refused cs) e = tt
  where_keeps condition p _ v q k = tt

  -- the parts of EXTEND, where their types are known: by its rule and by what it gives of typed parts
  pub extend_keeps : (kinds others : Heading → Outcome (List Attribute)) (fs : List (Tuple → Outcome Val)) (rule : Heading → List Attribute → Outcome Type')
      (given : Outcome (List Attribute) → List (Tuple → Outcome Val) → Relation → Outcome Val)
      → ((r : Relation) (attributes : List Attribute) (fs : List (Tuple → Outcome Val)) → IsOfType ds (relation_value r) (types.relation (pack r.heading))
      → AllByRecursion (λ (a : Attribute). IsName a.0 × IsType a.1 × IsKnown ds a.1) attributes → PartsKeep ds r attributes fs
      → KeepsType ds (rule r.heading attributes) (given (Valued attributes) fs r))
      → (t : Type') (v : Val) → IsOfType ds v t
      → ((r : Relation) (attributes : List Attribute) → IsOfType ds (relation_value r) (types.relation (pack r.heading))
      → kinds r.heading ≡ Valued attributes
      → (others r.heading ≡ Valued attributes) × AllByRecursion (λ a. IsName a.0 × IsType a.1 × IsKnown ds a.1) attributes × PartsKeep ds r attributes fs)
      → KeepsType ds (over_relation t (λ h. with_value (kinds h) (rule h))) (on_relation v (λ r. given (others r.heading) fs r))
  extend_keeps kinds others fs rule given made (types.relation h) v q k =
      relation_keeps ds (with_value (kinds (unpack h)) (rule (unpack h))) v h (λ r. given (others r.heading) fs r) q
      (λ rs w. extends (relation_view (unpack h) (unpack_rows rs)) (parts_typed h rs w) (kinds (unpack h)) refl)
    where
      extends : (r : Relation) → IsOfType ds (relation_value r) (types.relation (pack r.heading)) → (o : Outcome (List Attribute)) → kinds r.heading ≡ o
          → KeepsType ds (with_value o (rule r.heading)) (given (others r.heading) fs r)
      extends r w (Valued attributes) e =
          let x = k r attributes w e in
          rw x.0 (made r attributes fs w x.1 x.2)
      extends r w (Refused cs) e = tt
  extend_keeps kinds others fs rule given made _ v q k = tt
