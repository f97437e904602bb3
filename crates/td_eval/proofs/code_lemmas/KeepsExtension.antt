-- WHERE and EXTEND, in both spellings, give values of their static types, or are refused by dynamic causes alone.
use Rattle.std.proofs.Common.{◌≡◌, ◌∙◌, ◌++◌, ◌⊎◌, inl, inr, ℕ, Bool, true, false, List, [], ◌∷◌, ap, filter, fold, map, refl, subst, sym}
use Rattle.std.specs.Prelude.{◌&&◌, if◌then◌else◌, not, ⊤}
use Rattle.std.specs.List.{AllByRecursion, Contains, list_all}
use Rattle.td_tree.specs.declared.cause.Cause.TheVariants as causes
use Rattle.td_tree.specs.model.Names.{IsName}
use Rattle.td_tree.specs.model.Outcomes.{Outcome, Valued, Refused, gathered, value_if, with_value}
use Rattle.td_types.specs.model.Headings.{are_distinct, has_attribute, has_name, have_no_common, heading_union, outside, with_attribute}
use Rattle.td_types.specs.model.TypeLists.{AreKnown, DeclaredType, IsKnown}
use Rattle.td_types.specs.code.TypeOrder.{type_eq-Decides}
use Rattle.td_types.specs.model.Types.{Attribute, Heading, IsType, Type', attribute_names, pack}
use Rattle.td_types.specs.model.Types as types
use Rattle.td_types.proofs.DistinctNames.{first_of, second_of}
use Rattle.td_types.proofs.OutcomeLaws.{values_of_both}
use Rattle.td_check.specs.model.OperatorTypes.{extension_type, relation_if, setting_type}
use Rattle.td_check.proofs.HeadingRules.{lacks_with}
use Rattle.td_check.proofs.KnownLaws.{IsKnownType, known_closed}
use Rattle.td_check.proofs.OperatorLaws.{united}
use Rattle.td_value.specs.model.KnownValues.{HasType}
use Rattle.td_value.specs.model.Values.{Val, boolean, integer, char, relation_value, user, tuple, relation, Relation, Tuple, type_of}
use Rattle.td_value.proofs.KnownValues.{has_its_type}
use Rattle.td_algebra.specs.laws.Membership.{AreNew}
use Rattle.td_algebra.specs.model.Operators.{Addition, added_attributes, added_values, extended_relation, extended_tuple, restriction, set_relation, set_tuple}
use Rattle.td_algebra.specs.laws.Results.{IsTyped}
use Rattle.td_algebra.proofs.Lists.{contains_cases, contains_map, contains_none}
use Rattle.td_algebra.proofs.Members.{both_true, first_true, second_true}
use Rattle.td_algebra.proofs.Results.{IsRelation-extended, IsRelation-set}
use Rattle.td_eval.specs.model.OperatorValues.{additions_of, columns_values, extended_by_settings, extended_value, is_true, of_relation, on_truth, restricted_value, truth_value, value_of_type, value_or_false}
use Rattle.td_eval.specs.laws.ValueTypes.{IsOfType, KeepsType}
use Rattle.td_eval.proofs.code_lemmas.KeepsGathered.{Keeps, gathered_dynamic, gathered_map_keeps, keeps_type, with_value_keeps}
use Rattle.td_eval.proofs.code_lemmas.KeepsOperators.{typed_restriction}
use Rattle.td_eval.proofs.code_lemmas.KeepsRelations.{AreOwn, IsOwn, IsTypedRelation, all_filtered, all_joined, all_made, typed_from_value, typed_heading, typed_set, value_from_typed}

-- ---- WHERE

truth_of : (ds : List DeclaredType) (v : Val) → HasType ds v types.boolean → Keeps (λ (b : Bool). ⊤) (on_truth v Valued)
truth_of ds (boolean b) h = tt
truth_of ds (integer z) h = absurd (cc)
truth_of ds (char s) h = absurd (cc)
truth_of ds (user n ps) h = let e = h.0 in absurd (cc)
truth_of ds (tuple fs) h = let e = h.1 in absurd (cc)
truth_of ds (relation a rs) h = let e = h.0 in absurd (cc)

truth_keeps : (ds : List DeclaredType) (o : Outcome Val) → KeepsType ds (Valued types.boolean) o → Keeps (λ (b : Bool). ⊤) (truth_value o)
truth_keeps ds (Valued v) k = truth_of ds v k.1
truth_keeps ds (Refused cs) k = k

pub restricted_keeps : (ds : List DeclaredType) (r : Relation) (p : Tuple → Outcome Val) → IsOfType ds (relation_value r) (types.relation (pack r.heading))
    → ((u : Tuple) → Contains r.body u → KeepsType ds (Valued types.boolean) (p u))
    → KeepsType ds (Valued (types.relation (pack r.heading))) (restricted_value p r)
restricted_keeps ds r p k h =
    keeps_type ds (types.relation (pack r.heading)) (restricted_value p r)
    (with_value_keeps (AllByRecursion (λ (b : Bool). ⊤)) (λ v. IsOfType ds v (types.relation (pack r.heading))) (gathered (map (λ t. truth_value (p t)) r.body))
    (λ truths. of_relation (restriction (λ t. is_true (p t)) r))
    (gathered_map_keeps (λ (b : Bool). ⊤) (λ t. truth_value (p t)) r.body (λ t c. truth_keeps ds (p t) (h t c)))
    (λ truths _. value_from_typed ds (restriction (λ t. is_true (p t)) r) (typed_restriction ds (λ t. is_true (p t)) r (typed_from_value ds r k))))

-- ---- EXTEND

-- as many parts as attributes, each of which keeps its attribute's type in each tuple
abbrev pub PartsKeep : List DeclaredType → Relation → List Attribute → List (Tuple → Outcome Val) → Type 0
PartsKeep ds r [] [] = ⊤
PartsKeep ds r [] (f ∷ fs) = ⊥
PartsKeep ds r (a ∷ attributes) [] = ⊥
PartsKeep ds r (a ∷ attributes) (f ∷ fs) =
    ((u : Tuple) → Contains r.body u → KeepsType ds (Valued a.1) (f u)) × PartsKeep ds r attributes fs

-- new attributes that are put in one after another are united with the heading
folded_is_union : (h xs : Heading) → are_distinct (attribute_names xs) ≡ true → list_all (λ a. not (has_attribute a.0 h)) xs ≡ true
    → fold with_attribute h xs ≡ heading_union h xs
folded_is_union h [] d l = refl
folded_is_union h (x ∷ xs) d l =
    let other = not (has_name x.0 (attribute_names xs)) in
    let rest = list_all (λ a. not (has_attribute a.0 h)) xs in
    let distinct = are_distinct (attribute_names xs) in
    folded_is_union (with_attribute h x) xs (second_true other distinct d)
    (lacks_with h x xs ∙ both_true other rest (first_true other distinct d) (second_of (has_attribute x.0 h) rest l))
    ∙ ap (λ b. heading_union (if b then h else with_attribute h x) xs) (sym (first_of (has_attribute x.0 h) rest l))

-- where all are gathered, each has a value
pub gathered_member : {X A : Type 0} (g : X → Outcome A) (xs : List X) (ys : List A) → gathered (map g xs) ≡ Valued ys
    → (x : X) → Contains xs x → (y : A) × (g x ≡ Valued y)
gathered_member {A = A} g [] ys e x c = absurd (contains_none x c)
gathered_member {A = A} g (z ∷ zs) ys e x c =
    let is = values_of_both (g z) (gathered (map g zs)) (λ w ws. Valued (w ∷ ws)) ys e in
    by_case is.0 is.2 (gathered_member g zs is.1 is.3 x) (contains_cases z zs x c)
  where
    by_case : (w : A) → g z ≡ Valued w → (Contains zs x → (y : A) × (g x ≡ Valued y)) → (z ≡ x) ⊎ Contains zs x → (y : A) × (g x ≡ Valued y)
    by_case w first rest (inl same) = (w, ap g (sym same) ∙ first)
    by_case w first rest (inr d) = rest d

gathered_items : {A : Type 0} (os : List (Outcome A)) (ys : List A) → gathered os ≡ Valued ys → AllByRecursion (λ (o : Outcome A). (y : A) × (o ≡ Valued y)) os
gathered_items [] ys e = tt
gathered_items (o ∷ os) ys e =
    let is = values_of_both o (gathered os) (λ w ws. Valued (w ∷ ws)) ys e in
    ((is.0, is.2), gathered_items os is.1 is.3)

module _ (ds : List DeclaredType) where
  value_keeps : (t : Type') (o : Outcome Val) → KeepsType ds (Valued t) o → Keeps (λ (v : Val). ⊤) (with_value o (value_of_type t))
  value_keeps t (Valued v) k = rw ((type_eq-Decides (type_of v) t).1 (has_its_type ds v t k.1)) tt
  value_keeps t (Refused cs) k = k

  value_is : (t : Type') (o : Outcome Val) (y : Val) → KeepsType ds (Valued t) o → with_value o (value_of_type t) ≡ Valued y → IsOfType ds (value_or_false o) t
  value_is t (Valued v) y k e = k
  value_is t (Refused cs) y k e = absurd (cc)

module _ (ds : List DeclaredType) (r : Relation) where
  columns_keep : (attributes : List Attribute) (fs : List (Tuple → Outcome Val)) → PartsKeep ds r attributes fs
      → AllByRecursion (λ (o : Outcome (List Val)). Keeps (AllByRecursion (λ (v : Val). ⊤)) o) (columns_values attributes fs r.body)
  columns_keep [] fs k = tt
  columns_keep (a ∷ attributes) [] k = tt
  columns_keep (a ∷ attributes) (f ∷ fs) k = (
    gathered_map_keeps (λ (v : Val). ⊤) (λ u. with_value (f u) (value_of_type a.1)) r.body (λ u c. value_keeps ds a.1 (f u) (k.0 u c)),
    columns_keep attributes fs k.1,
  )

  -- the new attributes are those of the list
  additions_are : (attributes : List Attribute) (fs : List (Tuple → Outcome Val)) → PartsKeep ds r attributes fs → added_attributes (additions_of attributes fs) ≡ attributes
  additions_are [] [] k = refl
  additions_are [] (f ∷ fs) k = absurd k
  additions_are (a ∷ attributes) [] k = absurd k
  additions_are (a ∷ attributes) (f ∷ fs) k = ap (λ xs. a ∷ xs) (additions_are attributes fs k.1)

  -- the new attribute has a value of its type in each tuple
  abbrev IsNew : Addition → Type 0
  IsNew b = IsTyped r b × ((u : Tuple) → Contains r.body u → IsOfType ds (b.value u) b.kind)

  abbrev IsKnownAttribute : Attribute → Type 0
  IsKnownAttribute a = IsName a.0 × IsType a.1 × IsKnown ds a.1

  all_new : (attributes : List Attribute) (fs : List (Tuple → Outcome Val)) → PartsKeep ds r attributes fs → AllByRecursion IsKnownAttribute attributes
      → AllByRecursion (λ (o : Outcome (List Val)). (vs : List Val) × (o ≡ Valued vs)) (columns_values attributes fs r.body)
      → AllByRecursion IsNew (additions_of attributes fs)
  all_new [] fs k named h = tt
  all_new (a ∷ attributes) [] k named h = tt
  all_new (a ∷ attributes) (f ∷ fs) k named h =
      (((named.0.0, named.0.1, λ u c. (let is = value u c in (is.0, has_its_type ds (value_or_false (f u)) a.1 is.1))), value), all_new attributes fs k.1 named.1 h.1)
    where
      value : (u : Tuple) → Contains r.body u → IsOfType ds (value_or_false (f u)) a.1
      value u c =
          let is = gathered_member (λ w. with_value (f w) (value_of_type a.1)) r.body h.0.0 h.0.1 u c in
          value_is ds a.1 (f u) is.0 (k.0 u c) is.1

  typed_of_new : (bs : List Addition) → AllByRecursion IsNew bs → AllByRecursion (IsTyped r) bs
  typed_of_new [] h = tt
  typed_of_new (b ∷ bs) h = (h.0.0, typed_of_new bs h.1)

  own_added : (bs : List Addition) (t : Tuple) → Contains r.body t → AllByRecursion IsNew bs → AreOwn ds (added_values bs t)
  own_added [] t c h = tt
  own_added (b ∷ bs) t c h =
      let is = (h.0.1 t c).1 in
      (subst (HasType ds (b.value t)) (sym (has_its_type ds (b.value t) b.kind is)) is, own_added bs t c h.1)

  known_fit : (attributes : List Attribute) → AllByRecursion IsKnownAttribute attributes → AllByRecursion (λ (a : Attribute). IsName a.0 × IsKnownType ds a.1) attributes
  known_fit [] h = tt
  known_fit (a ∷ attributes) h = ((h.0.0, (h.0.1, h.0.2)), known_fit attributes h.1)

  -- the extended relation
  pub typed_extended : (attributes : List Attribute) (bs : List Addition) → added_attributes bs ≡ attributes → AreNew bs r
      → AllByRecursion IsKnownAttribute attributes → AllByRecursion IsNew bs → IsTypedRelation ds r → IsTypedRelation ds (extended_relation bs r)
  typed_extended attributes bs is new named h m =
      typed_set ds (heading_union r.heading (added_attributes bs)) (map (extended_tuple bs) r.body)
      (IsRelation-extended bs r m.is_relation new (typed_of_new bs h))
      (subst (λ (xs : Heading). AreKnown ds (pack (heading_union r.heading xs))) (sym is)
      (united (known_closed ds) r.heading attributes (typed_heading ds r m) (known_fit attributes named)).1)
      (λ y c. let d = (contains_map (extended_tuple bs) r.body y).0 c in
      subst (AreOwn ds) d.2
      (all_made (IsOwn ds) (d.0 ++ added_values bs d.0) (all_joined (IsOwn ds) d.0 (added_values bs d.0) (m.rows d.0 d.1) (own_added bs d.0 d.1 h))))

  -- the relation with attributes set
  pub typed_setting : (attributes : List Attribute) (bs : List Addition) → added_attributes bs ≡ attributes
      → are_distinct (attribute_names (added_attributes bs)) ≡ true
      → AllByRecursion IsKnownAttribute attributes → AllByRecursion IsNew bs → IsTypedRelation ds r → IsTypedRelation ds (set_relation bs r)
  typed_setting attributes bs is distinct named h m =
      let closed = known_closed ds in
      let others = closed.filtered (λ a. not (has_attribute a.0 attributes)) r.heading (typed_heading ds r m) in
      typed_set ds (heading_union (outside (added_attributes bs) r.heading) (added_attributes bs)) (map (set_tuple bs) r.body)
      (IsRelation-set bs r m.is_relation distinct (typed_of_new bs h))
      (subst (λ (xs : Heading). AreKnown ds (pack (heading_union (outside xs r.heading) xs))) (sym is)
      (united closed (outside attributes r.heading) attributes others (known_fit attributes named)).1)
      (λ y c. let d = (contains_map (set_tuple bs) r.body y).0 c in subst (AreOwn ds) d.2 (own d.0 d.1))
    where
      own : (t : Tuple) → Contains r.body t → AreOwn ds (set_tuple bs t)
      own t c =
          let is_other = λ (e : List ℕ × Val). not (has_attribute e.0 (added_attributes bs)) in
          all_made (IsOwn ds) (filter is_other t ++ added_values bs t)
          (all_joined (IsOwn ds) (filter is_other t) (added_values bs t) (all_filtered (IsOwn ds) is_other t (m.rows t c)) (own_added bs t c h))

pub extended_keeps : (ds : List DeclaredType) (r : Relation) (attributes : List Attribute) (fs : List (Tuple → Outcome Val))
    → IsOfType ds (relation_value r) (types.relation (pack r.heading)) → AllByRecursion (λ (a : Attribute). IsName a.0 × IsType a.1 × IsKnown ds a.1) attributes
    → PartsKeep ds r attributes fs → KeepsType ds (extension_type r.heading attributes) (extended_value (Valued attributes) fs r)
extended_keeps ds r attributes fs k named parts = by_test (are_distinct (attribute_names attributes) && list_all (λ a. not (has_attribute a.0 r.heading)) attributes) refl
  where
    bs : List Addition
    bs = additions_of attributes fs

    folded : Heading
    folded = fold with_attribute r.heading attributes

    by_columns : are_distinct (attribute_names attributes) ≡ true → list_all (λ a. not (has_attribute a.0 r.heading)) attributes ≡ true
        → (o : Outcome (List (List Val))) → gathered (columns_values attributes fs r.body) ≡ o → Keeps (AllByRecursion (AllByRecursion (λ (v : Val). ⊤))) o
        → KeepsType ds (Valued (types.relation (pack folded))) (with_value o (λ columns. of_relation (extended_relation bs r)))
    by_columns distinct lacking (Valued ys) e g =
        let is = additions_are ds r attributes fs parts in
        let new : AreNew bs r =
        (ap (λ xs. are_distinct (attribute_names xs)) is ∙ distinct, ap (λ xs. have_no_common xs r.heading) is ∙ lacking) in
        let h = all_new ds r attributes fs parts named (gathered_items (columns_values attributes fs r.body) ys e) in
        subst (λ (g : Heading). IsOfType ds (relation_value (extended_relation bs r)) (types.relation (pack g)))
        (ap (heading_union r.heading) is ∙ sym (folded_is_union r.heading attributes distinct lacking))
        (value_from_typed ds (extended_relation bs r) (typed_extended ds r attributes bs is new named h (typed_from_value ds r k)))
    by_columns distinct lacking (Refused cs) e g = g

    by_test : (b : Bool) → (are_distinct (attribute_names attributes) && list_all (λ a. not (has_attribute a.0 r.heading)) attributes) ≡ b
        → KeepsType ds (relation_if (value_if b folded causes.Heading))
        (with_value (value_if b folded causes.Heading) (λ heading. with_value (gathered (columns_values attributes fs r.body))
        (λ columns. of_relation (extended_relation bs r))))
    by_test true e =
        by_columns (first_true _ _ e) (second_true _ _ e) (gathered (columns_values attributes fs r.body)) refl
        (gathered_dynamic (AllByRecursion (λ (v : Val). ⊤)) (columns_values attributes fs r.body) (columns_keep ds r attributes fs parts))
    by_test false e = tt

pub settings_keep : (ds : List DeclaredType) (r : Relation) (attributes : List Attribute) (fs : List (Tuple → Outcome Val))
    → IsOfType ds (relation_value r) (types.relation (pack r.heading)) → AllByRecursion (λ (a : Attribute). IsName a.0 × IsType a.1 × IsKnown ds a.1) attributes
    → PartsKeep ds r attributes fs → KeepsType ds (setting_type r.heading attributes) (extended_by_settings (Valued attributes) fs r)
settings_keep ds r attributes fs k named parts = by_test (are_distinct (attribute_names attributes)) refl
  where
    bs : List Addition
    bs = additions_of attributes fs

    heading : Heading
    heading = heading_union (outside attributes r.heading) attributes

    by_columns : are_distinct (attribute_names attributes) ≡ true
        → (o : Outcome (List (List Val))) → gathered (columns_values attributes fs r.body) ≡ o → Keeps (AllByRecursion (AllByRecursion (λ (v : Val). ⊤))) o
        → KeepsType ds (Valued (types.relation (pack heading))) (with_value (with_value o (λ columns. Valued (set_relation bs r))) of_relation)
    by_columns distinct (Valued ys) e g =
        let is = additions_are ds r attributes fs parts in
        let h = all_new ds r attributes fs parts named (gathered_items (columns_values attributes fs r.body) ys e) in
        subst (λ (xs : Heading). IsOfType ds (relation_value (set_relation bs r)) (types.relation (pack (heading_union (outside xs r.heading) xs)))) is
        (value_from_typed ds (set_relation bs r)
        (typed_setting ds r attributes bs is (ap (λ xs. are_distinct (attribute_names xs)) is ∙ distinct) named h (typed_from_value ds r k)))
    by_columns distinct (Refused cs) e g = g

    by_test : (b : Bool) → are_distinct (attribute_names attributes) ≡ b
        → KeepsType ds (relation_if (value_if b heading causes.Heading))
        (with_value (value_if b heading causes.Heading) (λ heading. with_value (with_value (gathered (columns_values attributes fs r.body))
        (λ columns. Valued (set_relation bs r))) of_relation))
    by_test true e =
        by_columns e (gathered (columns_values attributes fs r.body)) refl
        (gathered_dynamic (AllByRecursion (λ (v : Val). ⊤)) (columns_values attributes fs r.body) (columns_keep ds r attributes fs parts))
    by_test false e = tt
