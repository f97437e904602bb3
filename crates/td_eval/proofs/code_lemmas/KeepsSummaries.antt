-- SUMMARIZE gives values of its static type, or is refused by dynamic causes alone.
use Rattle.std.proofs.Common.{◌≡◌, ◌∙◌, ℕ, true, List, [], ◌∷◌, Option, Some, None, ap, map, refl, subst, sym}
use Rattle.std.specs.Prelude.{⊤}
use Rattle.std.specs.List.{AllByRecursion, Contains}
use Rattle.td_check.specs.model.OperatorTypes.{Item, count_item, aggregate_item, aggregate_type, extension_type, item_type, named_part, per_heading, relation_if}
use Rattle.td_check.specs.model.StaticTypes.{with_items}
use Rattle.td_check.proofs.KnownLaws.{IsKnownType, known_closed}
use Rattle.td_check.proofs.OperatorLaws.{Gives, ItemFits, aggregate_gives, gives_all, gives_with}
use Rattle.td_check.proofs.SummaryLaws.{HeadingItems, Items}
use Rattle.td_group.specs.declared.aggregates.Agg.{Agg}
use Rattle.td_group.specs.declared.aggregates.Agg.TheVariants as asked
use Rattle.td_group.specs.model.Groups.{groups}
use Rattle.td_tree.specs.declared.cause.Cause.TheVariants as causes
use Rattle.td_tree.specs.model.Names.{IsName}
use Rattle.td_tree.specs.model.Outcomes.{Outcome, Valued, Refused, gathered, value_if, with_both, with_value}
use Rattle.td_tree.specs.model.Trees.{Attributes, project}
use Rattle.td_types.specs.model.Headings.{is_part}
use Rattle.td_types.specs.code.TypeCode.{unpack_pack}
use Rattle.td_types.specs.model.TypeLists.{DeclaredType, IsKnown}
use Rattle.td_types.specs.model.Types.{Attribute, Heading, IsHeading, IsType, Type', boolean, char, integer, pack, relation, tuple, unpack, user}
use Rattle.td_types.proofs.Meanings.{pack_unpack}
use Rattle.td_types.proofs.OutcomeLaws.{value_of_test, value_of_with, valued_is, values_of_both}
use Rattle.td_value.specs.model.Values.{Val, Relation, Tuple, relation_value, unpack_rows, relation_view}
use Rattle.td_value.proofs.KnownValues.{has_its_type}
use Rattle.td_value.proofs.Typed.{typed}
use Rattle.td_eval.specs.model.AggregateValues.{Summand, asked_of, group_values, group_with, summarized_value, summary_in, summary_value}
use Rattle.td_eval.specs.model.OperatorValues.{extended_value, on_relation, postfix_value}
use Rattle.td_eval.specs.laws.ValueTypes.{IsOfType, KeepsType}
use Rattle.td_eval.proofs.code_lemmas.KeepsAggregates.{GivesOf, aggregated_keeps, gives_of}
use Rattle.td_eval.proofs.code_lemmas.KeepsExtension.{PartsKeep, extended_keeps}
use Rattle.td_eval.proofs.code_lemmas.KeepsGathered.{Keeps, gathered_dynamic, gathered_map_keeps, keeps_type, type_keeps, with_value_keeps}
use Rattle.td_eval.proofs.code_lemmas.KeepsPostfix.{postfix_keeps}
use Rattle.td_eval.proofs.code_lemmas.SummaryParts.{by_type, in_group_with, in_groups, meant_is_part, per_type}
use Rattle.td_eval.proofs.code_lemmas.TypedOutcomes.{KeepsAs, Of, as_typed, keeps_both, keeps_with, refused, typed_as}
use Rattle.td_eval.proofs.code_lemmas.TypedRows.{parts_typed}
use Rattle.td_eval.proofs.code_lemmas.TypedValues.{relation_keeps}

-- ---- items

-- which aggregate an item asks, and the type of what that is of; COUNT counts truth values
abbrev pub asked_by_item : Item → Agg
asked_by_item count_item = asked.Count
asked_by_item (aggregate_item op t) = asked_of op

abbrev pub term_type : Item → Type'
term_type count_item = boolean
term_type (aggregate_item op t) = t

-- as many summands as items, each of which asks what the item does and keeps its type in each tuple
abbrev pub ItemsKeep : List DeclaredType → Relation → Items → List Summand → Type 0
ItemsKeep ds r [] [] = ⊤
ItemsKeep ds r [] (f ∷ fs) = ⊥
ItemsKeep ds r (x ∷ xs) [] = ⊥
ItemsKeep ds r (x ∷ xs) (f ∷ fs) =
    (f.0 ≡ asked_by_item x.1)
    × ((u : Tuple) → Contains r.body u → KeepsType ds (Valued (term_type x.1)) (f.1 u)) × ItemsKeep ds r xs fs

-- the new attribute has the type that its aggregate gives
item_gives : (x : List ℕ × Item) (a : Attribute) → item_type x ≡ Valued a → GivesOf (asked_by_item x.1) (term_type x.1) a.1
item_gives (n, count_item) a e = ap (λ (b : Attribute). b.1) (sym (valued_is (n, integer) a e))
item_gives (n, aggregate_item op t) a e =
    let is = value_of_with (aggregate_type op t) (λ s. Valued (n, s)) a e in
    subst (λ (b : Attribute). GivesOf (asked_of op) t b.1) (valued_is (n, is.0) a is.2) (gives_of op t is.0 is.1)

module _ (ds : List DeclaredType) where
  abbrev IsKnownAttribute : Attribute → Type 0
  IsKnownAttribute a = IsName a.0 × IsType a.1 × IsKnown ds a.1

  item_known : (x : List ℕ × Item) → ItemFits (known_closed ds) x → Gives IsKnownAttribute (item_type x)
  item_known (n, count_item) f = (f, tt, tt)
  item_known (n, aggregate_item op t) f =
      gives_with (IsKnownType ds) IsKnownAttribute (aggregate_type op t) (λ s. Valued (n, s))
      (aggregate_gives (known_closed ds) op t f.1) (λ s k. (f.0, k.0, k.1))

  attributes_known : (xs : Items) (attributes : List Attribute) → AllByRecursion (ItemFits (known_closed ds)) xs
      → gathered (map item_type xs) ≡ Valued attributes
      → AllByRecursion IsKnownAttribute attributes
  attributes_known xs attributes all e =
      subst (Gives (AllByRecursion IsKnownAttribute)) e
      (gives_all (ItemFits (known_closed ds)) IsKnownAttribute item_type xs all item_known)

  any_value : (t : Type') (o : Outcome Val) → KeepsType ds (Valued t) o → Keeps (λ (v : Val). ⊤) o
  any_value t (Valued v) k = tt
  any_value t (Refused cs) k = k

  -- ---- groups

  module _ (r p : Relation) where
    -- each new attribute keeps its type in each tuple
    parts_keep : (xs : Items) (fs : List Summand) (attributes : List Attribute) → ItemsKeep ds r xs fs
        → gathered (map item_type xs) ≡ Valued attributes
        → PartsKeep ds p attributes (map (summary_in r p) fs)
    parts_keep [] [] attributes k e = subst (λ ys. PartsKeep ds p ys []) (valued_is [] attributes e) tt
    parts_keep [] (f ∷ fs) attributes k e = absurd k
    parts_keep (x ∷ xs) [] attributes k e = absurd k
    parts_keep (x ∷ xs) (f ∷ fs) attributes k e =
        let is = values_of_both (item_type x) (gathered (map item_type xs)) (λ y ys. Valued (y ∷ ys)) attributes e in
        let gives = subst (λ a. GivesOf a (term_type x.1) is.0.1) (sym k.0) (item_gives x is.0 is.2) in
        subst (λ ys. PartsKeep ds p ys (map (summary_in r p) (f ∷ fs))) (valued_is (is.0 ∷ is.1) attributes is.4) (
          λ w c. aggregated_keeps ds f.0 (term_type x.1) is.0.1 gives f.1 (group_with r p w)
              (λ u d. k.1 u (in_group_with r p w u d)),
          parts_keep xs fs is.1 k.2 is.3,
        )

    abbrev AllAny : List (List Val) → Type 0
    AllAny = AllByRecursion (AllByRecursion (λ (v : Val). ⊤))

    -- what the items are of in the groups has values, or dynamic causes
    groups_keep : (xs : Items) (fs : List Summand) → ItemsKeep ds r xs fs
        → AllByRecursion (λ (o : Outcome (List (List Val))). Keeps AllAny o) (map (group_values (groups r p)) fs)
    groups_keep [] [] k = tt
    groups_keep [] (f ∷ fs) k = absurd k
    groups_keep (x ∷ xs) [] k = tt
    groups_keep (x ∷ xs) (f ∷ fs) k = (
      gathered_map_keeps (AllByRecursion (λ (v : Val). ⊤)) (λ (g : Tuple × Relation). gathered (map f.1 g.1.body))
          (groups r p)
          (λ g c. gathered_map_keeps (λ (v : Val). ⊤) f.1 g.1.body (λ u d. any_value (term_type x.1) (f.1 u) (k.1 u (in_groups r p g u c d)))),
      groups_keep xs fs k.2,
    )

    pub summarized_keeps : (xs : Items) (fs : List Summand) (attributes : List Attribute)
        → IsOfType ds (relation_value p) (relation (pack p.heading))
        → is_part p.heading r.heading ≡ true → gathered (map item_type xs) ≡ Valued attributes
        → AllByRecursion (ItemFits (known_closed ds)) xs → ItemsKeep ds r xs fs
        → KeepsType ds (extension_type p.heading attributes) (summarized_value (Valued attributes) fs r p)
    summarized_keeps xs fs attributes k part e all items = by_type (extension_type p.heading attributes) refl
      where
        given : Outcome Val
        given = extended_value (Valued attributes) (map (summary_in r p) fs) p

        given_keeps : KeepsType ds (extension_type p.heading attributes) (extended_value (Valued attributes) (map (summary_in r p) fs) p)
        given_keeps =
            extended_keeps ds p attributes (map (summary_in r p) fs) k (attributes_known xs attributes all e)
            (parts_keep xs fs attributes items e)

        by_type : (o : Outcome Type') → extension_type p.heading attributes ≡ o
            → KeepsType ds o (summarized_value (Valued attributes) fs r p)
        by_type (Refused cs) is = tt
        by_type (Valued t) is =
            keeps_type ds t (summarized_value (Valued attributes) fs r p)
            (subst
            (λ b. Keeps (λ v. IsOfType ds v t) (with_value (value_if b (groups r p) causes.Heading)
            (λ gs. with_value (gathered (map (group_values gs) fs)) (λ values. given)))) (sym part)
            (with_value_keeps (AllByRecursion AllAny) (λ v. IsOfType ds v t) (gathered (map (group_values (groups r p)) fs))
            (λ values. given)
            (gathered_dynamic AllAny (map (group_values (groups r p)) fs) (groups_keep xs fs items))
            (λ values _. type_keeps ds t given (subst (λ o. KeepsType ds o given) is given_keeps))))

-- ---- what follows of two types

where_both : {A B : Type 0} (ds : List DeclaredType) (x : Outcome A) (y : Outcome B) (f : A → B → Outcome Type') (o : Outcome Val)
    → ((a : A) (b : B) → x ≡ Valued a → y ≡ Valued b → KeepsType ds (f a b) o) → KeepsType ds (with_both x y f) o
where_both ds (Valued a) (Valued b) f o h = h a b refl refl
where_both ds (Valued a) (Refused cs) f o h = tt
where_both ds (Refused bs) (Valued b) f o h = tt
where_both ds (Refused bs) (Refused cs) f o h = tt

-- PER's heading, where it is a part
per_is : (h g : Heading) (t : Type') → per_heading h t ≡ Valued g → (t ≡ relation (pack g)) × (is_part g h ≡ true)
per_is h g boolean e = absurd (cc)
per_is h g integer e = absurd (cc)
per_is h g char e = absurd (cc)
per_is h g (user n) e = absurd (cc)
per_is h g (tuple a) e = absurd (cc)
per_is h g (relation a) e =
    let is = value_of_test (is_part (unpack a) h) (unpack a) g causes.Heading e in
    (ap relation (sym (pack_unpack a) ∙ ap pack is.1), subst (λ k. is_part k h ≡ true) is.1 is.0)

-- the heading of a relation that has a type
heading_is_one : (ds : List DeclaredType) (v : Val) (h : Heading) → IsOfType ds v (relation (pack h)) → IsHeading (pack h)
heading_is_one ds v h k = subst IsType (has_its_type ds v (relation (pack h)) k.1) (typed v k.0)

-- ---- the operand, with its items

module _ (ds : List DeclaredType) (items : Heading → Outcome Items) (attributes : Heading → Outcome (List Attribute))
    (summands : List Summand) where
  abbrev summary : Val → Val → Outcome Val
  summary = summary_value attributes summands

  -- in each relation of a heading in whose tuples the items have types, the summands keep these, which tell the new attributes
  abbrev pub AreKept : Type 0
  AreKept =
      (r : Relation) (xs : Items) → IsOfType ds (relation_value r) (relation (pack r.heading)) → items r.heading ≡ Valued xs
      → (attributes r.heading ≡ gathered (map item_type xs)) × AllByRecursion (ItemFits (known_closed ds)) xs × ItemsKeep ds r xs summands

  -- a relation of the heading
  abbrev IsOperand : Option HeadingItems → Val → Type 0
  IsOperand None v = ⊤
  IsOperand (Some both) v = IsOfType ds v (relation (pack both.0)) × (items both.0 ≡ Valued both.1)

  no_operand : (t : Type') (o : Outcome Val) → KeepsType ds (Valued t) o → KeepsAs IsOperand (Valued None) o
  no_operand t (Valued v) k = tt
  no_operand t (Refused cs) k = k

  operand_keeps : (x : Outcome Type') (o : Outcome Val) → KeepsType ds x o
      → KeepsAs IsOperand (with_value x (λ s. with_items s items)) o
  operand_keeps (Refused bs) o k = tt
  operand_keeps (Valued boolean) o k = no_operand boolean o k
  operand_keeps (Valued integer) o k = no_operand integer o k
  operand_keeps (Valued char) o k = no_operand char o k
  operand_keeps (Valued (user n)) o k = no_operand (user n) o k
  operand_keeps (Valued (tuple a)) o k = no_operand (tuple a) o k
  operand_keeps (Valued (relation a)) o k = of_items (items (unpack a)) refl o k
    where
      of_items : (y : Outcome Items) → items (unpack a) ≡ y → (o : Outcome Val) → KeepsType ds (Valued (relation a)) o
          → KeepsAs IsOperand (with_value y (λ xs. Valued (Some (unpack a, xs)))) o
      of_items (Refused cs) e o k = tt
      of_items (Valued xs) e (Valued v) k = (subst (λ b. IsOfType ds v (relation b)) (sym (pack_unpack a)) k, e)
      of_items (Valued xs) e (Refused cs) k = k

  -- of two relations, the second of a part of the first's heading
  of_two : AreKept → (h g : Heading) (xs : Items) (kinds : List Attribute) (v u : Val) → IsOfType ds v (relation (pack h))
      → items h ≡ Valued xs
      → gathered (map item_type xs) ≡ Valued kinds → is_part g h ≡ true → IsOfType ds u (relation (pack g))
      → KeepsType ds (extension_type g kinds) (summary_value attributes summands v u)
  of_two kept h g xs kinds v u k e f part l =
      relation_keeps ds (extension_type g kinds) v (pack h)
      (λ r. on_relation u (λ p. summarized_value (attributes r.heading) summands r p)) k
      (λ rs a. relation_keeps ds (extension_type g kinds) u (pack g)
      (λ p. summarized_value (attributes (unpack (pack h))) summands (relation_view (unpack (pack h)) (unpack_rows rs)) p) l
      (λ ss b. of_relations (relation_view (unpack (pack h)) (unpack_rows rs)) (relation_view (unpack (pack g)) (unpack_rows ss))
      (unpack_pack h) (unpack_pack g) (parts_typed ds (pack h) rs a) (parts_typed ds (pack g) ss b)))
    where
      of_relations : (r p : Relation) → r.heading ≡ h → p.heading ≡ g
          → IsOfType ds (relation_value r) (relation (pack r.heading))
          → IsOfType ds (relation_value p) (relation (pack p.heading))
          → KeepsType ds (extension_type g kinds) (summarized_value (attributes r.heading) summands r p)
      of_relations r p is there a b =
          let x = kept r xs a (ap items is ∙ e) in
          let fits : is_part p.heading r.heading ≡ true = (λ i. is_part (there i) (is i)) ∙ part in
          subst (λ o. KeepsType ds (extension_type g kinds) (summarized_value o summands r p)) (sym (x.0 ∙ f))
          (subst (λ k. KeepsType ds (extension_type k kinds) (summarized_value (Valued kinds) summands r p)) there
          (summarized_keeps ds r p xs summands kinds b fits f x.1 x.2))

  -- ---- PER

  per_keeps : AreKept → (z : Option HeadingItems) (v : Val) (t : Type') (u : Val) → IsOperand z v → IsOfType ds u t
      → KeepsType ds (per_type z t) (summary v u)
  per_keeps kept None v t u q k = tt
  per_keeps kept (Some both) v t u q k =
      where_both ds (per_heading both.0 t) (gathered (map item_type both.1)) (λ g kinds. extension_type g kinds)
      (summary v u)
      (λ g kinds e f.
      let is = per_is both.0 g t e in
      of_two kept both.0 g both.1 kinds v u q.0 q.1 f is.1 (subst (IsOfType ds u) is.0 k))

  pub summarize_per_keeps : (x y : Outcome Type') (o p : Outcome Val) → AreKept → KeepsType ds x o → KeepsType ds y p
      → KeepsType ds (with_both (with_value x (λ s. with_items s items)) y per_type)
      (with_both o p summary)
  summarize_per_keeps x y o p kept k l =
      as_typed ds _ _
      (keeps_both IsOperand (Of ds) (Of ds) (with_value x (λ s. with_items s items)) y o p
      per_type summary
      (operand_keeps x o k) (typed_as ds y p l)
      (λ z v t u q m. typed_as ds (per_type z t) (summary v u) (per_keeps kept z v t u q m)))

  -- ---- BY

  by_keeps : AreKept → (by : Attributes) (z : Option HeadingItems) (v : Val) → IsOperand z v
      → KeepsType ds (by_type by z) (with_value (postfix_value (project by) v) (summary v))
  by_keeps kept by None v q = tt
  by_keeps kept by (Some both) v q =
      where_both ds (named_part by both.0) (gathered (map item_type both.1)) (λ g kinds. extension_type g kinds)
      (with_value (postfix_value (project by) v) (summary v))
      (λ g kinds e f. of_part g kinds f (meant_is_part by both.0 g (heading_is_one ds v both.0 q.0) e) (postfix_value (project by) v)
      (subst (λ o. KeepsType ds (relation_if o) (postfix_value (project by) v)) e
      (subst (λ h. KeepsType ds (relation_if (named_part by h)) (postfix_value (project by) v)) (unpack_pack both.0)
      (postfix_keeps ds (project by) v (relation (pack both.0)) tt q.0))))
    where
      of_part : (g : Heading) (kinds : List Attribute) → gathered (map item_type both.1) ≡ Valued kinds
          → is_part g both.0 ≡ true
          → (o : Outcome Val) → KeepsType ds (Valued (relation (pack g))) o
          → KeepsType ds (extension_type g kinds) (with_value o (summary v))
      of_part g kinds f part (Valued u) k = of_two kept both.0 g both.1 kinds v u q.0 q.1 f part k
      of_part g kinds f part (Refused cs) k =
          as_typed ds (extension_type g kinds) (Refused cs) (refused (Of ds) (extension_type g kinds) cs k)

  pub summarize_by_keeps : (by : Attributes) (x : Outcome Type') (o : Outcome Val) → AreKept → KeepsType ds x o
      → KeepsType ds (with_value (with_value x (λ s. with_items s items)) (by_type by))
      (with_value o (λ v. with_value (postfix_value (project by) v) (summary v)))
  summarize_by_keeps by x o kept k =
      as_typed ds _ _
      (keeps_with IsOperand (Of ds) (with_value x (λ s. with_items s items)) o
      (by_type by)
      (λ v. with_value (postfix_value (project by) v) (summary v))
      (operand_keeps x o k)
      (λ z v q. typed_as ds (by_type by z)
      (with_value (postfix_value (project by) v) (summary v)) (by_keeps kept by z v q)))
