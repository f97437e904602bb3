-- What the operators give of relations are relations.
use Rattle.std.proofs.Common.{◌≡◌, ℕ, Bool, true, false, List, [], ◌∷◌, ◌++◌, filter, map, subst, sym}
use Rattle.std.specs.Prelude.{IsTrue, if◌then◌else◌, not}
use Rattle.std.specs.List.{All, AllByRecursion, Contains, flat_map}
use Rattle.std.proofs.lemmas.List.Elements.{All-append, recursion_from_All}
use Rattle.td_tree.specs.model.Names.{IsName}
use Rattle.td_types.specs.model.Headings.{add_missing, are_distinct, can_rename, has_attribute, heading_union, new_name, outside, projection, renamed_attributes}
use Rattle.td_types.specs.model.Types.{Attribute, Heading, IsHeading, IsType, attribute_names, pack, same_name}
use Rattle.td_types.proofs.HeadingLaws.{IsHeading-filter}
use Rattle.td_value.specs.model.Values.{IsRelation, IsTuple, IsTupleOf, Relation, Tuple, AreFields, pack_fields, projected_tuple, relation_of, type_of}
use Rattle.td_value.proofs.Kept.{IsTuple-filter}
use Rattle.td_algebra.specs.laws.Membership.{AreNew, IsIn}
use Rattle.td_algebra.specs.model.Operators.{Addition, added_attributes, added_values, are_partners, composition, extended_relation, extended_tuple, join, own_names, product, projected_relation, renamed_relation, renamed_tuple, set_relation, set_tuple, united_tuple, union}
use Rattle.td_algebra.specs.laws.Results.{IsTyped, NewNamesAreNames, ResultsAreRelations}
use Rattle.td_algebra.proofs.Entries.{IsTuple-tuple_of, fields_append}
use Rattle.td_algebra.proofs.Extensions.{IsTupleOf-extended, entries_outside, extended_distinct}
use Rattle.td_algebra.proofs.Lists.{contains_filter, contains_flat_map, contains_map}
use Rattle.td_algebra.proofs.Projections.{IsTupleOf-projected}
use Rattle.td_algebra.proofs.Relations.{All-from_members, IsRelation-relation_of, IsRelation-restriction, member_headed, rows_headed}
use Rattle.td_algebra.proofs.Renamings.{IsTupleOf-renamed}
use Rattle.td_algebra.proofs.Settings.{IsTupleOf-set, set_distinct}
use Rattle.td_algebra.proofs.United.{IsHeading-union, IsTupleOf-united, add_missing-heading}

-- ---- headings

-- an attribute of a heading, wherever it stands
abbrev pub IsAttribute : Attribute → Type 0
IsAttribute a = IsName a.0 × IsType a.1

-- a heading with more attributes
pub IsHeading-added : (h xs : Heading) → IsHeading (pack h) → AllByRecursion IsAttribute xs → IsHeading (pack (heading_union h xs))
IsHeading-added h [] p q = p
IsHeading-added h (a ∷ xs) p q = IsHeading-added (add_missing h a) xs (add_missing-heading h a q.0.0 q.0.1 p) q.1

new_name_is : (rs : List (List ℕ × List ℕ)) (n : List ℕ) → IsName n → AllByRecursion (λ (r : List ℕ × List ℕ). IsName r.1) rs → IsName (new_name rs n)
new_name_is [] n p h = p
new_name_is (r ∷ rs) n p h = by_name (same_name r.0 n) (new_name_is rs n p h.1)
  where
    by_name : (b : Bool) → IsName (new_name rs n) → IsName (if b then r.1 else new_name rs n)
    by_name true rest = h.0
    by_name false rest = rest

attributes_are_renamed : (rs : List (List ℕ × List ℕ)) (h : Heading) → IsHeading (pack h) → AllByRecursion (λ (r : List ℕ × List ℕ). IsName r.1) rs
    → AllByRecursion IsAttribute (renamed_attributes rs h)
attributes_are_renamed rs [] p q = tt
attributes_are_renamed rs (a ∷ h) p q = ((new_name_is rs a.0 p.0 q, p.1), attributes_are_renamed rs h p.3 q)

-- the attributes of a heading under their new names
pub IsHeading-renamed : (rs : List (List ℕ × List ℕ)) (h : Heading) → IsHeading (pack h) → NewNamesAreNames rs
    → IsHeading (pack (heading_union [] (renamed_attributes rs h)))
IsHeading-renamed rs h p q =
    IsHeading-added [] (renamed_attributes rs h) tt (attributes_are_renamed rs h p (recursion_from_All (λ (r : List ℕ × List ℕ). IsName r.1) rs q))

-- ---- relations

-- the tuples that a function gives of a relation's
pub IsRelation-mapped : (h : Heading) (f : Tuple → Tuple) (r : Relation) → IsHeading (pack h) → ((t : Tuple) → IsIn t r → IsTupleOf h (f t))
    → IsRelation (relation_of h (map f r.body))
IsRelation-mapped h f r p k =
    IsRelation-relation_of h (map f r.body) p
    (All-from_members (IsTupleOf h) (map f r.body) (λ y c. let d = (contains_map f r.body y).0 c in subst (IsTupleOf h) d.2 (k d.0 d.1)))

pub IsRelation-union : (r s : Relation) → IsRelation r → IsRelation s → r.heading ≡ s.heading → IsRelation (union r s)
IsRelation-union r s p q e =
    IsRelation-relation_of r.heading (r.body ++ s.body) p.2
    (All-append (IsTupleOf r.heading) r.body s.body (rows_headed r p) (subst (λ h. All (IsTupleOf h) s.body) (sym e) (rows_headed s q)))

pub IsRelation-projected : (names : List (List ℕ)) (r : Relation) → IsRelation r → IsRelation (projected_relation names r)
IsRelation-projected names r p =
    IsRelation-mapped (projection names r.heading) (projected_tuple names) r (IsHeading-filter _ r.heading p.2)
    (λ t c. IsTupleOf-projected names r.heading t (member_headed r t p c))

pub IsRelation-renamed : (rs : List (List ℕ × List ℕ)) (r : Relation) → IsRelation r → IsTrue (can_rename rs r.heading) → NewNamesAreNames rs
    → IsRelation (renamed_relation rs r)
IsRelation-renamed rs r p e q =
    let h = IsHeading-renamed rs r.heading p.2 q in
    IsRelation-mapped (heading_union [] (renamed_attributes rs r.heading)) (renamed_tuple rs) r h (λ t c. IsTupleOf-renamed rs r.heading t (member_headed r t p c) e h)

-- tuples of one relation united with tuples of another
pub IsRelation-united : (r s : Relation) (partners : Tuple → List Tuple) → IsRelation r → IsRelation s
    → ((t u : Tuple) → Contains (partners t) u → IsIn u s)
    → IsRelation (relation_of (heading_union r.heading s.heading) (flat_map (λ t. map (united_tuple t) (partners t)) r.body))
IsRelation-united r s partners p q among =
    IsRelation-relation_of (heading_union r.heading s.heading) (flat_map (λ t. map (united_tuple t) (partners t)) r.body)
    (IsHeading-union r.heading s.heading p.2 q.2)
    (All-from_members (IsTupleOf (heading_union r.heading s.heading)) (flat_map (λ t. map (united_tuple t) (partners t)) r.body) headed)
  where
    headed : (y : Tuple) → Contains (flat_map (λ t. map (united_tuple t) (partners t)) r.body) y → IsTupleOf (heading_union r.heading s.heading) y
    headed y c =
        let d = (contains_flat_map (λ t. map (united_tuple t) (partners t)) r.body y).0 c in
        let e = (contains_map (united_tuple d.0) (partners d.0) y).0 d.2 in
        subst (IsTupleOf (heading_union r.heading s.heading)) e.2
        (IsTupleOf-united r.heading s.heading d.0 e.0 (member_headed r d.0 p d.1) (member_headed s e.0 q (among d.0 e.0 e.1)))

pub IsRelation-join : (r s : Relation) → IsRelation r → IsRelation s → IsRelation (join r s)
IsRelation-join r s p q =
    IsRelation-united r s (λ t. filter (are_partners r s t) s.body) p q (λ t u c. ((contains_filter (are_partners r s t) s.body u).0 c).0)

pub IsRelation-product : (r s : Relation) → IsRelation r → IsRelation s → IsRelation (product r s)
IsRelation-product r s p q = IsRelation-united r s (λ t. s.body) p q (λ t u c. c)

pub IsRelation-composition : (r s : Relation) → IsRelation r → IsRelation s → IsRelation (composition r s)
IsRelation-composition r s p q = IsRelation-projected (own_names r s ++ own_names s r) (join r s) (IsRelation-join r s p q)

-- ---- new attributes

added_are_attributes : (r : Relation) (bs : List Addition) → AllByRecursion (IsTyped r) bs → AllByRecursion IsAttribute (added_attributes bs)
added_are_attributes r [] h = tt
added_are_attributes r (b ∷ bs) h = ((h.0.0, h.0.1), added_are_attributes r bs h.1)

added_fields : (r : Relation) (bs : List Addition) (t : Tuple) → IsIn t r → AllByRecursion (IsTyped r) bs → AreFields (pack_fields (added_values bs t))
added_fields r [] t c h = tt
added_fields r (b ∷ bs) t c h = (h.0.0, (h.0.2 t c).0, added_fields r bs t c h.1)

added_typed : (r : Relation) (bs : List Addition) (t : Tuple) → IsIn t r → AllByRecursion (IsTyped r) bs
    → AllByRecursion (λ (b : Addition). type_of (b.value t) ≡ b.kind) bs
added_typed r [] t c h = tt
added_typed r (b ∷ bs) t c h = ((h.0.2 t c).1, added_typed r bs t c h.1)

pub IsRelation-extended : (bs : List Addition) (r : Relation) → IsRelation r → AreNew bs r → AllByRecursion (IsTyped r) bs
    → IsRelation (extended_relation bs r)
IsRelation-extended bs r p new typed = IsRelation-mapped (heading_union r.heading (added_attributes bs)) (extended_tuple bs) r heading headed
  where
    heading : IsHeading (pack (heading_union r.heading (added_attributes bs)))
    heading = IsHeading-added r.heading (added_attributes bs) p.2 (added_are_attributes r bs typed)

    headed : (t : Tuple) → IsIn t r → IsTupleOf (heading_union r.heading (added_attributes bs)) (extended_tuple bs t)
    headed t c =
        let member = member_headed r t p c in
        let valid : IsTuple (extended_tuple bs t) =
        IsTuple-tuple_of (t ++ added_values bs t) (fields_append t (added_values bs t) member.0.0 (added_fields r bs t c typed))
        (extended_distinct bs r.heading t member new.0 new.1) in
        IsTupleOf-extended bs r.heading t member new.0 new.1 valid (added_typed r bs t c typed) heading

pub IsRelation-set : (bs : List Addition) (r : Relation) → IsRelation r → are_distinct (attribute_names (added_attributes bs)) ≡ true → AllByRecursion (IsTyped r) bs
    → IsRelation (set_relation bs r)
IsRelation-set bs r p distinct typed = IsRelation-mapped (heading_union others (added_attributes bs)) (set_tuple bs) r heading headed
  where
    others : Heading
    others = outside (added_attributes bs) r.heading

    heading : IsHeading (pack (heading_union others (added_attributes bs)))
    heading =
        IsHeading-added others (added_attributes bs) (IsHeading-filter (λ a. not (has_attribute a.0 (added_attributes bs))) r.heading p.2)
        (added_are_attributes r bs typed)

    headed : (t : Tuple) → IsIn t r → IsTupleOf (heading_union others (added_attributes bs)) (set_tuple bs t)
    headed t c =
        let member = member_headed r t p c in
        let kept = IsTuple-filter (λ e. not (has_attribute e.0 (added_attributes bs))) t member.0 in
        let valid : IsTuple (set_tuple bs t) =
        IsTuple-tuple_of (entries_outside (added_attributes bs) t ++ added_values bs t)
        (fields_append (entries_outside (added_attributes bs) t) (added_values bs t) kept.0 (added_fields r bs t c typed))
        (set_distinct bs r.heading t member distinct) in
        IsTupleOf-set bs r.heading t member distinct valid (added_typed r bs t c typed) heading

pub are_relations : ResultsAreRelations
are_relations = record {
  of_restriction = IsRelation-restriction;
  of_projection = IsRelation-projected;
  of_renaming = IsRelation-renamed;
  of_extension = λ bs r h new typed. IsRelation-extended bs r h new (recursion_from_All (IsTyped r) bs typed);
  of_setting = λ bs r h distinct typed. IsRelation-set bs r h distinct (recursion_from_All (IsTyped r) bs typed);
  of_union = IsRelation-union;
  of_intersection = λ r s h. IsRelation-restriction _ r h;
  of_difference = λ r s h. IsRelation-restriction _ r h;
  of_join = IsRelation-join;
  of_product = IsRelation-product;
  of_composition = IsRelation-composition;
  of_semijoin = λ r s h. IsRelation-restriction _ r h;
  of_semidifference = λ r s h. IsRelation-restriction _ r h;
}
