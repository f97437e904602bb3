-- What type trees mean where types are declared.
use Rattle.std.proofs.Common.{◌≡◌, ◌∙◌, ◌∷◌, ◌++◌, ℕ, true, List, [], ap, fold, refl, subst, sym}
use Rattle.std.specs.List.{AllByRecursion}
use Rattle.std.specs.List.Sorted.{IsStrictlySortedBy}
use Rattle.std.proofs.lemmas.List.Sorted.{IsPermutation-refl}
use Rattle.td_tree.specs.declared.cause.Cause.TheVariants as causes
use Rattle.td_tree.specs.model.Names.{IsName}
use Rattle.td_tree.specs.model.Outcomes.{Outcome, Valued, with_value, with_both}
use Rattle.td_tree.specs.model.Trees.{TypeTree, AttributeTrees, no_attributes, attribute}
use Rattle.td_tree.specs.model.WrittenTrees.{HasNames, HaveNames}
use Rattle.td_tree.specs.model.Trees as trees
use Rattle.td_types.specs.model.Headings.{are_distinct, heading_from, made_heading, with_attribute}
use Rattle.td_types.specs.model.TypeLists.{AreKnown, DeclaredType, IsKnown, attributes_meant, is_declared, type_meant}
use Rattle.td_types.specs.laws.TypeTrees.{attribute_trees, type_tree}
use Rattle.td_types.specs.model.Types.{Attrs, Attribute, Heading, IsAscending, IsHeading, IsType, Type', attr, attribute_names, boolean, char, integer, no_attrs, pack, relation, tuple, unpack, user}
use Rattle.td_types.proofs.DeclaredTypes.{AreKnown-with, is_declared-earlier}
use Rattle.td_types.proofs.DistinctNames.{absent_below}
use Rattle.td_types.proofs.HeadingLaws.{IsHeading-with, ascending_from_heading}
use Rattle.td_types.proofs.Made.{sorted_is_heading_from}
use Rattle.td_types.proofs.OutcomeLaws.{value_of_test, value_of_with, valued_is, values_of_both}

-- the tuple type and the relation type of attributes
abbrev tuple_of : List Attribute → Outcome Type'
tuple_of attributes = with_value (made_heading attributes) (λ h. Valued (tuple (pack h)))

abbrev relation_of : List Attribute → Outcome Type'
relation_of attributes = with_value (made_heading attributes) (λ h. Valued (relation (pack h)))

abbrev with_first : List ℕ → Type' → List Attribute → Outcome (List Attribute)
with_first name t attributes = Valued ((name, t) ∷ attributes)

-- ---- a tree that means a type means it where more types are declared

mutual
  pub meant_later : (ds more : List DeclaredType) (tree : TypeTree) (t : Type') → type_meant ds tree ≡ Valued t
      → type_meant (ds ++ more) tree ≡ Valued t
  meant_later ds more trees.integer t e = e
  meant_later ds more trees.char t e = e
  meant_later ds more trees.boolean t e = e
  meant_later ds more (trees.user name) t e =
      let is = value_of_test (is_declared name ds) (user name) t causes.NameUnknown e in
      rw (is_declared-earlier name ds more is.0) (ap Valued is.1)
  meant_later ds more (trees.tuple_type heading) t e =
      let is = value_of_with (attributes_meant ds heading) tuple_of t e in
      ap (λ o. with_value o tuple_of) (attributes_later ds more heading is.0 is.1) ∙ is.2
  meant_later ds more (trees.relation_type heading) t e =
      let is = value_of_with (attributes_meant ds heading) relation_of t e in
      ap (λ o. with_value o relation_of) (attributes_later ds more heading is.0 is.1) ∙ is.2

  pub attributes_later : (ds more : List DeclaredType) (heading : AttributeTrees) (xs : List Attribute)
      → attributes_meant ds heading ≡ Valued xs → attributes_meant (ds ++ more) heading ≡ Valued xs
  attributes_later ds more no_attributes xs e = e
  attributes_later ds more (attribute name ty rest) xs e =
      let is = values_of_both (type_meant ds ty) (attributes_meant ds rest) (with_first name) xs e in
      ap (λ o. with_both o (attributes_meant (ds ++ more) rest) (with_first name)) (meant_later ds more ty is.0 is.2)
      ∙ ap (λ o. with_both (Valued is.0) o (with_first name)) (attributes_later ds more rest is.1 is.3) ∙ is.4

-- ---- what a tree of names means is a type whose user types are declared

abbrev Knows : List DeclaredType → Attribute → Type 0
Knows ds a = IsName a.0 × IsType a.1 × IsKnown ds a.1

known_from : (ds : List DeclaredType) (h xs : Heading) → IsHeading (pack h) → AreKnown ds (pack h) → AllByRecursion (Knows ds) xs
    → IsHeading (pack (fold with_attribute h xs)) × AreKnown ds (pack (fold with_attribute h xs))
known_from ds h [] a k all = (a, k)
known_from ds h (x ∷ xs) a k all =
    known_from ds (with_attribute h x) xs (IsHeading-with x.0 x.1 h all.0.0 all.0.1 a) (AreKnown-with ds x h all.0.2 k) all.1

-- the heading that is made of known attributes is one, and knows its types
pub known_heading : (ds : List DeclaredType) (xs g : Heading) → AllByRecursion (Knows ds) xs → made_heading xs ≡ Valued g
    → IsHeading (pack g) × AreKnown ds (pack g)
known_heading ds xs g all e =
    let is = value_of_test (are_distinct (attribute_names xs)) (heading_from xs) g causes.Heading e in
    subst (λ h. IsHeading (pack h) × AreKnown ds (pack h)) is.1 (known_from ds [] xs tt tt all)

mutual
  pub known_type : (ds : List DeclaredType) (tree : TypeTree) (t : Type') → HasNames tree → type_meant ds tree ≡ Valued t
      → IsType t × IsKnown ds t
  known_type ds trees.integer t h e = subst (λ u. IsType u × IsKnown ds u) (valued_is integer t e) (tt, tt)
  known_type ds trees.char t h e = subst (λ u. IsType u × IsKnown ds u) (valued_is char t e) (tt, tt)
  known_type ds trees.boolean t h e = subst (λ u. IsType u × IsKnown ds u) (valued_is boolean t e) (tt, tt)
  known_type ds (trees.user name) t h e =
      let is = value_of_test (is_declared name ds) (user name) t causes.NameUnknown e in
      subst (λ u. IsType u × IsKnown ds u) is.1 (h, is.0)
  known_type ds (trees.tuple_type heading) t h e =
      let xs = value_of_with (attributes_meant ds heading) tuple_of t e in
      let g = value_of_with (made_heading xs.0) (λ k. Valued (tuple (pack k))) t xs.2 in
      subst (λ u. IsType u × IsKnown ds u) (valued_is (tuple (pack g.0)) t g.2) (known_heading ds xs.0 g.0 (known_attributes ds heading xs.0 h xs.1) g.1)
  known_type ds (trees.relation_type heading) t h e =
      let xs = value_of_with (attributes_meant ds heading) relation_of t e in
      let g = value_of_with (made_heading xs.0) (λ k. Valued (relation (pack k))) t xs.2 in
      subst (λ u. IsType u × IsKnown ds u) (valued_is (relation (pack g.0)) t g.2) (known_heading ds xs.0 g.0 (known_attributes ds heading xs.0 h xs.1) g.1)

  pub known_attributes : (ds : List DeclaredType) (heading : AttributeTrees) (xs : List Attribute) → HaveNames heading
      → attributes_meant ds heading ≡ Valued xs → AllByRecursion (Knows ds) xs
  known_attributes ds no_attributes xs h e = subst (AllByRecursion (Knows ds)) (valued_is [] xs e) tt
  known_attributes ds (attribute name ty rest) xs h e =
      let is = values_of_both (type_meant ds ty) (attributes_meant ds rest) (with_first name) xs e in
      let k = known_type ds ty is.0 h.1 is.2 in
      subst (AllByRecursion (Knows ds)) (valued_is ((name, is.0) ∷ is.1) xs is.4) ((h.0, k.0, k.1), known_attributes ds rest is.1 h.2 is.3)

-- ---- the tree of a type means the type

pub pack_unpack : (xs : Attrs) → pack (unpack xs) ≡ xs
pack_unpack no_attrs = refl
pack_unpack (attr n t xs) = ap (attr n t) (pack_unpack xs)

distinct_ascending : (xs : Heading) → IsAscending xs → are_distinct (attribute_names xs) ≡ true
unfolding IsStrictlySortedBy
distinct_ascending [] h = refl
distinct_ascending (x ∷ xs) h = rw (absent_below x.0 (attribute_names xs) h.0) (distinct_ascending xs h.1)

-- the heading of a heading's attributes is the heading
pub heading_itself : (xs : Heading) → IsHeading (pack xs) → made_heading xs ≡ Valued xs
heading_itself xs h =
    let up = ascending_from_heading xs h in
    let apart = distinct_ascending xs up in
    rw (apart, ← sorted_is_heading_from xs xs (IsPermutation-refl xs) apart up) refl

mutual
  pub means_type : (ds : List DeclaredType) (t : Type') → IsType t → IsKnown ds t → type_meant ds (type_tree t) ≡ Valued t
  means_type ds boolean i k = refl
  means_type ds integer i k = refl
  means_type ds char i k = refl
  means_type ds (user name) i k = rw k refl
  means_type ds (tuple xs) i k =
      ap (λ o. with_value o tuple_of) (means_attributes ds xs i k)
      ∙ ap (λ o. with_value o (λ h. Valued (tuple (pack h)))) (heading_itself (unpack xs) (subst IsHeading (sym (pack_unpack xs)) i))
      ∙ ap (λ h. Valued (tuple h)) (pack_unpack xs)
  means_type ds (relation xs) i k =
      ap (λ o. with_value o relation_of) (means_attributes ds xs i k)
      ∙ ap (λ o. with_value o (λ h. Valued (relation (pack h)))) (heading_itself (unpack xs) (subst IsHeading (sym (pack_unpack xs)) i))
      ∙ ap (λ h. Valued (relation h)) (pack_unpack xs)

  pub means_attributes : (ds : List DeclaredType) (xs : Attrs) → IsHeading xs → AreKnown ds xs
      → attributes_meant ds (attribute_trees xs) ≡ Valued (unpack xs)
  means_attributes ds no_attrs i k = refl
  means_attributes ds (attr n t xs) i k =
      ap (λ o. with_both o (attributes_meant ds (attribute_trees xs)) (with_first n)) (means_type ds t i.1 k.0)
      ∙ ap (λ o. with_both (Valued t) o (with_first n)) (means_attributes ds xs i.3 k.1)
