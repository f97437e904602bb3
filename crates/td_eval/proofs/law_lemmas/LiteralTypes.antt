-- The tree that the literal of a value of a type spells has that type.
use Rattle.std.proofs.Common.{◌≡◌, ◌∙◌, ◌∷◌, ℕ, true, List, [], ap, map, pos, negsuc, refl, subst, sym}
use Rattle.td_check.specs.model.OperatorTypes.{are_types_of, element_type, headed_type, known_or, selector_type, tuple_type}
use Rattle.td_check.specs.model.Scopes.{Scope}
use Rattle.td_check.specs.model.StaticTypes.{named_types, type_of, types_of}
use Rattle.td_tree.specs.declared.cause.Cause.TheVariants as causes
use Rattle.td_tree.specs.model.Outcomes.{Outcome, Valued, gathered, value_if, with_both, with_value}
use Rattle.td_tree.specs.model.Trees as trees
use Rattle.td_types.specs.model.Headings.{made_heading}
use Rattle.td_types.specs.model.TypeLists.{AreKnown, DeclaredType, heading_meant}
use Rattle.td_types.specs.code.TypeOrder.{type_eq-Decides}
use Rattle.td_types.specs.laws.TypeTrees.{attribute_trees}
use Rattle.td_types.specs.model.Types.{Attribute, Attrs, IsHeading, IsType, Type', attr, no_attrs, pack, unpack}
use Rattle.td_types.specs.model.Types as types
use Rattle.td_types.proofs.Meanings.{heading_itself, means_attributes, pack_unpack}
use Rattle.td_value.specs.model.KnownValues.{AreOfTypes, HasHeading, HaveHeading}
use Rattle.td_value.specs.laws.LiteralTrees.{field_trees, part_trees, row_trees}
use Rattle.td_value.specs.model.Values.{boolean, integer, char, user, tuple, relation, AreFields, AreRows, AreValues, Fields, no_fields, field, Parts, no_parts, part, Rows, no_rows, row}
use Rattle.td_value.proofs.KnownValues.{has_its_type}
use Rattle.td_value.proofs.Typed.{typed}
use Rattle.td_eval.specs.laws.LiteralValues.{LiteralsHaveTheirTypes}
use Rattle.td_eval.proofs.code_lemmas.TypedValues.{same_is}

-- the tree of a heading means it
pub heading_means : (ds : List DeclaredType) (g : Attrs) → IsHeading g → AreKnown ds g
    → heading_meant ds (attribute_trees g) ≡ Valued (unpack g)
heading_means ds g p k =
    ap (λ o. with_value o made_heading) (means_attributes ds g p k)
    ∙ heading_itself (unpack g) (subst IsHeading (sym (pack_unpack g)) p)

-- the type of a tuple of a heading's attributes
tuple_of_heading : (g : Attrs) → IsHeading g → tuple_type (unpack g) ≡ Valued (types.tuple g)
tuple_of_heading g p =
    ap (λ o. with_value o (λ h. Valued (types.tuple (pack h))))
    (heading_itself (unpack g) (subst IsHeading (sym (pack_unpack g)) p))
    ∙ ap (λ h. Valued (types.tuple h)) (pack_unpack g)

abbrev component_types : List Attribute → List Type'
component_types = map (λ (a : Attribute). a.1)

own_types : (cs : List Attribute) → are_types_of (component_types cs) cs ≡ true
own_types [] = refl
own_types (c ∷ cs) = rw ((type_eq-Decides c.1 c.1).1 refl) (own_types cs)

-- one tuple type for each tuple
abbrev tuple_types : Attrs → Rows → List Type'
tuple_types g no_rows = []
tuple_types g (row fs rs) = types.tuple g ∷ tuple_types g rs

elements_fit : (g : Attrs) (rs : Rows) → gathered (map (element_type (unpack g)) (tuple_types g rs)) ≡ Valued (tuple_types g rs)
elements_fit g no_rows = refl
elements_fit g (row fs rs) =
    rw (same_is (unpack g) (unpack g) refl)
    (ap (λ o. with_both (Valued (types.tuple g)) o (λ x xs. Valued (x ∷ xs))) (elements_fit g rs))

relation_of_heading : (g : Attrs) (rs : Rows) → headed_type (unpack g) (tuple_types g rs) ≡ Valued (types.relation g)
relation_of_heading g rs =
    ap (λ o. with_value o (λ elements. Valued (types.relation (pack (unpack g))))) (elements_fit g rs)
    ∙ ap (λ h. Valued (types.relation h)) (pack_unpack g)

abbrev first_of_types : Type' → List Type' → Outcome (List Type')
first_of_types t ts = Valued (t ∷ ts)

abbrev with_first : List ℕ → Type' → List Attribute → Outcome (List Attribute)
with_first n t attributes = Valued ((n, t) ∷ attributes)

mutual
  pub literals_have_their_types : LiteralsHaveTheirTypes
  literals_have_their_types scope (boolean b) t p h = ap Valued (sym h)
  literals_have_their_types scope (integer (pos n)) t p h = ap Valued (sym h)
  literals_have_their_types scope (integer (negsuc n)) t p h = ap Valued (sym h)
  literals_have_their_types scope (char s) t p h = ap Valued (sym h)
  literals_have_their_types scope (user n ps) t p h =
      ap (λ o. with_value o (selector_type scope.types n)) (parts_have_types scope ps h.1.components p.1 h.3)
      ∙ ap (λ o. with_value (known_or causes.NameUnknown o)
      (λ (d : DeclaredType). value_if (are_types_of (component_types h.1.components) d.components) (types.user n) causes.TypeMismatch)) h.2
      ∙ ap (λ b. value_if b (types.user n) causes.TypeMismatch) (own_types h.1.components) ∙ ap Valued (sym h.0)
  literals_have_their_types scope (tuple fs) t p h =
      let heading : IsHeading h.0 = subst IsType (has_its_type scope.types (tuple fs) t h ∙ h.1) (typed (tuple fs) p) in
      ap (λ o. with_value o tuple_type) (fields_have_types scope fs h.0 p.0 h.2)
      ∙ tuple_of_heading h.0 heading ∙ ap Valued (sym h.1)
  literals_have_their_types scope (relation g rs) t p h =
      ap (λ o. with_both o (types_of scope (row_trees rs)) headed_type) (heading_means scope.types g p.2 h.1)
      ∙ ap (λ o. with_both (Valued (unpack g)) o headed_type) (rows_have_types scope g rs p.2 p.0 h.2)
      ∙ relation_of_heading g rs ∙ ap Valued (sym h.0)

  parts_have_types : (scope : Scope) (ps : Parts) (cs : List Attribute) → AreValues ps → AreOfTypes scope.types ps cs
      → types_of scope (part_trees ps) ≡ Valued (component_types cs)
  parts_have_types scope no_parts [] p h = refl
  parts_have_types scope no_parts (c ∷ cs) p h = absurd h
  parts_have_types scope (part v ps) [] p h = absurd h
  parts_have_types scope (part v ps) (c ∷ cs) p h =
      ap (λ o. with_both o (types_of scope (part_trees ps)) first_of_types) (literals_have_their_types scope v c.1 p.0 h.0)
      ∙ ap (λ o. with_both (Valued c.1) o first_of_types) (parts_have_types scope ps cs p.1 h.1)

  fields_have_types : (scope : Scope) (fs : Fields) (g : Attrs) → AreFields fs → HasHeading scope.types fs g
      → named_types scope (field_trees fs) ≡ Valued (unpack g)
  fields_have_types scope no_fields no_attrs p h = refl
  fields_have_types scope no_fields (attr m t g) p h = absurd h
  fields_have_types scope (field n v fs) no_attrs p h = absurd h
  fields_have_types scope (field n v fs) (attr m t g) p h =
      ap (λ o. with_both o (named_types scope (field_trees fs)) (with_first n)) (literals_have_their_types scope v t p.1 h.1)
      ∙ ap (λ o. with_both (Valued t) o (with_first n)) (fields_have_types scope fs g p.2 h.2)
      ∙ ap (λ k. Valued ((k, t) ∷ unpack g)) h.0

  rows_have_types : (scope : Scope) (g : Attrs) (rs : Rows) → IsHeading g → AreRows g rs → HaveHeading scope.types rs g
      → types_of scope (row_trees rs) ≡ Valued (tuple_types g rs)
  rows_have_types scope g no_rows is p h = refl
  rows_have_types scope g (row fs rs) is p h =
      let first : type_of scope (trees.tuple (field_trees fs)) ≡ Valued (types.tuple g) =
      ap (λ o. with_value o tuple_type) (fields_have_types scope fs g p.0.0 h.0) ∙ tuple_of_heading g is in
      ap (λ o. with_both o (types_of scope (row_trees rs)) first_of_types) first
      ∙ ap (λ o. with_both (Valued (types.tuple g)) o first_of_types) (rows_have_types scope g rs is p.1 h.1)
