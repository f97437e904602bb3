-- Values of known types: what they keep where more types are declared, and what their types are.
use Rattle.std.proofs.Common.{◌≡◌, ◌∙◌, ◌++◌, ap, refl, sym, subst, arith, map, ℕ, zero, suc, List, [], ◌∷◌}
use Rattle.std.specs.Prelude.{is_some}
use Rattle.std.specs.List.{Contains}
use Rattle.td_types.specs.model.TypeLists.{AreKnown, DeclaredType}
use Rattle.td_types.specs.model.Types.{Type', Attribute, Attrs, no_attrs, attr, Heading, pack}
use Rattle.td_types.specs.model.Types as types
use Rattle.td_types.proofs.KnownTypes.{all_known_more, declared_more}
use Rattle.td_value.specs.model.KnownValues.{AreOfTypes, HasHeading, HasType, HaveHeading}
use Rattle.td_value.specs.laws.KnownValueLaws.{KnownValuesHaveKnownTypes, KnownValuesHaveTheirTypes, LongerListsKeepTypes, TuplesHaveTheHeadingsOfTheirValues, UserValuesAreOfTheirTypes, ValuesHaveOneType}
use Rattle.td_value.specs.model.Values.{Val, boolean, integer, char, user, tuple, relation, Parts, no_parts, part, Fields, no_fields, field, Rows, no_rows, row, Tuple, HaveTypesOf, fields_type, heading_of, pack_fields, pack_parts, type_of}

mutual
  pub kept : LongerListsKeepTypes
  kept ds more (boolean b) t h = h
  kept ds more (integer z) t h = h
  kept ds more (char s) t h = h
  kept ds more (user name ps) t h = (h.0, h.1, declared_more name ds more h.1 h.2, parts_kept ds more ps h.1.components h.3)
  kept ds more (tuple fs) t h = (h.0, h.1, fields_kept ds more fs h.0 h.2)
  kept ds more (relation heading rs) t h = (h.0, all_known_more ds more heading h.1, rows_kept ds more rs heading h.2)

  parts_kept : (ds more : List DeclaredType) (ps : Parts) (components : List Attribute) → AreOfTypes ds ps components → AreOfTypes (ds ++ more) ps components
  parts_kept ds more no_parts [] h = tt
  parts_kept ds more no_parts (a ∷ rest) h = h
  parts_kept ds more (part v ps) [] h = h
  parts_kept ds more (part v ps) (a ∷ rest) h = (kept ds more v a.1 h.0, parts_kept ds more ps rest h.1)

  fields_kept : (ds more : List DeclaredType) (fs : Fields) (heading : Attrs) → HasHeading ds fs heading → HasHeading (ds ++ more) fs heading
  fields_kept ds more no_fields no_attrs h = tt
  fields_kept ds more no_fields (attr m t rest) h = h
  fields_kept ds more (field n v fs) no_attrs h = h
  fields_kept ds more (field n v fs) (attr m t rest) h = (h.0, kept ds more v t h.1, fields_kept ds more fs rest h.2)

  rows_kept : (ds more : List DeclaredType) (rs : Rows) (heading : Attrs) → HaveHeading ds rs heading → HaveHeading (ds ++ more) rs heading
  rows_kept ds more no_rows heading h = tt
  rows_kept ds more (row fs rs) heading h = (fields_kept ds more fs heading h.0, rows_kept ds more rs heading h.1)

mutual
  pub has_its_type : KnownValuesHaveTheirTypes
  has_its_type ds (boolean b) t h = sym h
  has_its_type ds (integer z) t h = sym h
  has_its_type ds (char s) t h = sym h
  has_its_type ds (user name ps) t h = sym h.0
  has_its_type ds (tuple fs) t h = ap types.tuple (has_its_heading ds fs h.0 h.2) ∙ sym h.1
  has_its_type ds (relation heading rs) t h = sym h.0

  has_its_heading : (ds : List DeclaredType) (fs : Fields) (heading : Attrs) → HasHeading ds fs heading → fields_type fs ≡ heading
  has_its_heading ds no_fields no_attrs h = refl
  has_its_heading ds no_fields (attr m t rest) h = absurd h
  has_its_heading ds (field n v fs) no_attrs h = absurd h
  has_its_heading ds (field n v fs) (attr m t rest) h =
      let first = has_its_type ds v t h.1 in
      let others = has_its_heading ds fs rest h.2 in
      λ i. attr (h.0 i) (first i) (others i)

mutual
  pub has_known_type : KnownValuesHaveKnownTypes
  has_known_type ds (boolean b) t h = rw h tt
  has_known_type ds (integer z) t h = rw h tt
  has_known_type ds (char s) t h = rw h tt
  has_known_type ds (user name ps) t h = rw h.0 (ap is_some h.2)
  has_known_type ds (tuple fs) t h = rw h.1 (has_known_heading ds fs h.0 h.2)
  has_known_type ds (relation heading rs) t h = rw h.0 h.1

  has_known_heading : (ds : List DeclaredType) (fs : Fields) (heading : Attrs) → HasHeading ds fs heading → AreKnown ds heading
  has_known_heading ds no_fields no_attrs h = tt
  has_known_heading ds no_fields (attr m t rest) h = absurd h
  has_known_heading ds (field n v fs) no_attrs h = absurd h
  has_known_heading ds (field n v fs) (attr m t rest) h = (has_known_type ds v t h.1, has_known_heading ds fs rest h.2)

pub one_type : ValuesHaveOneType
one_type ds es v s t h g = sym (has_its_type ds v s h) ∙ has_its_type es v t g

-- ---- tuples

heading_is : (ds : List DeclaredType) (t : Tuple) (heading : Heading) → HasHeading ds (pack_fields t) (pack heading) → heading_of t ≡ heading
heading_is ds [] [] h = refl
heading_is ds [] (a ∷ rest) h = absurd h
heading_is ds (e ∷ es) [] h = absurd h
heading_is ds (e ∷ es) (a ∷ rest) h =
    let first = has_its_type ds e.1 a.1 h.1 in
    let others = heading_is ds es rest h.2 in
    λ i. (h.0 i, first i) ∷ others i

values_typed : (ds : List DeclaredType) (t : Tuple) (heading : Heading) → HasHeading ds (pack_fields t) (pack heading)
    → (e : List ℕ × Val) → Contains t e → HasType ds e.1 (type_of e.1)
values_typed ds [] heading h x c = absurd (omega (arith, c.1))
values_typed ds (e ∷ es) [] h x c = absurd h
values_typed ds (e ∷ es) (a ∷ rest) h x (zero, k, is) =
    subst (λ (f : List ℕ × Val). HasType ds f.1 (type_of f.1)) is (subst (HasType ds e.1) (sym (has_its_type ds e.1 a.1 h.1)) h.1)
values_typed ds (e ∷ es) (a ∷ rest) h x (suc i, k, is) = values_typed ds es rest h.2 x (i, omega (arith, k), is)

has_own : (ds : List DeclaredType) (t : Tuple) → ((e : List ℕ × Val) → Contains t e → HasType ds e.1 (type_of e.1)) → HasHeading ds (pack_fields t) (pack (heading_of t))
has_own ds [] h = tt
has_own ds (e ∷ es) h = (refl, h e (zero, omega arith, refl), has_own ds es (λ f c. h f (suc c.0, omega (arith, c.1), c.2)))

pub by_values : TuplesHaveTheHeadingsOfTheirValues
by_values ds t heading = (
  λ h. (heading_is ds t heading h, values_typed ds t heading h),
  λ g. subst (λ (other : Heading). HasHeading ds (pack_fields t) (pack other)) g.0 (has_own ds t g.1),
)

-- ---- user values

types_are : (ds : List DeclaredType) (vs : List Val) (components : List Attribute) → AreOfTypes ds (pack_parts vs) components → HaveTypesOf vs components
types_are ds [] [] h = refl
types_are ds [] (a ∷ rest) h = absurd h
types_are ds (v ∷ vs) [] h = absurd h
types_are ds (v ∷ vs) (a ∷ rest) h =
    let first = has_its_type ds v a.1 h.0 in
    let others = types_are ds vs rest h.1 in
    λ i. first i ∷ others i

components_typed : (ds : List DeclaredType) (vs : List Val) (components : List Attribute) → AreOfTypes ds (pack_parts vs) components
    → (v : Val) → Contains vs v → HasType ds v (type_of v)
components_typed ds [] components h x c = absurd (omega (arith, c.1))
components_typed ds (v ∷ vs) [] h x c = absurd h
components_typed ds (v ∷ vs) (a ∷ rest) h x (zero, k, is) =
    subst (λ (w : Val). HasType ds w (type_of w)) is (subst (HasType ds v) (sym (has_its_type ds v a.1 h.0)) h.0)
components_typed ds (v ∷ vs) (a ∷ rest) h x (suc i, k, is) = components_typed ds vs rest h.1 x (i, omega (arith, k), is)

fronts : (s t : Type') (ss ts : List Type') → s ∷ ss ≡ t ∷ ts → (s ≡ t) × (ss ≡ ts)
fronts s t ss ts e = (cc, cc)

of_types : (ds : List DeclaredType) (vs : List Val) (components : List Attribute) → HaveTypesOf vs components
    → ((v : Val) → Contains vs v → HasType ds v (type_of v)) → AreOfTypes ds (pack_parts vs) components
of_types ds [] [] e h = tt
of_types ds [] (a ∷ rest) e h = absurd (cc)
of_types ds (v ∷ vs) [] e h = absurd (cc)
of_types ds (v ∷ vs) (a ∷ rest) e h =
    let both = fronts (type_of v) a.1 (map type_of vs) (map (λ (b : Attribute). b.1) rest) e in (
      subst (HasType ds v) both.0 (h v (zero, omega arith, refl)),
      of_types ds vs rest both.1 (λ w c. h w (suc c.0, omega (arith, c.1), c.2)),
    )

pub by_components : UserValuesAreOfTheirTypes
by_components ds u d e = (
  λ h.
      let given = sym h.2 ∙ e in
      let same : h.1 ≡ d = cc in
      let parts = subst (λ (c : DeclaredType). AreOfTypes ds (pack_parts u.components) c.components) same h.3 in
      (types_are ds u.components d.components parts, components_typed ds u.components d.components parts),
  λ g. (refl, d, e, of_types ds u.components d.components g.0 g.1),
)
