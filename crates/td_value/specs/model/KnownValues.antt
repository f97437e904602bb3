-- The values of a type where types are declared (Tutorial D's): each user value has, in number and in declared order,
-- components of the types that its own type declares, at every depth.
use Rattle.std.specs.Prelude.{◌≡◌, List, [], ◌∷◌, Some, ⊤}
use Rattle.td_types.specs.model.TypeLists.{DeclaredType, AreKnown, declared_at}
use Rattle.td_types.specs.model.Types.{Type', Attribute, Attrs, no_attrs, attr}
use Rattle.td_types.specs.model.Types as types
use Rattle.td_value.specs.model.Values.{Val, boolean, integer, char, user, tuple, relation, Parts, no_parts, part, Fields, no_fields, field, Rows, no_rows, row}

abbrev mutual
  pub HasType : List DeclaredType → Val → Type' → Type 0
  HasType ds (boolean b) t = t ≡ types.boolean
  HasType ds (integer z) t = t ≡ types.integer
  HasType ds (char s) t = t ≡ types.char
  HasType ds (user name ps) t =
      (t ≡ types.user name) × (d : DeclaredType) × (declared_at name ds ≡ Some d) × AreOfTypes ds ps d.components
  HasType ds (tuple fs) t = (heading : Attrs) × (t ≡ types.tuple heading) × HasHeading ds fs heading
  HasType ds (relation heading rs) t =
      (t ≡ types.relation heading) × AreKnown ds heading × HaveHeading ds rs heading

  -- one value of each component's type, in order
  pub AreOfTypes : List DeclaredType → Parts → List Attribute → Type 0
  AreOfTypes ds no_parts [] = ⊤
  AreOfTypes ds no_parts (a ∷ rest) = ⊥
  AreOfTypes ds (part v ps) [] = ⊥
  AreOfTypes ds (part v ps) (a ∷ rest) = HasType ds v a.1 × AreOfTypes ds ps rest

  -- one value of each attribute's name and type
  pub HasHeading : List DeclaredType → Fields → Attrs → Type 0
  HasHeading ds no_fields no_attrs = ⊤
  HasHeading ds no_fields (attr m t others) = ⊥
  HasHeading ds (field n v fs) no_attrs = ⊥
  HasHeading ds (field n v fs) (attr m t rest) = (n ≡ m) × HasType ds v t × HasHeading ds fs rest

  -- each tuple has the heading
  pub HaveHeading : List DeclaredType → Rows → Attrs → Type 0
  HaveHeading ds no_rows heading = ⊤
  HaveHeading ds (row fs rs) heading = HasHeading ds fs heading × HaveHeading ds rs heading
