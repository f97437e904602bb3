-- Values keep their types where a type is removed that theirs are not made of.
use Rattle.std.proofs.Common.{◌≡◌, ◌∙◌, ◌∷◌, ℕ, Bool, true, false, List, [], Some, refl, subst}
use Rattle.td_catalog.proofs.Lists.{neither}
use Rattle.td_types.specs.model.NamedTypes.{any_names_user, is_component, is_made_of, names_user, without_declared}
use Rattle.td_types.specs.model.TypeLists.{DeclaredType, declared_at}
use Rattle.td_types.specs.model.Types.{Attribute, Attrs, Type', attr, no_attrs, pack, same_name}
use Rattle.td_types.proofs.RemovedTypes.{AreKnown-without, declared_at-without}
use Rattle.td_value.specs.model.KnownValues.{AreOfTypes, HasHeading, HasType, HaveHeading}
use Rattle.td_value.specs.model.Values.{Fields, Parts, Rows, Val, boolean, char, field, integer, no_fields, no_parts, no_rows, part, relation, row, tuple, user}

-- a declared type is not made of what none is made of
pub not_made : (name n : List ℕ) (ds : List DeclaredType) (d : DeclaredType) → is_component name ds ≡ false → declared_at n ds ≡ Some d → is_made_of name d ≡ false
not_made name n [] d none e = absurd (cc)
not_made name n (c ∷ ds) d none e = by_test (same_name c.name n) refl (not_made name n ds d)
  where
    apart : (is_made_of name c ≡ false) × (is_component name ds ≡ false)
    apart = neither (is_made_of name c) (is_component name ds) none

    here : Some c ≡ Some d → c ≡ d
    here f = cc

    by_test : (b : Bool) → same_name c.name n ≡ b → (is_component name ds ≡ false → declared_at n ds ≡ Some d → is_made_of name d ≡ false) → is_made_of name d ≡ false
    by_test true is rest = subst (λ x. is_made_of name x ≡ false) (here (rw is at e)) apart.0
    by_test false is rest = rest apart.1 (rw is at e)

module _ (name : List ℕ) (ds : List DeclaredType) (none : is_component name ds ≡ false) where
  mutual
    pub value_left : (v : Val) (t : Type') → names_user name t ≡ false → HasType ds v t → HasType (without_declared name ds) v t
    value_left (boolean b) t u h = h
    value_left (integer z) t u h = h
    value_left (char s) t u h = h
    value_left (user n ps) t u h =
        let other = subst (λ s. names_user name s ≡ false) h.0 u in
        (h.0, h.1, declared_at-without name n ds other ∙ h.2, parts_left ps h.1.components (not_made name n ds h.1 none h.2) h.3)
    value_left (tuple fs) t u h = (h.0, h.1, fields_left fs h.0 (subst (λ s. names_user name s ≡ false) h.1 u) h.2)
    value_left (relation heading rs) t u h =
        let apart = subst (λ s. names_user name s ≡ false) h.0 u in
        (h.0, AreKnown-without name ds heading apart h.1, rows_left rs heading apart h.2)

    parts_left : (ps : Parts) (components : List Attribute) → any_names_user name (pack components) ≡ false → AreOfTypes ds ps components
        → AreOfTypes (without_declared name ds) ps components
    parts_left no_parts [] u h = tt
    parts_left no_parts (a ∷ rest) u h = h
    parts_left (part v ps) [] u h = h
    parts_left (part v ps) (a ∷ rest) u h =
        let apart = neither (names_user name a.1) (any_names_user name (pack rest)) u in
        (value_left v a.1 apart.0 h.0, parts_left ps rest apart.1 h.1)

    fields_left : (fs : Fields) (heading : Attrs) → any_names_user name heading ≡ false → HasHeading ds fs heading → HasHeading (without_declared name ds) fs heading
    fields_left no_fields no_attrs u h = tt
    fields_left no_fields (attr m t rest) u h = h
    fields_left (field n v fs) no_attrs u h = h
    fields_left (field n v fs) (attr m t rest) u h =
        let apart = neither (names_user name t) (any_names_user name rest) u in
        (h.0, value_left v t apart.0 h.1, fields_left fs rest apart.1 h.2)

    pub rows_left : (rs : Rows) (heading : Attrs) → any_names_user name heading ≡ false → HaveHeading ds rs heading → HaveHeading (without_declared name ds) rs heading
    rows_left no_rows heading u h = tt
    rows_left (row fs rs) heading u h = (fields_left fs heading u h.0, rows_left rs heading u h.1)
