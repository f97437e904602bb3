-- Relations with attributes set to values of their types have values of their types.
use Rattle.std.proofs.Common.{◌≡◌, ◌∙◌, ◌∷◌, ℕ, true, List, [], Option, Some, None, ap, map, refl, subst, sym}
use Rattle.std.specs.Prelude.{not}
use Rattle.std.specs.List.{AllByRecursion, Contains}
use Rattle.td_algebra.proofs.Lists.{contains_map}
use Rattle.td_algebra.proofs.Results.{IsRelation-set}
use Rattle.td_algebra.specs.model.Operators.{Addition, added_attributes, added_values, set_relation, set_tuple}
use Rattle.td_algebra.specs.laws.Results.{IsTyped}
use Rattle.td_check.specs.model.OperatorTypes.{known_or}
use Rattle.td_engine.specs.model.Assignments.{setting_names}
use Rattle.td_engine.specs.code.AssignedRelations.{setting_attribute}
use Rattle.td_eval.proofs.code_lemmas.KeepsExtension.{gathered_member}
use Rattle.td_eval.proofs.code_lemmas.KeepsRelations.{AreOwn, IsOwn, IsTypedRelation, all_filtered, all_joined, all_made, typed_set}
use Rattle.td_eval.proofs.code_lemmas.TypedValues.{type_is}
use Rattle.td_eval.specs.model.OperatorValues.{additions_of, columns_values, set_value, value_of_type, value_or_false}
use Rattle.td_eval.specs.model.TreeValues.{values_in_tuples}
use Rattle.td_eval.specs.laws.ValueTypes.{IsOfType}
use Rattle.td_eval.specs.model.Worlds.{World}
use Rattle.td_tree.specs.declared.cause.Cause.TheVariants as causes
use Rattle.td_tree.specs.model.Names.{IsName}
use Rattle.td_tree.specs.model.Outcomes.{Outcome, Valued, Refused, gathered, with_value}
use Rattle.td_tree.specs.model.Trees.{NamedTrees, none_named, more_named}
use Rattle.td_types.proofs.HeadingLaws.{attribute_from_heading}
use Rattle.td_types.proofs.OutcomeLaws.{valued_is, value_of_test, value_of_with, values_of_both}
use Rattle.td_types.specs.model.Headings.{are_distinct, has_attribute}
use Rattle.td_types.specs.model.TypeLists.{AreKnown, DeclaredType}
use Rattle.td_types.specs.model.Types.{Attribute, Heading, IsHeading, IsType, Type', attribute_names, pack, type_at}
use Rattle.td_value.specs.model.KnownValues.{HasType}
use Rattle.td_value.specs.model.Values.{Relation, Tuple, Val, type_of}

-- ---- what is set

abbrev IsAttribute : Attribute → Type 0
IsAttribute a = IsName a.0 × IsType a.1

-- the attributes of a heading
set_attribute : (h : Heading) (n : List ℕ) (a : Attribute) → IsHeading (pack h) → setting_attribute h n ≡ Valued a → IsAttribute a
set_attribute h n a is e = by_type (type_at n h) refl e
  where
    by_type : (o : Option Type') → type_at n h ≡ o → with_value (known_or causes.Heading o) (λ t. Valued (n, t)) ≡ Valued a → IsAttribute a
    by_type (Some t) at e = subst IsAttribute (valued_is (n, t) a e) (attribute_from_heading n t h is at)
    by_type None at e = absurd (cc)

pub set_attributes : (h : Heading) (ns : List (List ℕ)) (attributes : List Attribute) → IsHeading (pack h)
    → gathered (map (setting_attribute h) ns) ≡ Valued attributes → AllByRecursion IsAttribute attributes
set_attributes h [] attributes is e = subst (AllByRecursion IsAttribute) (valued_is [] attributes e) tt
set_attributes h (n ∷ ns) attributes is e =
    let parts = values_of_both (setting_attribute h n) (gathered (map (setting_attribute h) ns)) (λ b bs. Valued (b ∷ bs)) attributes e in
    subst (AllByRecursion IsAttribute) (valued_is (parts.0 ∷ parts.1) attributes parts.4)
    (set_attribute h n parts.0 is parts.2, set_attributes h ns parts.1 is parts.3)

-- as many as there are settings
pub additions_are : (w : World) (s : List Tuple) (settings : NamedTrees) (attributes : List Attribute) → attribute_names attributes ≡ setting_names settings
    → added_attributes (additions_of attributes (values_in_tuples w s settings)) ≡ attributes
additions_are w s none_named [] e = refl
additions_are w s none_named (a ∷ attributes) e = absurd (cc)
additions_are w s (more_named n value rest) [] e = absurd (cc)
additions_are w s (more_named n value rest) (a ∷ attributes) e =
    let later : attribute_names attributes ≡ setting_names rest = cc in
    ap (λ xs. a ∷ xs) (additions_are w s rest attributes later)

-- where all are gathered, each has a value
pub gathered_all : {A : Type 0} (os : List (Outcome A)) (ys : List A) → gathered os ≡ Valued ys → AllByRecursion (λ (o : Outcome A). (y : A) × (o ≡ Valued y)) os
gathered_all [] ys e = tt
gathered_all (o ∷ os) ys e =
    let is = values_of_both o (gathered os) (λ w ws. Valued (w ∷ ws)) ys e in
    ((is.0, is.2), gathered_all os is.1 is.3)

-- ---- the tuples with them

module _ (ds : List DeclaredType) (r : Relation) where
  -- what each of the parts has in a tuple of r is of its own type
  abbrev pub AreOwnParts : List (Tuple → Outcome Val) → Type 0
  AreOwnParts = AllByRecursion (λ (f : Tuple → Outcome Val). (u : Tuple) (v : Val) → Contains r.body u → f u ≡ Valued v → IsOfType ds v (type_of v))

  abbrev IsNew : Addition → Type 0
  IsNew b = IsTyped r b × ((u : Tuple) → Contains r.body u → IsOfType ds (b.value u) b.kind)

  value_new : (t : Type') (o : Outcome Val) (y : Val) → ((v : Val) → o ≡ Valued v → IsOfType ds v (type_of v)) → with_value o (value_of_type t) ≡ Valued y
      → IsOfType ds (value_or_false o) t × (type_of (value_or_false o) ≡ t)
  value_new t (Valued v) y own e =
      let same = type_is (type_of v) t (value_of_test _ v y causes.TypeMismatch e).0 in
      (subst (IsOfType ds v) same (own v refl), same)
  value_new t (Refused cs) y own e = absurd (cc)

  all_new : (attributes : List Attribute) (fs : List (Tuple → Outcome Val)) → AllByRecursion IsAttribute attributes → AreOwnParts fs
      → AllByRecursion (λ (o : Outcome (List Val)). (vs : List Val) × (o ≡ Valued vs)) (columns_values attributes fs r.body)
      → AllByRecursion IsNew (additions_of attributes fs)
  all_new [] fs named own h = tt
  all_new (a ∷ attributes) [] named own h = tt
  all_new (a ∷ attributes) (f ∷ fs) named own h =
      (((named.0.0, named.0.1, λ u c. (let is = at u c in (is.0.0, is.1))), λ u c. (at u c).0), all_new attributes fs named.1 own.1 h.1)
    where
      at : (u : Tuple) → Contains r.body u → IsOfType ds (value_or_false (f u)) a.1 × (type_of (value_or_false (f u)) ≡ a.1)
      at u c =
          let is = gathered_member (λ w. with_value (f w) (value_of_type a.1)) r.body h.0.0 h.0.1 u c in
          value_new a.1 (f u) is.0 (λ v e. own.0 u v c e) is.1

  typed_of_new : (bs : List Addition) → AllByRecursion IsNew bs → AllByRecursion (IsTyped r) bs
  typed_of_new [] h = tt
  typed_of_new (b ∷ bs) h = (h.0.0, typed_of_new bs h.1)

  own_added : (bs : List Addition) (t : Tuple) → Contains r.body t → AllByRecursion IsNew bs → AreOwn ds (added_values bs t)
  own_added [] t c h = tt
  own_added (b ∷ bs) t c h =
      let is = h.0.1 t c in
      let same = (h.0.0.2 t c).1 in
      (subst (HasType ds (b.value t)) (sym same) is.1, own_added bs t c h.1)

  typed_with : (bs : List Addition) → are_distinct (attribute_names (added_attributes bs)) ≡ true → AllByRecursion IsNew bs → IsTypedRelation ds r
      → AreKnown ds (pack (set_relation bs r).heading) → IsTypedRelation ds (set_relation bs r)
  typed_with bs distinct h m known =
      typed_set ds (set_relation bs r).heading (map (set_tuple bs) r.body) (IsRelation-set bs r m.is_relation distinct (typed_of_new bs h)) known
      (λ y c. let d = (contains_map (set_tuple bs) r.body y).0 c in
      subst (AreOwn ds) d.2
      (all_made (IsOwn ds) _
      (all_joined (IsOwn ds) _ (added_values bs d.0) (all_filtered (IsOwn ds) (λ e. not (has_attribute e.0 (added_attributes bs))) d.0 (m.rows d.0 d.1)) (own_added bs d.0 d.1 h))))

  -- the relation with attributes set
  pub typed_setting : (attributes : List Attribute) (fs : List (Tuple → Outcome Val)) (q : Relation) → IsTypedRelation ds r
      → AllByRecursion IsAttribute attributes → are_distinct (attribute_names attributes) ≡ true
      → added_attributes (additions_of attributes fs) ≡ attributes → AreOwnParts fs → set_value attributes fs r ≡ Valued q
      → AreKnown ds (pack q.heading) → IsTypedRelation ds q
  typed_setting attributes fs q m named distinct are own e known =
      let bs = additions_of attributes fs in
      let is = value_of_with (gathered (columns_values attributes fs r.body)) (λ columns. Valued (set_relation bs r)) q e in
      let same : set_relation bs r ≡ q = valued_is (set_relation bs r) q is.2 in
      subst (IsTypedRelation ds) same
      (typed_with bs (ap (λ xs. are_distinct (attribute_names xs)) are ∙ distinct)
      (all_new attributes fs named own (gathered_all (columns_values attributes fs r.body) is.0 is.1)) m
      (subst (λ (p : Relation). AreKnown ds (pack p.heading)) (sym same) known))
