-- Conditions and new attributes have in each tuple of a relation the values that they had, where they name nothing that is reached.
use Rattle.std.proofs.Common.{◌≡◌, ◌∙◌, ◌++◌, ℕ, false, List, [], ◌∷◌, ap, filter, map, not, refl, subst, sym}
use Rattle.std.specs.Prelude.{⊤}
use Rattle.std.specs.List.{Contains}
use Rattle.td_algebra.proofs.Lists.{contains_first, contains_later}
use Rattle.td_algebra.specs.laws.Membership.{IsIn}
use Rattle.td_algebra.specs.model.Operators.{added_attributes, added_values, extended_relation, extended_tuple, set_relation, set_tuple}
use Rattle.td_catalog.specs.model.Database.{Database, database_scope}
use Rattle.td_catalog.specs.laws.NamedRelvars.{names_any}
use Rattle.td_check.specs.model.OperatorTypes.{extended_by, over_relation, restriction_type, set_heading}
use Rattle.td_check.specs.model.Scopes.{Scope, entered_with}
use Rattle.td_check.specs.model.StaticTypes.{named_types, type_of}
use Rattle.td_engine.proofs.law_lemmas.Emptiness.{same_met, same_truths}
use Rattle.td_engine.specs.laws.Additions.{NameNone}
use Rattle.td_eval.proofs.code_lemmas.TypedRows.{own_type, rows_typed}
use Rattle.td_eval.proofs.code_lemmas.TypedTrees.{values_keep_types}
use Rattle.td_eval.specs.model.OperatorValues.{additions_of, columns_values, extended_by_settings, extended_value, of_relation, restricted_value, set_value, value_of_type, value_or_false}
use Rattle.td_eval.specs.model.TreeValues.{value_of, values_in_tuples}
use Rattle.td_eval.specs.laws.ValueLaws.{IsChecked}
use Rattle.td_eval.specs.laws.ValueTypes.{IsOfType, IsTypedTuple, KeepsScope, KeepsType}
use Rattle.td_eval.specs.model.Worlds.{World}
use Rattle.td_tree.specs.model.Outcomes.{Outcome, Valued, gathered, with_value}
use Rattle.td_tree.specs.model.Trees.{NamedTrees, Tree, more_named, none_named, restriction}
use Rattle.td_tree.specs.model.WrittenTrees.{PartsGiveNames, PartsHaveTexts}
use Rattle.td_types.proofs.OutcomeLaws.{value_of_with, values_of_both}
use Rattle.td_types.specs.code.TypeCode.{unpack_pack}
use Rattle.td_types.specs.model.Headings.{has_attribute, heading_union, outside}
use Rattle.td_types.specs.model.Types.{Attribute, Heading, Type', pack}
use Rattle.td_types.specs.model.Types as types
use Rattle.td_value.proofs.KnownValues.{has_its_type}
use Rattle.td_value.specs.model.Values.{Relation, Tuple, Val, heading_of, relation_of, relation_value, tuple_of, relation_view}

-- ---- functions that agree in the tuples of a relation

same_map : {X : Type 0} (f g : Tuple → X) (ts : List Tuple) → ((t : Tuple) → Contains ts t → f t ≡ g t) → map f ts ≡ map g ts
same_map f g [] h = refl
same_map f g (t ∷ ts) h = λ i. h t (contains_first t ts) i ∷ same_map f g ts (λ u c. h u (contains_later t ts u c)) i

-- a condition
pub same_restricted : (f g : Tuple → Outcome Val) (r : Relation) → ((t : Tuple) → IsIn t r → f t ≡ g t) → restricted_value f r ≡ restricted_value g r
same_restricted f g r h = λ i.
    with_value (gathered (same_truths f g r.body h i)) (λ _. of_relation (relation_view r.heading (same_met f g r.body h i)))

-- new attributes, which are the values of parts in two worlds
module _ (first second : World) where
  abbrev pub AgreeIn : Tuple → NamedTrees → Type 0
  AgreeIn t none_named = ⊤
  AgreeIn t (more_named n value rest) = (value_of first (t ∷ []) value ≡ value_of second (t ∷ []) value) × AgreeIn t rest

  same_columns : (attributes : List Attribute) (parts : NamedTrees) (ts : List Tuple) → ((t : Tuple) → Contains ts t → AgreeIn t parts)
      → columns_values attributes (values_in_tuples first [] parts) ts ≡ columns_values attributes (values_in_tuples second [] parts) ts
  same_columns [] parts ts h = refl
  same_columns (a ∷ attributes) none_named ts h = refl
  same_columns (a ∷ attributes) (more_named n value rest) ts h =
      let column = same_map (λ u. with_value (value_of first (u ∷ []) value) (value_of_type a.1))
      (λ u. with_value (value_of second (u ∷ []) value) (value_of_type a.1)) ts (λ u c. ap (λ o. with_value o (value_of_type a.1)) (h u c).0) in
      let others = same_columns attributes rest ts (λ u c. (h u c).1) in
      λ i. gathered (column i) ∷ others i

  same_attributes : (attributes : List Attribute) (parts : NamedTrees)
      → added_attributes (additions_of attributes (values_in_tuples first [] parts)) ≡ added_attributes (additions_of attributes (values_in_tuples second [] parts))
  same_attributes [] parts = refl
  same_attributes (a ∷ attributes) none_named = refl
  same_attributes (a ∷ attributes) (more_named n value rest) = ap (λ h. (a.0, a.1) ∷ h) (same_attributes attributes rest)

  same_values : (attributes : List Attribute) (parts : NamedTrees) (t : Tuple) → AgreeIn t parts
      → added_values (additions_of attributes (values_in_tuples first [] parts)) t ≡ added_values (additions_of attributes (values_in_tuples second [] parts)) t
  same_values [] parts t h = refl
  same_values (a ∷ attributes) none_named t h = refl
  same_values (a ∷ attributes) (more_named n value rest) t h =
      let others = same_values attributes rest t h.1 in
      λ i. (a.0, value_or_false (h.0 i)) ∷ others i

  pub same_extended : (attributes : Outcome (List Attribute)) (parts : NamedTrees) (r : Relation) → ((t : Tuple) → IsIn t r → AgreeIn t parts)
      → extended_value attributes (values_in_tuples first [] parts) r ≡ extended_value attributes (values_in_tuples second [] parts) r
  same_extended attributes parts r h = ap (with_value attributes) (λ i. λ bs. by_attributes bs i)
    where
      made : (bs : List Attribute) → extended_relation (additions_of bs (values_in_tuples first [] parts)) r
          ≡ extended_relation (additions_of bs (values_in_tuples second [] parts)) r
      made bs =
          let rows = same_map (extended_tuple (additions_of bs (values_in_tuples first [] parts)))
          (extended_tuple (additions_of bs (values_in_tuples second [] parts))) r.body
          (λ t c. ap (λ es. tuple_of (t ++ es)) (same_values bs parts t (h t c))) in
          λ i. relation_of (heading_union r.heading (same_attributes bs parts i)) (rows i)

      by_attributes : (bs : List Attribute)
          → with_value (extended_by r.heading bs) (λ heading. with_value (gathered (columns_values bs (values_in_tuples first [] parts) r.body))
          (λ columns. of_relation (extended_relation (additions_of bs (values_in_tuples first [] parts)) r)))
          ≡ with_value (extended_by r.heading bs) (λ heading. with_value (gathered (columns_values bs (values_in_tuples second [] parts) r.body))
          (λ columns. of_relation (extended_relation (additions_of bs (values_in_tuples second [] parts)) r)))
      by_attributes bs =
          let columns = same_columns bs parts r.body h in
          λ i. with_value (extended_by r.heading bs) (λ heading. with_value (gathered (columns i)) (λ _. of_relation (made bs i)))

  pub same_set : (attributes : Outcome (List Attribute)) (parts : NamedTrees) (r : Relation) → ((t : Tuple) → IsIn t r → AgreeIn t parts)
      → extended_by_settings attributes (values_in_tuples first [] parts) r ≡ extended_by_settings attributes (values_in_tuples second [] parts) r
  same_set attributes parts r h = ap (with_value attributes) (λ i. λ bs. by_attributes bs i)
    where
      made : (bs : List Attribute) → set_relation (additions_of bs (values_in_tuples first [] parts)) r
          ≡ set_relation (additions_of bs (values_in_tuples second [] parts)) r
      made bs =
          let same = same_attributes bs parts in
          let rows = same_map (set_tuple (additions_of bs (values_in_tuples first [] parts)))
          (set_tuple (additions_of bs (values_in_tuples second [] parts))) r.body
          (λ t c. let values = same_values bs parts t (h t c) in
          λ i. tuple_of (filter (λ e. not (has_attribute e.0 (same i))) t ++ values i)) in
          λ i. relation_of (heading_union (outside (same i) r.heading) (same i)) (rows i)

      by_attributes : (bs : List Attribute)
          → with_value (set_heading r.heading bs) (λ heading. with_value (set_value bs (values_in_tuples first [] parts) r) of_relation)
          ≡ with_value (set_heading r.heading bs) (λ heading. with_value (set_value bs (values_in_tuples second [] parts) r) of_relation)
      by_attributes bs =
          let columns = same_columns bs parts r.body h in
          λ i. with_value (set_heading r.heading bs) (λ heading. with_value (with_value (gathered (columns i)) (λ _. Valued (made bs i))) of_relation)

-- ---- what meets the static rules in the tuples of an operand

module _ (db : Database) where
  abbrev scope : Scope
  scope = database_scope db

  -- the tuples of a value are typed, and of the heading that the expression has
  pub typed_tuples : (w : World) → KeepsScope w scope → (e : Tree) → IsChecked scope [] e → (r : Relation) → value_of w [] e ≡ Valued (relation_value r)
      → (type_of scope e ≡ Valued (types.relation (pack r.heading)))
      × ((t : Tuple) → IsIn t r → IsTypedTuple db.types t × (heading_of t ≡ r.heading))
  typed_tuples w keeps e checked r at =
      let kept : KeepsType db.types (type_of scope e) (value_of w [] e) = values_keep_types w scope [] e keeps tt checked.written in
      let is : IsOfType db.types (relation_value r) checked.typed.0 =
      subst (λ o. KeepsType db.types (Valued checked.typed.0) o) at (subst (λ o. KeepsType db.types o (value_of w [] e)) checked.typed.1 kept) in (
        checked.typed.1 ∙ ap Valued (sym (has_its_type db.types (relation_value r) checked.typed.0 is.1)),
        rows_typed db.types r (own_type db.types (relation_value r) checked.typed.0 is),
      )

  -- a condition has a type in each tuple of its operand
  pub condition_checked : (w : World) → KeepsScope w scope → (operand condition : Tree) → IsChecked scope [] operand
      → IsChecked scope [] (restriction operand condition) → (r : Relation) → value_of w [] operand ≡ Valued (relation_value r)
      → (t : Tuple) → IsIn t r → IsChecked scope (t ∷ []) condition
  condition_checked w keeps operand condition first checked r at t c =
      let rows = typed_tuples w keeps operand first r at in
      let kind : Type' = types.relation (pack r.heading) in
      let inside : Type' → Outcome Type' =
      λ s. over_relation s (λ h. with_value (type_of (entered_with h scope) condition) (restriction_type s)) in
      let whole : with_value (type_of (entered_with r.heading scope) condition) (restriction_type kind) ≡ Valued checked.typed.0 =
      ap (λ (h : Heading). with_value (type_of (entered_with h scope) condition) (restriction_type kind)) (sym (unpack_pack r.heading))
      ∙ ap (λ o. with_value o inside) (sym rows.0) ∙ checked.typed.1 in
      let x = value_of_with (type_of (entered_with r.heading scope) condition) (restriction_type kind) checked.typed.0 whole in
      let here = rows.1 t c in
      record {
        tuples = (here.0, tt);
        written = (checked.written.0.1, checked.written.1.1);
        typed = (x.0, subst (λ (h : Heading). type_of (entered_with h scope) condition ≡ Valued x.0) (sym here.1) x.1);
      }

  -- so have new attributes
  pub parts_typed : (w : World) → KeepsScope w scope → (operand : Tree) (parts : NamedTrees) → IsChecked scope [] operand
      → (wider : Heading → List Attribute → Outcome Type') (k : Type')
      → with_value (type_of scope operand) (λ s. over_relation s (λ h. with_value (named_types (entered_with h scope) parts) (wider h))) ≡ Valued k
      → (r : Relation) → value_of w [] operand ≡ Valued (relation_value r)
      → (attributes : List Attribute) × (named_types (entered_with r.heading scope) parts ≡ Valued attributes)
  parts_typed w keeps operand parts first wider k typed r at =
      let rows = typed_tuples w keeps operand first r at in
      let inside : Type' → Outcome Type' =
      λ s. over_relation s (λ h. with_value (named_types (entered_with h scope) parts) (wider h)) in
      let whole : with_value (named_types (entered_with r.heading scope) parts) (wider r.heading) ≡ Valued k =
      ap (λ (h : Heading). with_value (named_types (entered_with h scope) parts) (wider h)) (sym (unpack_pack r.heading))
      ∙ ap (λ o. with_value o inside) (sym rows.0) ∙ typed in
      let x = value_of_with (named_types (entered_with r.heading scope) parts) (wider r.heading) k whole in
      (x.0, x.1)

  -- they agree in a tuple where each stays as it was
  pub parts_agree : (first second : World) (reached : List (List ℕ)) (h : Heading) (t : Tuple) → IsTypedTuple db.types t → heading_of t ≡ h
      → ((e : Tree) → IsChecked scope (t ∷ []) e → names_any reached e ≡ false → value_of first (t ∷ []) e ≡ value_of second (t ∷ []) e)
      → (parts : NamedTrees) → NameNone reached parts → PartsGiveNames parts → PartsHaveTexts parts
      → (attributes : List Attribute) → named_types (entered_with h scope) parts ≡ Valued attributes → AgreeIn first second t parts
  parts_agree first second reached h t typed heading stays none_named none names texts attributes e = tt
  parts_agree first second reached h t typed heading stays (more_named n value rest) none names texts attributes e =
      let x = values_of_both (type_of (entered_with h scope) value) (named_types (entered_with h scope) rest) (λ k bs. Valued ((n, k) ∷ bs)) attributes e in
      let checked : IsChecked scope (t ∷ []) value =
      record {
        tuples = (typed, tt);
        written = (names.1, texts.0);
        typed = (x.0, subst (λ (g : Heading). type_of (entered_with g scope) value ≡ Valued x.0) (sym heading) x.2);
      } in
      (stays value checked none.0, parts_agree first second reached h t typed heading stays rest none.1 names.2 texts.1 x.1 x.3)
