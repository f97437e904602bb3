-- Images of a relvar, and the questions that are asked of them, before a change, after it, and where the relvar's name means what came
-- in.
use Rattle.std.proofs.Common.{◌≡◌, ◌∙◌, ◌⊎◌, inl, inr, ℕ, true, false, List, [], ◌∷◌, Some, ap, refl, subst, sym}
use Rattle.td_algebra.specs.laws.Membership.{IsIn}
use Rattle.td_catalog.specs.model.Database.{Database, database_scope}
use Rattle.td_catalog.specs.laws.NamedRelvars.{names_any}
use Rattle.td_check.specs.model.OperatorTypes.{comparison_type, extension_type, measure_type, operator_type, over_relation, postfix_type, restriction_type, setting_type}
use Rattle.td_check.specs.model.Scopes.{Scope, entered_with}
use Rattle.td_check.specs.model.StaticTypes.{named_types, type_of}
use Rattle.td_engine.proofs.law_lemmas.AddedOperators.{operators_keep_additions}
use Rattle.td_engine.proofs.law_lemmas.AddedOutcomes.{follows_of, valued_is}
use Rattle.td_engine.proofs.law_lemmas.AddedParts.{AgreeIn, condition_checked, parts_agree, parts_typed, same_extended, same_restricted, same_set, typed_tuples}
use Rattle.td_engine.specs.laws.Additions.{AsksOfTuples, GiveAdditions, IsImageOf, IsOfAdditions, KeepsAdditions, NameNone}
use Rattle.td_engine.specs.model.Checks.{refusal_unless_passed}
use Rattle.td_engine.specs.model.Refusals.{Refusal, by_cause}
use Rattle.td_eval.proofs.code_lemmas.OpValues.{relation_unpacked}
use Rattle.td_eval.proofs.law_lemmas.TupleOrder.{one_itself}
use Rattle.td_eval.specs.model.OperatorValues.{comparison_value, extended_by_settings, extended_value, measure_value, on_relation, operator_value, postfix_value, restricted_value, truth_value}
use Rattle.td_eval.specs.model.TreeValues.{value_of, values_in_tuples}
use Rattle.td_eval.specs.laws.ValueLaws.{AreOneOutcome, IsChecked}
use Rattle.td_eval.specs.laws.ValueTypes.{KeepsScope}
use Rattle.td_eval.specs.model.Worlds.{World, known_outcome, with_tuples}
use Rattle.td_tree.specs.declared.operator.Comparison.TheVariants as comparisons
use Rattle.td_tree.specs.declared.operator.Measure.TheVariants as measures
use Rattle.td_tree.specs.declared.operator.Operator.TheVariants as operators
use Rattle.td_tree.specs.model.Outcomes.{Outcome, Refused, Valued, with_both, with_value}
use Rattle.td_tree.specs.model.Trees.{NamedTrees, Tree, binary, compare, extend, extend_setting, measure, name, parentheses, postfix, project, rename, restriction}
use Rattle.td_tree.specs.model.WrittenTrees.{PartsGiveNames, PartsHaveTexts}
use Rattle.td_types.proofs.OutcomeLaws.{value_of_with, values_of_both}
use Rattle.td_types.specs.model.Types.{Attribute, Heading, Type'}
use Rattle.td_value.specs.model.Values.{Relation, Tuple, Val, boolean, char, integer, relation, relation_value, tuple, user}

-- the worlds before a change of a relvar, after it, and where the relvar's name means what came in; what names none of those that are
-- reached has one value in all of them
pub record AreWorldsOf (db : Database) (relvar : List ℕ) (reached : List (List ℕ)) (before after there : World) : Type 0 where
  pub old : Relation
  pub new : Relation
  pub added : Relation
  pub additions : IsOfAdditions old new added
  pub at_before : before.relvar relvar ≡ Some (Valued (relation_value old))
  pub at_after : after.relvar relvar ≡ Some (Valued (relation_value new))
  pub at_there : there.relvar relvar ≡ Some (Valued (relation_value added))
  pub scopes : (before.scope ≡ database_scope db) × (after.scope ≡ database_scope db) × (there.scope ≡ database_scope db)
  pub before_keeps : KeepsScope before (database_scope db)
  pub after_keeps : KeepsScope after (database_scope db)
  pub there_keeps : KeepsScope there (database_scope db)
  pub stays_after : (s : List Tuple) (e : Tree) → IsChecked (database_scope db) s e → names_any reached e ≡ false → value_of after s e ≡ value_of before s e
  pub stays_there : (s : List Tuple) (e : Tree) → IsChecked (database_scope db) s e → names_any reached e ≡ false → value_of there s e ≡ value_of before s e

-- beside a value
second_valued : (o p : Outcome Val) (v : Val) (f : Val → Val → Outcome Val) → p ≡ Valued v → with_both o p f ≡ with_value o (λ u. f u v)
second_valued o p v f e = ap (λ q. with_both o q f) e ∙ by_first o
  where
    by_first : (q : Outcome Val) → with_both q (Valued v) f ≡ with_value q (λ u. f u v)
    by_first (Valued u) = refl
    by_first (Refused cs) = refl

first_valued : (o p : Outcome Val) (v : Val) (f : Val → Val → Outcome Val) → o ≡ Valued v → with_both o p f ≡ with_value p (f v)
first_valued o p v f e = ap (λ q. with_both q p f) e ∙ by_second p
  where
    by_second : (q : Outcome Val) → with_both (Valued v) q f ≡ with_value q (f v)
    by_second (Valued u) = refl
    by_second (Refused cs) = refl

-- a conjunction is TRUE of two TRUE values
both_true : (v w : Val) → operator_value operators.And v w ≡ Valued (boolean true) → (v ≡ boolean true) × (w ≡ boolean true)
both_true (boolean true) (boolean true) e = (refl, refl)
both_true (boolean true) (boolean false) e = absurd (cc)
both_true (boolean false) (boolean b) e = absurd (cc)
both_true (boolean b) (integer z) e = absurd (cc)
both_true (boolean b) (char s) e = absurd (cc)
both_true (boolean b) (user n ps) e = absurd (cc)
both_true (boolean b) (tuple fs) e = absurd (cc)
both_true (boolean b) (relation h rs) e = absurd (cc)
both_true (integer z) w e = absurd (cc)
both_true (char s) w e = absurd (cc)
both_true (user n ps) w e = absurd (cc)
both_true (tuple fs) w e = absurd (cc)
both_true (relation h rs) w e = absurd (cc)

module _ (db : Database) (relvar : List ℕ) (reached : List (List ℕ)) (before after there : World) (w : AreWorldsOf db relvar reached before after there) where
  abbrev scope : Scope
  scope = database_scope db

  -- ---- parts that meet the static rules

  both_typed : (left : Tree) (right : Tree) (f : Type' → Type' → Outcome Type') (k : Type') → with_both (type_of scope left) (type_of scope right) f ≡ Valued k
      → (l : Type') × (r : Type') × (type_of scope left ≡ Valued l) × (type_of scope right ≡ Valued r)
  both_typed left right f k e =
      let x = values_of_both (type_of scope left) (type_of scope right) f k e in
      (x.0, x.1, x.2, x.3)

  -- ---- values

  -- of an expression in each of the worlds
  abbrev GivesAdditions : Tree → Type 0
  GivesAdditions e = (v : Val) → value_of before [] e ≡ Valued v → GiveAdditions v (value_of after [] e) (value_of there [] e)

  -- by operators of which no world is part
  by_operator : (operand : Tree) (f : Val → Outcome Val) (v : Val) → GivesAdditions operand
      → ((r a t : Relation) → IsOfAdditions r a t → f (relation_value r) ≡ Valued v → GiveAdditions v (f (relation_value a)) (f (relation_value t)))
      → with_value (value_of before [] operand) f ≡ Valued v
      → GiveAdditions v (with_value (value_of after [] operand) f) (with_value (value_of there [] operand) f)
  by_operator operand f v inner keeps e =
      follows_of (GiveAdditions v) (λ bs cs h. h) (value_of before [] operand) (value_of after [] operand) (value_of there [] operand) f f f v
      inner (λ r a t i j k is at. keeps r a t is at) e

  -- and by those of two operands, one of which stays
  by_first : (left right : Tree) (f : Val → Val → Outcome Val) (v x : Val) → GivesAdditions left → value_of before [] right ≡ Valued x
      → value_of after [] right ≡ value_of before [] right → value_of there [] right ≡ value_of before [] right
      → ((r a t : Relation) → IsOfAdditions r a t → f (relation_value r) x ≡ Valued v → GiveAdditions v (f (relation_value a) x) (f (relation_value t) x))
      → with_both (value_of before [] left) (value_of before [] right) f ≡ Valued v
      → GiveAdditions v (with_both (value_of after [] left) (value_of after [] right) f) (with_both (value_of there [] left) (value_of there [] right) f)
  by_first left right f v x inner at stays same keeps e =
      let then = second_valued (value_of after [] left) (value_of after [] right) x f (stays ∙ at) in
      let here = second_valued (value_of there [] left) (value_of there [] right) x f (same ∙ at) in
      subst (λ o. GiveAdditions v o (with_both (value_of there [] left) (value_of there [] right) f)) (sym then)
      (subst (λ o. GiveAdditions v (with_value (value_of after [] left) (λ u. f u x)) o) (sym here)
      (by_operator left (λ u. f u x) v inner keeps (sym (second_valued (value_of before [] left) (value_of before [] right) x f at) ∙ e)))

  by_second : (left right : Tree) (f : Val → Val → Outcome Val) (v x : Val) → GivesAdditions right → value_of before [] left ≡ Valued x
      → value_of after [] left ≡ value_of before [] left → value_of there [] left ≡ value_of before [] left
      → ((r a t : Relation) → IsOfAdditions r a t → f x (relation_value r) ≡ Valued v → GiveAdditions v (f x (relation_value a)) (f x (relation_value t)))
      → with_both (value_of before [] left) (value_of before [] right) f ≡ Valued v
      → GiveAdditions v (with_both (value_of after [] left) (value_of after [] right) f) (with_both (value_of there [] left) (value_of there [] right) f)
  by_second left right f v x inner at stays same keeps e =
      let then = first_valued (value_of after [] left) (value_of after [] right) x f (stays ∙ at) in
      let here = first_valued (value_of there [] left) (value_of there [] right) x f (same ∙ at) in
      subst (λ o. GiveAdditions v o (with_both (value_of there [] left) (value_of there [] right) f)) (sym then)
      (subst (λ o. GiveAdditions v (with_value (value_of after [] right) (f x)) o) (sym here)
      (by_operator right (f x) v inner keeps (sym (first_valued (value_of before [] left) (value_of before [] right) x f at) ∙ e)))

  -- a restriction
  module _ (operand condition : Tree) (first : IsChecked scope [] operand) (checked : IsChecked scope [] (restriction operand condition))
      (none : names_any reached condition ≡ false) where
    abbrev met : World → Tuple → Outcome Val
    met world t = value_of world (t ∷ []) condition

    restricted : (v : Val) → GivesAdditions operand → value_of before [] (restriction operand condition) ≡ Valued v
        → GiveAdditions v (value_of after [] (restriction operand condition)) (value_of there [] (restriction operand condition))
    restricted v inner e =
        follows_of (GiveAdditions v) (λ bs cs h. h) (value_of before [] operand) (value_of after [] operand) (value_of there [] operand)
        (λ u. on_relation u (restricted_value (met before))) (λ u. on_relation u (restricted_value (met after))) (λ u. on_relation u (restricted_value (met there)))
        v inner kept e
      where
        as_before : (world : World) → KeepsScope world scope
            → ((s : List Tuple) (c : Tree) → IsChecked scope s c → names_any reached c ≡ false → value_of world s c ≡ value_of before s c)
            → (q : Relation) → value_of world [] operand ≡ Valued (relation_value q)
            → on_relation (relation_value q) (restricted_value (met before)) ≡ on_relation (relation_value q) (restricted_value (met world))
        as_before world keeps stays q at =
            relation_unpacked q (restricted_value (met before))
            ∙ same_restricted (met before) (met world) q
            (λ t c. sym (stays (t ∷ []) condition (condition_checked db world keeps operand condition first checked q at t c) none))
            ∙ sym (relation_unpacked q (restricted_value (met world)))

        kept : (r a t : Relation) → value_of before [] operand ≡ Valued (relation_value r) → value_of after [] operand ≡ Valued (relation_value a)
            → value_of there [] operand ≡ Valued (relation_value t) → IsOfAdditions r a t → on_relation (relation_value r) (restricted_value (met before)) ≡ Valued v
            → GiveAdditions v (on_relation (relation_value a) (restricted_value (met after))) (on_relation (relation_value t) (restricted_value (met there)))
        kept r a t i j k is at =
            subst (λ o. GiveAdditions v o (on_relation (relation_value t) (restricted_value (met there)))) (as_before after w.after_keeps w.stays_after a j)
            (subst (λ o. GiveAdditions v (on_relation (relation_value a) (restricted_value (met before))) o) (as_before there w.there_keeps w.stays_there t k)
            (operators_keep_additions.restricted (met before) r a t v is at))

  -- an extension, in either spelling: by a function of the types and the values of its parts
  module _ (extending : Outcome (List Attribute) → List (Tuple → Outcome Val) → Relation → Outcome Val)
      (keeps : (types : Heading → Outcome (List Attribute)) (fs : List (Tuple → Outcome Val))
      → KeepsAdditions (λ v. on_relation v (λ r. extending (types r.heading) fs r)))
      (same : (one two : World) (kinds : Outcome (List Attribute)) (parts : NamedTrees) (r : Relation) → ((t : Tuple) → IsIn t r → AgreeIn one two t parts)
      → extending kinds (values_in_tuples one [] parts) r ≡ extending kinds (values_in_tuples two [] parts) r)
      (e operand : Tree) (parts : NamedTrees)
      (is : (world : World) → value_of world [] e
      ≡ with_value (value_of world [] operand) (λ u. on_relation u
      (λ r. extending (named_types (entered_with r.heading (with_tuples world.scope [])) parts) (values_in_tuples world [] parts) r)))
      (first : IsChecked scope [] operand) (type : Heading → List Attribute → Outcome Type') (kind : Type')
      (typed : with_value (type_of scope operand) (λ s. over_relation s (λ h. with_value (named_types (entered_with h scope) parts) (type h))) ≡ Valued kind)
      (names : PartsGiveNames parts) (texts : PartsHaveTexts parts) (none : NameNone reached parts) where
    abbrev kinds : Heading → Outcome (List Attribute)
    kinds h = named_types (entered_with h scope) parts

    abbrev wider : World → Relation → Outcome Val
    wider world r = extending (kinds r.heading) (values_in_tuples world [] parts) r

    is_wider : (world : World) → world.scope ≡ scope → value_of world [] e ≡ with_value (value_of world [] operand) (λ u. on_relation u (wider world))
    is_wider world known =
        is world
        ∙ ap (λ (s : Scope). with_value (value_of world [] operand) (λ u. on_relation u
        (λ r. extending (named_types (entered_with r.heading (with_tuples s [])) parts) (values_in_tuples world [] parts) r))) known

    extended : (v : Val) → GivesAdditions operand → value_of before [] e ≡ Valued v → GiveAdditions v (value_of after [] e) (value_of there [] e)
    extended v inner given =
        subst (λ o. GiveAdditions v o (value_of there [] e)) (sym (is_wider after w.scopes.1))
        (subst (λ o. GiveAdditions v (with_value (value_of after [] operand) (λ u. on_relation u (wider after))) o) (sym (is_wider there w.scopes.2))
        (follows_of (GiveAdditions v) (λ bs cs h. h) (value_of before [] operand) (value_of after [] operand) (value_of there [] operand)
        (λ u. on_relation u (wider before)) (λ u. on_relation u (wider after)) (λ u. on_relation u (wider there))
        v inner kept (sym (is_wider before w.scopes.0) ∙ given)))
      where
        as_before : (world : World) → KeepsScope world scope
            → ((s : List Tuple) (c : Tree) → IsChecked scope s c → names_any reached c ≡ false → value_of world s c ≡ value_of before s c)
            → (q : Relation) → value_of world [] operand ≡ Valued (relation_value q)
            → on_relation (relation_value q) (wider before) ≡ on_relation (relation_value q) (wider world)
        as_before world known stays q at =
            let x = parts_typed db world known operand parts first type kind typed q at in
            let rows = typed_tuples db world known operand first q at in
            relation_unpacked q (wider before)
            ∙ sym (same world before (kinds q.heading) parts q
            (λ t c. parts_agree db world before reached q.heading t (rows.1 t c).0 (rows.1 t c).1 (λ value own apart. stays (t ∷ []) value own apart)
            parts none names texts x.0 x.1))
            ∙ sym (relation_unpacked q (wider world))

        kept : (r a t : Relation) → value_of before [] operand ≡ Valued (relation_value r) → value_of after [] operand ≡ Valued (relation_value a)
            → value_of there [] operand ≡ Valued (relation_value t) → IsOfAdditions r a t → on_relation (relation_value r) (wider before) ≡ Valued v
            → GiveAdditions v (on_relation (relation_value a) (wider after)) (on_relation (relation_value t) (wider there))
        kept r a t i j k additions at =
            subst (λ o. GiveAdditions v o (on_relation (relation_value t) (wider there))) (as_before after w.after_keeps w.stays_after a j)
            (subst (λ o. GiveAdditions v (on_relation (relation_value a) (wider before)) o) (as_before there w.there_keeps w.stays_there t k)
            (keeps kinds (values_in_tuples before [] parts) r a t v additions at))

  -- ---- images

  -- in a world in which the relvar's name means a relation, that is its value
  named : (world : World) (n : List ℕ) (q : Relation) → n ≡ relvar → world.relvar relvar ≡ Some (Valued (relation_value q))
      → value_of world [] (name n) ≡ Valued (relation_value q)
  named world n q is at = ap (λ m. known_outcome (world.relvar m)) is ∙ ap known_outcome at

  pub images : (e : Tree) → IsImageOf relvar reached e → IsChecked scope [] e → GivesAdditions e
  images (name n) is checked v e =
      subst (λ o. GiveAdditions v o (value_of there [] (name n))) (sym (named after n w.new is w.at_after))
      (subst (λ o. GiveAdditions v (Valued (relation_value w.new)) o) (sym (named there n w.added is w.at_there))
      (w.old, w.new, w.added, valued_is v (relation_value w.old) (sym e ∙ named before n w.old is w.at_before), refl, refl, w.additions))
  images (parentheses inner) is checked v e =
      images inner is (record { tuples = tt; written = checked.written; typed = checked.typed }) v e
  images (postfix operand (project attributes)) is checked v e =
      let x = value_of_with (type_of scope operand) (postfix_type (project attributes)) checked.typed.0 checked.typed.1 in
      let own : IsChecked scope [] operand = record { tuples = tt; written = (checked.written.0.0, checked.written.1); typed = (x.0, x.1) } in
      by_operator operand (postfix_value (project attributes)) v (images operand is own)
      (λ r a t additions at. operators_keep_additions.projected attributes r a t v additions at) e
  images (postfix operand (rename style renamings)) is checked v e =
      let x = value_of_with (type_of scope operand) (postfix_type (rename style renamings)) checked.typed.0 checked.typed.1 in
      let own : IsChecked scope [] operand = record { tuples = tt; written = (checked.written.0.0, checked.written.1); typed = (x.0, x.1) } in
      by_operator operand (postfix_value (rename style renamings)) v (images operand is own)
      (λ r a t additions at. operators_keep_additions.renamed style renamings r a t v additions at) e
  images (restriction operand condition) is checked v e =
      let x = value_of_with (type_of scope operand)
      (λ s. over_relation s (λ h. with_value (type_of (entered_with h scope) condition) (restriction_type s))) checked.typed.0 checked.typed.1 in
      let own : IsChecked scope [] operand = record { tuples = tt; written = (checked.written.0.0, checked.written.1.0); typed = (x.0, x.1) } in
      restricted operand condition own checked is.1 v (images operand is.0 own) e
  images (extend operand parts) is checked v e =
      let x = value_of_with (type_of scope operand)
      (λ s. over_relation s (λ h. with_value (named_types (entered_with h scope) parts) (extension_type h))) checked.typed.0 checked.typed.1 in
      let own : IsChecked scope [] operand = record { tuples = tt; written = (checked.written.0.0, checked.written.1.0); typed = (x.0, x.1) } in
      extended extended_value operators_keep_additions.extended same_extended (extend operand parts) operand parts (λ world. refl) own
      extension_type checked.typed.0 checked.typed.1 checked.written.0.1 checked.written.1.1 is.1 v (images operand is.0 own) e
  images (extend_setting operand settings) is checked v e =
      let x = value_of_with (type_of scope operand)
      (λ s. over_relation s (λ h. with_value (named_types (entered_with h scope) settings) (setting_type h))) checked.typed.0 checked.typed.1 in
      let own : IsChecked scope [] operand = record { tuples = tt; written = (checked.written.0.0, checked.written.1.0); typed = (x.0, x.1) } in
      extended extended_by_settings operators_keep_additions.set same_set (extend_setting operand settings) operand settings (λ world. refl) own
      setting_type checked.typed.0 checked.typed.1 checked.written.0.1 checked.written.1.1 is.1 v (images operand is.0 own) e
  images (binary left op right) (inl is) checked v e =
      let k = both_typed left right (operator_type op) checked.typed.0 checked.typed.1 in
      let first : IsChecked scope [] left = record { tuples = tt; written = (checked.written.0.0, checked.written.1.0); typed = (k.0, k.2) } in
      let second : IsChecked scope [] right = record { tuples = tt; written = (checked.written.0.1, checked.written.1.1); typed = (k.1, k.3) } in
      let x = values_of_both (value_of before [] left) (value_of before [] right) (operator_value op) v e in
      by_first left right (operator_value op) v x.1 (images left is.1 first) x.3 (w.stays_after [] right second is.2) (w.stays_there [] right second is.2)
      (λ r a t additions at. operators_keep_additions.first op x.1 is.0 r a t v additions at) e
  images (binary left op right) (inr is) checked v e =
      let k = both_typed left right (operator_type op) checked.typed.0 checked.typed.1 in
      let first : IsChecked scope [] left = record { tuples = tt; written = (checked.written.0.0, checked.written.1.0); typed = (k.0, k.2) } in
      let second : IsChecked scope [] right = record { tuples = tt; written = (checked.written.0.1, checked.written.1.1); typed = (k.1, k.3) } in
      let x = values_of_both (value_of before [] left) (value_of before [] right) (operator_value op) v e in
      by_second left right (operator_value op) v x.0 (images right is.1 second) x.2 (w.stays_after [] left first is.2) (w.stays_there [] left first is.2)
      (λ r a t additions at. operators_keep_additions.second op x.0 is.0 r a t v additions at) e
  images _ is checked v e = absurd is

  -- ---- questions

  abbrev HasOneAnswer : Tree → Type 0
  HasOneAnswer e = AreOneOutcome (value_of after [] e) (value_of there [] e)

  -- of an image beside what stays
  included : (image other : Tree) → IsImageOf relvar reached image → names_any reached other ≡ false → IsChecked scope [] image → IsChecked scope [] other
      → (x : Val) → value_of before [] other ≡ Valued x
      → with_value (value_of before [] image) (λ u. comparison_value comparisons.LessOrEqual u x) ≡ Valued (boolean true)
      → AreOneOutcome (with_value (value_of after [] image) (λ u. comparison_value comparisons.LessOrEqual u x))
      (with_value (value_of there [] image) (λ u. comparison_value comparisons.LessOrEqual u x))
  included image other is none first second x at e =
      follows_of AreOneOutcome (λ bs cs h. h) (value_of before [] image) (value_of after [] image) (value_of there [] image)
      (λ u. comparison_value comparisons.LessOrEqual u x) (λ u. comparison_value comparisons.LessOrEqual u x) (λ u. comparison_value comparisons.LessOrEqual u x)
      (boolean true) (images image is first) (λ r a t i j k additions f. operators_keep_additions.inclusion x r a t additions f) e

  pub answers : (e : Tree) → AsksOfTuples relvar reached e → IsChecked scope [] e → value_of before [] e ≡ Valued (boolean true) → HasOneAnswer e
  answers (parentheses inner) asks checked e = answers inner asks (record { tuples = tt; written = checked.written; typed = checked.typed }) e
  answers (measure measures.IsEmpty operand) asks checked e =
      let x = value_of_with (type_of scope operand) (measure_type measures.IsEmpty) checked.typed.0 checked.typed.1 in
      let own : IsChecked scope [] operand = record { tuples = tt; written = checked.written; typed = (x.0, x.1) } in
      follows_of AreOneOutcome (λ bs cs h. h) (value_of before [] operand) (value_of after [] operand) (value_of there [] operand)
      (measure_value measures.IsEmpty) (measure_value measures.IsEmpty) (measure_value measures.IsEmpty)
      (boolean true) (images operand asks own) (λ r a t i j k additions f. operators_keep_additions.emptiness r a t additions f) e
  answers (compare left comparisons.LessOrEqual right) asks checked e =
      let k = both_typed left right (comparison_type comparisons.LessOrEqual) checked.typed.0 checked.typed.1 in
      let first : IsChecked scope [] left = record { tuples = tt; written = (checked.written.0.0, checked.written.1.0); typed = (k.0, k.2) } in
      let second : IsChecked scope [] right = record { tuples = tt; written = (checked.written.0.1, checked.written.1.1); typed = (k.1, k.3) } in
      let f = comparison_value comparisons.LessOrEqual in
      let x = values_of_both (value_of before [] left) (value_of before [] right) f (boolean true) e in
      subst (λ o. AreOneOutcome o (value_of there [] (compare left comparisons.LessOrEqual right)))
      (sym (second_valued (value_of after [] left) (value_of after [] right) x.1 f (w.stays_after [] right second asks.1 ∙ x.3)))
      (subst (λ o. AreOneOutcome (with_value (value_of after [] left) (λ u. f u x.1)) o)
      (sym (second_valued (value_of there [] left) (value_of there [] right) x.1 f (w.stays_there [] right second asks.1 ∙ x.3)))
      (included left right asks.0 asks.1 first second x.1 x.3 (sym (second_valued (value_of before [] left) (value_of before [] right) x.1 f x.3) ∙ e)))
  answers (compare left comparisons.GreaterOrEqual right) asks checked e =
      let k = both_typed left right (comparison_type comparisons.GreaterOrEqual) checked.typed.0 checked.typed.1 in
      let first : IsChecked scope [] left = record { tuples = tt; written = (checked.written.0.0, checked.written.1.0); typed = (k.0, k.2) } in
      let second : IsChecked scope [] right = record { tuples = tt; written = (checked.written.0.1, checked.written.1.1); typed = (k.1, k.3) } in
      let f = comparison_value comparisons.GreaterOrEqual in
      let x = values_of_both (value_of before [] left) (value_of before [] right) f (boolean true) e in
      subst (λ o. AreOneOutcome o (value_of there [] (compare left comparisons.GreaterOrEqual right)))
      (sym (first_valued (value_of after [] left) (value_of after [] right) x.0 f (w.stays_after [] left first asks.1 ∙ x.2)))
      (subst (λ o. AreOneOutcome (with_value (value_of after [] right) (f x.0)) o)
      (sym (first_valued (value_of there [] left) (value_of there [] right) x.0 f (w.stays_there [] left first asks.1 ∙ x.2)))
      (included right left asks.0 asks.1 second first x.0 x.2 (sym (first_valued (value_of before [] left) (value_of before [] right) x.0 f x.2) ∙ e)))
  answers (binary left operators.And right) asks checked e =
      let k = both_typed left right (operator_type operators.And) checked.typed.0 checked.typed.1 in
      let first : IsChecked scope [] left = record { tuples = tt; written = (checked.written.0.0, checked.written.1.0); typed = (k.0, k.2) } in
      let second : IsChecked scope [] right = record { tuples = tt; written = (checked.written.0.1, checked.written.1.1); typed = (k.1, k.3) } in
      let x = values_of_both (value_of before [] left) (value_of before [] right) (operator_value operators.And) (boolean true) e in
      let truths = both_true x.0 x.1 x.4 in
      operators_keep_additions.conjunction (value_of after [] left) (value_of after [] right) (value_of there [] left) (value_of there [] right)
      (side left first (λ a. answers left a first (x.2 ∙ ap Valued truths.0)) asks.0) (side right second (λ a. answers right a second (x.3 ∙ ap Valued truths.1)) asks.1)
    where
      side : (c : Tree) → IsChecked scope [] c → (AsksOfTuples relvar reached c → HasOneAnswer c)
          → AsksOfTuples relvar reached c ⊎ (names_any reached c ≡ false) → HasOneAnswer c
      side c own by (inl a) = by a
      side c own by (inr none) =
          subst (λ o. AreOneOutcome (value_of after [] c) o) (w.stays_after [] c own none ∙ sym (w.stays_there [] c own none)) (one_itself (value_of after [] c))
  answers _ asks checked e = absurd asks

-- what is one outcome is one refusal
pub one_refusal : (refusal : Refusal) (o p : Outcome Val) → AreOneOutcome o p → refusal_unless_passed refusal (truth_value o) ≡ refusal_unless_passed refusal (truth_value p)
one_refusal refusal (Valued v) (Valued x) h = ap (λ u. refusal_unless_passed refusal (truth_value (Valued u))) h
one_refusal refusal (Valued v) (Refused cs) h = absurd h
one_refusal refusal (Refused bs) (Valued x) h = absurd h
one_refusal refusal (Refused bs) (Refused cs) h = ap (λ c. Some (by_cause c)) h.1

-- what is TRUE is the value TRUE
pub true_value : (o : Outcome Val) → truth_value o ≡ Valued true → o ≡ Valued (boolean true)
true_value (Valued (boolean true)) e = refl
true_value (Valued (boolean false)) e = absurd (cc)
true_value (Valued (integer z)) e = absurd (cc)
true_value (Valued (char s)) e = absurd (cc)
true_value (Valued (user n ps)) e = absurd (cc)
true_value (Valued (tuple fs)) e = absurd (cc)
true_value (Valued (relation h rs)) e = absurd (cc)
true_value (Refused cs) e = absurd (cc)
