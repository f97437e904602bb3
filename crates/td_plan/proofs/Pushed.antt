-- A restriction of what an operator gives may be computed of the operands that the condition asks.
use Rattle.std.proofs.Common.{◌≡◌, ◌∙◌, ◌∷◌, ◌&&◌, ℕ, Bool, true, false, List, ap, not, refl, subst, sym, true≢false}
use Rattle.std.specs.List.{list_any}
use Rattle.std.specs.Prelude.{if◌then◌else◌, is_some}
use Rattle.td_check.proofs.NameSets.{names_are_a_set}
use Rattle.td_check.specs.model.Mentions.{name_set}
use Rattle.td_check.specs.model.OperatorTypes.{joined_apart, operator_type, over_relation, over_relations, relation_if, restriction_type, same_heading, same_type}
use Rattle.td_check.specs.model.Scopes.{Scope, entered_with}
use Rattle.td_check.specs.model.StaticTypes.{type_of}
use Rattle.td_check.specs.laws.WrittenNames.{names_in}
use Rattle.td_eval.proofs.code_lemmas.TypedTrees.{values_keep_types}
use Rattle.td_eval.specs.model.OperatorValues.{of_relation}
use Rattle.td_eval.specs.model.TreeValues.{value_of}
use Rattle.td_eval.specs.laws.UnfailingValues.{GivesValues}
use Rattle.td_eval.specs.laws.ValueTypes.{IsOfType, KeepsType}
use Rattle.td_eval.specs.model.Worlds.{World, with_tuples}
use Rattle.td_plan.proofs.EqualNames.{names_are_asked}
use Rattle.td_plan.proofs.EqualValues.{gives_more, where_of_intersect_left, where_of_join_left, where_of_join_right, where_of_minus, where_of_times_left, where_of_times_right, where_of_union}
use Rattle.td_plan.proofs.FixedValues.{none_passes}
use Rattle.td_plan.proofs.LookUpValues.{answers, relation_of_value}
use Rattle.td_plan.proofs.PlannedAnswers.{relation_typed}
use Rattle.td_plan.specs.laws.Equalities.{AsksOnlyOf}
use Rattle.td_plan.specs.laws.EqualitiesOfNames.{NamesOnly}
use Rattle.td_plan.specs.laws.EqualitiesOfValues.{Gives, IsAnsweredBy, IsHeadedAndAnswered, IsTotalIn, operated_outcome, where_value}
use Rattle.td_plan.specs.code.PlansOf.{AreInHand, IsPlanOfTyped, outermost}
use Rattle.td_plan.specs.code.Plans.{PlanTree}
use Rattle.td_plan.specs.declared.rewriting.push.Restricted.TheVariants as operands
use Rattle.td_plan.specs.code.Pushing.{IsAnsweredIn, MayStandFor, restricted_tree}
use Rattle.td_tree.specs.declared.cause.Cause.TheVariants as causes
use Rattle.td_tree.specs.declared.operator.Operator.{Operator}
use Rattle.td_tree.specs.declared.operator.Operator.TheVariants as operators
use Rattle.td_tree.specs.model.Outcomes.{Outcome, Valued, Refused, value_if, with_both, with_value}
use Rattle.td_tree.specs.model.Trees.{Tree, binary, restriction}
use Rattle.td_tree.specs.model.WrittenTrees.{IsWritten}
use Rattle.td_types.proofs.HeadingLaws.{has_attribute-names, type_at-union}
use Rattle.td_types.proofs.NameTests.{name_tests_tell}
use Rattle.td_types.proofs.OutcomeLaws.{value_of_test, value_of_with, valued_is, values_of_both}
use Rattle.td_types.specs.model.Headings.{agree, has_attribute, has_name, have_no_common, heading_union, united_heading}
use Rattle.td_types.specs.code.TypeCode.{unpack_pack}
use Rattle.td_types.specs.model.TypeLists.{DeclaredType}
use Rattle.td_types.specs.model.Types as types
use Rattle.td_types.specs.model.Types.{Heading, Type', attribute_names, pack, type_at, unpack}
use Rattle.td_value.specs.model.Values.{IsRelation, Relation, Tuple, Val, relation_value}

-- a plan of what stands for an expression is one of the expression
pub stands_planned : (scope : Scope) (p : PlanTree) (e d : Tree) → MayStandFor scope e d → IsPlanOfTyped scope p e → IsPlanOfTyped scope p d
stands_planned scope p e d stands plan = λ written t is w s slots k hand f.
    let there = stands written t is in
    plan there.written t there.typed w s slots k hand f ∙ there.same w s k hand

-- ---- what operands give

-- a relation of the heading, whose tuples' values are of their types
abbrev IsTypedRelation : List DeclaredType → Heading → Relation → Type 0
IsTypedRelation ds h r = (r.heading ≡ h) × IsOfType ds (relation_value r) (types.relation (pack r.heading))

given_of : (ds : List DeclaredType) (h : Heading) (o : Outcome Val) → KeepsType ds (Valued (types.relation (pack h))) o → Gives (IsTypedRelation ds h) o
given_of ds h (Valued v) p =
    let r = relation_of_value ds h v p in
    (r.0, valued_is v (relation_value r.0) r.1.is_value, (r.1.headed, r.1.typed))
given_of ds h (Refused cs) p = tt

module _ (scope : Scope) (w : World) (s : List Tuple) (k : GivesValues w (outermost scope)) (hand : AreInHand scope s) where
  kept_here : (d : Tree) (t : Type') → IsWritten d → type_of scope d ≡ Valued t → KeepsType scope.types (Valued t) (value_of w s d)
  kept_here d t written is =
      let here : with_tuples (outermost scope) s ≡ scope =
      λ i. record { types = scope.types; relvars = scope.relvars; constraints = scope.constraints; entered = hand.1 i } in
      subst (λ o. KeepsType scope.types o (value_of w s d)) (ap (λ z. type_of z d) here ∙ is)
      (values_keep_types w (outermost scope) s d k.keeps hand.0 written)

  relation_given : (d : Tree) (h : Heading) → IsWritten d → type_of scope d ≡ Valued (types.relation (pack h)) → Gives IsRelation (value_of w s d)
  relation_given d h written is =
      gives_more (IsTypedRelation scope.types h) IsRelation (value_of w s d) (λ r g. g.1.0)
      (given_of scope.types h (value_of w s d) (kept_here d (types.relation (pack h)) written is))

  answered : (d e : Tree) (h : Heading) → IsAnsweredIn scope d e h → IsWritten d → IsWritten e
      → Gives (IsHeadedAndAnswered h (λ t. value_of w (t ∷ s) e)) (value_of w s d)
  answered d e h a written asked =
      gives_more (IsTypedRelation scope.types h) (IsHeadedAndAnswered h (λ t. value_of w (t ∷ s) e)) (value_of w s d)
      (λ r g. ((g.1.0, g.0), answers scope e h w s k hand asked a.unfailing.numbers a.unfailing.never a.condition r g.0 g.1))
      (given_of scope.types h (value_of w s d) (kept_here d (types.relation (pack h)) written a.operand))

  totally : (d e : Tree) (h : Heading) → IsAnsweredIn scope d e h → IsWritten d → IsWritten e
      → Gives (IsTotalIn (λ t. value_of w (t ∷ s) e)) (value_of w s d)
  totally d e h a written asked =
      gives_more (IsHeadedAndAnswered h (λ t. value_of w (t ∷ s) e)) (IsTotalIn (λ t. value_of w (t ∷ s) e)) (value_of w s d) (λ r g. g.1)
      (answered d e h a written asked)

  wholly : (d e : Tree) (h : Heading) → IsAnsweredIn scope d e h → IsWritten d → IsWritten e
      → Gives (IsAnsweredBy (λ t. value_of w (t ∷ s) e)) (value_of w s d)
  wholly d e h a written asked =
      gives_more (IsHeadedAndAnswered h (λ t. value_of w (t ∷ s) e)) (IsAnsweredBy (λ t. value_of w (t ∷ s) e)) (value_of w s d)
      (λ r g. (g.0.0, g.1)) (answered d e h a written asked)

  -- of the relation that the expression gives, these attributes alone are asked
  asks_only : (d e : Tree) (names : List (List ℕ)) (h : Heading) → IsWritten d → type_of scope d ≡ Valued (types.relation (pack h)) → NamesOnly names h e
      → (q : Relation) → value_of w s d ≡ of_relation q → AsksOnlyOf names q (λ t. value_of w (t ∷ s) e)
  asks_only d e names h written is only q gives =
      let value = subst (KeepsType scope.types (Valued (types.relation (pack h)))) gives (kept_here d (types.relation (pack h)) written is) in
      let found = relation_of_value scope.types h (relation_value q) value in
      let same : relation_value q ≡ relation_value found.0 = valued_is (relation_value q) (relation_value found.0) found.1.is_value in
      let packs : pack q.heading ≡ pack found.0.heading = cc in
      let headed : q.heading ≡ h = sym (unpack_pack q.heading) ∙ ap unpack packs ∙ unpack_pack found.0.heading ∙ found.1.headed in
      names_are_asked w s e names q value.0 (subst (λ g. NamesOnly names g e) (sym headed) only)

-- of names of which the first heading has none without the second
pub names_kept : (h g : Heading) (e : Tree) (ns : List (List ℕ)) → ns ≡ name_set (names_in e)
    → not (list_any (λ n. has_attribute n h && not (has_attribute n g)) ns) ≡ true → NamesOnly (attribute_names g) h e
names_kept h g e ns set none n c there =
    let lost = λ (m : List ℕ). has_attribute m h && not (has_attribute m g) in
    let at =
    none_passes lost (name_set (names_in e)) (subst (λ ms. list_any lost ms ≡ false) set (fails (list_any lost ns) none)) n
    (names_are_a_set (names_in e) n ∙ (name_tests_tell.0 n (names_in e)).1 c) in
    sym (has_attribute-names n g) ∙ kept (has_attribute n h) (has_attribute n g) at there
  where
    fails : (b : Bool) → not b ≡ true → b ≡ false
    fails false x = refl
    fails true x = absurd (true≢false (sym x))

    kept : (a b : Bool) → (a && not b) ≡ false → a ≡ true → b ≡ true
    kept true true x y = refl
    kept true false x y = absurd (true≢false x)
    kept false b x y = absurd (true≢false (sym y))

-- ---- types

-- the heading of what is made of two relations, where it is that of their attributes together
joined_type : (o p : Outcome Type') (h g : Heading) (test : Bool) (f : Heading → Heading → Outcome Heading) → f h g ≡ value_if test (heading_union h g) causes.Heading
    → (t : Type') → o ≡ Valued (types.relation (pack h)) → p ≡ Valued (types.relation (pack g))
    → with_both o p (λ s u. over_relations s u (λ x y. relation_if (f x y))) ≡ Valued t
    → with_both o p (λ s u. over_relations s u (λ x y. relation_if (f x y))) ≡ Valued (types.relation (pack (heading_union h g)))
joined_type o p h g test f made t a b is =
    let asked = λ (o p : Outcome Type'). with_both o p (λ s u. over_relations s u (λ x y. relation_if (f x y))) in
    let whole : asked o p ≡ relation_if (f h g) = (λ i. asked (a i) (b i)) ∙ (λ i. relation_if (f (unpack_pack h i) (unpack_pack g i))) in
    let found = value_of_with (f h g) (λ x. Valued (types.relation (pack x))) t (sym whole ∙ is) in
    let tested = value_of_test test (heading_union h g) found.0 causes.Heading (sym made ∙ found.1) in
    whole ∙ ap relation_if found.1 ∙ ap (λ x. Valued (types.relation (pack x))) (sym tested.1)

-- a relation is asked beside a relation
other_related : (o p : Outcome Type') (h : Heading) (f : Type' → Heading → Heading → Outcome Type') (t : Type') → o ≡ Valued (types.relation (pack h))
    → with_both o p (λ s u. over_relations s u (f s)) ≡ Valued t → (g : Heading) × (p ≡ Valued (types.relation (pack g)))
other_related o p h f t a is =
    let first = types.relation (pack h) in
    let found = values_of_both (Valued first) p (λ s u. over_relations s u (f s)) t (subst (λ q. with_both q p (λ s u. over_relations s u (f s)) ≡ Valued t) a is) in
    let asked = subst (λ s. over_relations s found.1 (f s) ≡ Valued t) (sym (valued_is first found.0 found.2)) found.4 in
    relation_typed p (λ u. f first (unpack (pack h))) t (ap (λ q. with_value q (λ u. over_relation u (f first (unpack (pack h))))) found.3 ∙ asked)

-- what is answered where two relations have one heading
abbrev agreed : Type' → Heading → Heading → Outcome Type'
agreed s g h = value_if (same_heading g h) s causes.Heading

-- what is named of the one heading's attributes, and of the other's, is what is named of both
module _ (h g : Heading) (e : Tree) where
  in_other : (n : List ℕ) → has_attribute n (heading_union h g) ≡ true → has_attribute n h ≡ false → has_attribute n g ≡ true
  in_other n there is = ap is_some (sym (type_at-union n h g ∙ (λ i. if is i then type_at n h else type_at n g))) ∙ there

  first_only : NamesOnly (attribute_names h) g e → NamesOnly (attribute_names h) (heading_union h g) e
  first_only only n c there = by_first (has_attribute n h) refl
    where
      by_first : (b : Bool) → has_attribute n h ≡ b → has_name n (attribute_names h) ≡ true
      by_first true is = sym (has_attribute-names n h) ∙ is
      by_first false is = only n c (in_other n there is)

  second_only : NamesOnly (attribute_names g) h e → NamesOnly (attribute_names g) (heading_union h g) e
  second_only only n c there = by_first (has_attribute n h) refl
    where
      by_first : (b : Bool) → has_attribute n h ≡ b → has_name n (attribute_names g) ≡ true
      by_first true is = only n c is
      by_first false is = sym (has_attribute-names n g) ∙ in_other n there is

module _ (scope : Scope) where
  -- what WHERE gives has the operand's type
  operand_type : (d c : Tree) (t : Type') → type_of scope (restriction d c) ≡ Valued t → type_of scope d ≡ Valued t
  operand_type d c t is =
      let found = relation_typed (type_of scope d) (λ q h. with_value (type_of (entered_with h scope) c) (restriction_type q)) t is in
      let h = found.0 in
      let into =
      subst (λ o. with_value o (λ q. over_relation q (λ i. with_value (type_of (entered_with i scope) c) (restriction_type q))) ≡ Valued t) found.1 is in
      let z = value_of_with (type_of (entered_with (unpack (pack h)) scope) c) (restriction_type (types.relation (pack h))) t into in
      let test = value_of_test (same_type z.0 types.boolean) (types.relation (pack h)) t causes.TypeMismatch z.2 in
      found.1 ∙ ap Valued test.1

  restriction_typed : (d e : Tree) (h : Heading) → IsAnsweredIn scope d e h → type_of scope (restriction d e) ≡ type_of scope d
  restriction_typed d e h a =
      let asked = λ (o : Outcome Type'). with_value o (λ q. over_relation q (λ i. with_value (type_of (entered_with i scope) e) (restriction_type q))) in
      ap asked a.operand
      ∙ ap (λ i. with_value (type_of (entered_with i scope) e) (restriction_type (types.relation (pack h)))) (unpack_pack h)
      ∙ ap (λ o. with_value o (restriction_type (types.relation (pack h)))) a.condition
      ∙ sym a.operand

  -- ---- operators of which operands are restricted

  module _ (l r e : Tree) (op : Operator) where
    abbrev Whole : Tree
    Whole = restriction (binary l op r) e

    first_stands : (h : Heading) → IsAnsweredIn scope l e h
        → ((w : World) (s : List Tuple) → GivesValues w (outermost scope) → AreInHand scope s → IsWritten l → IsWritten r → IsWritten e
        → where_value (λ t. value_of w (t ∷ s) e) (operated_outcome op (value_of w s l) (value_of w s r))
        ≡ operated_outcome op (where_value (λ t. value_of w (t ∷ s) e) (value_of w s l)) (value_of w s r))
        → MayStandFor scope (restricted_tree operands.First l op r e) Whole
    first_stands h a same = λ written t is.
        let wl : IsWritten l = (written.0.0.0, written.1.0.0) in
        let wr : IsWritten r = (written.0.0.1, written.1.0.1) in
        let we : IsWritten e = (written.0.1, written.1.1) in
        record {
          written = (((written.0.0.0, written.0.1), written.0.0.1), ((written.1.0.0, written.1.1), written.1.0.1));
          typed = ap (λ o. with_both o (type_of scope r) (operator_type op)) (restriction_typed l e h a) ∙ operand_type (binary l op r) e t is;
          same = λ w s k hand. sym (same w s k hand wl wr we);
        }

    second_stands : (h : Heading) → IsAnsweredIn scope r e h
        → ((w : World) (s : List Tuple) → GivesValues w (outermost scope) → AreInHand scope s → IsWritten l → IsWritten r → IsWritten e
        → where_value (λ t. value_of w (t ∷ s) e) (operated_outcome op (value_of w s l) (value_of w s r))
        ≡ operated_outcome op (value_of w s l) (where_value (λ t. value_of w (t ∷ s) e) (value_of w s r)))
        → MayStandFor scope (restricted_tree operands.Second l op r e) Whole
    second_stands h a same = λ written t is.
        let wl : IsWritten l = (written.0.0.0, written.1.0.0) in
        let wr : IsWritten r = (written.0.0.1, written.1.0.1) in
        let we : IsWritten e = (written.0.1, written.1.1) in
        record {
          written = ((written.0.0.0, (written.0.0.1, written.0.1)), (written.1.0.0, (written.1.0.1, written.1.1)));
          typed = ap (λ o. with_both (type_of scope l) o (operator_type op)) (restriction_typed r e h a) ∙ operand_type (binary l op r) e t is;
          same = λ w s k hand. sym (same w s k hand wl wr we);
        }

    both_stand : (h g : Heading) → IsAnsweredIn scope l e h → IsAnsweredIn scope r e g
        → ((w : World) (s : List Tuple) → GivesValues w (outermost scope) → AreInHand scope s → IsWritten l → IsWritten r → IsWritten e
        → where_value (λ t. value_of w (t ∷ s) e) (operated_outcome op (value_of w s l) (value_of w s r))
        ≡ operated_outcome op (where_value (λ t. value_of w (t ∷ s) e) (value_of w s l)) (where_value (λ t. value_of w (t ∷ s) e) (value_of w s r)))
        → MayStandFor scope (restricted_tree operands.Both l op r e) Whole
    both_stand h g a b same = λ written t is.
        let wl : IsWritten l = (written.0.0.0, written.1.0.0) in
        let wr : IsWritten r = (written.0.0.1, written.1.0.1) in
        let we : IsWritten e = (written.0.1, written.1.1) in
        record {
          written =
              (((written.0.0.0, written.0.1), (written.0.0.1, written.0.1)), ((written.1.0.0, written.1.1), (written.1.0.1, written.1.1)));
          typed =
              (λ i. with_both (restriction_typed l e h a i) (restriction_typed r e g b i) (operator_type op)) ∙ operand_type (binary l op r) e t is;
          same = λ w s k hand. sym (same w s k hand wl wr we);
        }

  -- ---- which they are

  module _ (l r e : Tree) where
    pub union_stands : (h g : Heading) → IsAnsweredIn scope l e h → IsAnsweredIn scope r e g
        → MayStandFor scope (restricted_tree operands.Both l operators.Union r e) (restriction (binary l operators.Union r) e)
    union_stands h g a b =
        both_stand l r e operators.Union h g a b
        (λ w s k hand wl wr we. where_of_union (λ t. value_of w (t ∷ s) e) (value_of w s l) (value_of w s r)
        (wholly scope w s k hand l e h a wl we) (wholly scope w s k hand r e g b wr we))

    pub intersect_stands : (h : Heading) → IsAnsweredIn scope l e h
        → MayStandFor scope (restricted_tree operands.First l operators.Intersect r e) (restriction (binary l operators.Intersect r) e)
    intersect_stands h a = λ written t is.
        let other = other_related (type_of scope l) (type_of scope r) h agreed t a.operand (operand_type (binary l operators.Intersect r) e t is) in
        first_stands l r e operators.Intersect h a
        (λ w s k hand wl wr we. where_of_intersect_left (λ t. value_of w (t ∷ s) e) (value_of w s l) (value_of w s r)
        (totally scope w s k hand l e h a wl we) (relation_given scope w s k hand r other.0 wr other.1)) written t is

    pub minus_stands : (h : Heading) → IsAnsweredIn scope l e h
        → MayStandFor scope (restricted_tree operands.First l operators.Minus r e) (restriction (binary l operators.Minus r) e)
    minus_stands h a = λ written t is.
        let other = other_related (type_of scope l) (type_of scope r) h agreed t a.operand (operand_type (binary l operators.Minus r) e t is) in
        first_stands l r e operators.Minus h a
        (λ w s k hand wl wr we. where_of_minus (λ t. value_of w (t ∷ s) e) (value_of w s l) (value_of w s r)
        (totally scope w s k hand l e h a wl we) (relation_given scope w s k hand r other.0 wr other.1)) written t is

    -- the operands' relations have these headings; of what the condition names the one operand has all that the other one has
    module _ (h g : Heading) where
      pub join_first_stands : IsAnsweredIn scope l e h → type_of scope r ≡ Valued (types.relation (pack g)) → NamesOnly (attribute_names h) g e
          → MayStandFor scope (restricted_tree operands.First l operators.Join r e) (restriction (binary l operators.Join r) e)
      join_first_stands a b only = λ written t is.
          let whole = joined_type (type_of scope l) (type_of scope r) h g (agree h g) united_heading refl t a.operand b (operand_type (binary l operators.Join r) e t is) in
          first_stands l r e operators.Join h a
          (λ w s k hand wl wr we. where_of_join_left (λ t. value_of w (t ∷ s) e) h (value_of w s l) (value_of w s r)
          (answered scope w s k hand l e h a wl we) (relation_given scope w s k hand r g wr b)
          (asks_only scope w s k hand (binary l operators.Join r) e (attribute_names h) (heading_union h g) ((wl.0, wr.0), (wl.1, wr.1)) whole (first_only h g e only)))
          written t is

      pub join_second_stands : type_of scope l ≡ Valued (types.relation (pack h)) → IsAnsweredIn scope r e g → NamesOnly (attribute_names g) h e
          → MayStandFor scope (restricted_tree operands.Second l operators.Join r e) (restriction (binary l operators.Join r) e)
      join_second_stands b a only = λ written t is.
          let whole = joined_type (type_of scope l) (type_of scope r) h g (agree h g) united_heading refl t b a.operand (operand_type (binary l operators.Join r) e t is) in
          second_stands l r e operators.Join g a
          (λ w s k hand wl wr we. where_of_join_right (λ t. value_of w (t ∷ s) e) g (value_of w s l) (value_of w s r)
          (relation_given scope w s k hand l h wl b) (answered scope w s k hand r e g a wr we)
          (asks_only scope w s k hand (binary l operators.Join r) e (attribute_names g) (heading_union h g) ((wl.0, wr.0), (wl.1, wr.1)) whole (second_only h g e only)))
          written t is

      pub times_first_stands : IsAnsweredIn scope l e h → type_of scope r ≡ Valued (types.relation (pack g)) → NamesOnly (attribute_names h) g e
          → MayStandFor scope (restricted_tree operands.First l operators.Times r e) (restriction (binary l operators.Times r) e)
      times_first_stands a b only = λ written t is.
          let whole = joined_type (type_of scope l) (type_of scope r) h g (have_no_common h g) joined_apart refl t a.operand b (operand_type (binary l operators.Times r) e t is) in
          first_stands l r e operators.Times h a
          (λ w s k hand wl wr we. where_of_times_left (λ t. value_of w (t ∷ s) e) h (value_of w s l) (value_of w s r)
          (answered scope w s k hand l e h a wl we) (relation_given scope w s k hand r g wr b)
          (asks_only scope w s k hand (binary l operators.Times r) e (attribute_names h) (heading_union h g) ((wl.0, wr.0), (wl.1, wr.1)) whole (first_only h g e only)))
          written t is

      pub times_second_stands : type_of scope l ≡ Valued (types.relation (pack h)) → IsAnsweredIn scope r e g → NamesOnly (attribute_names g) h e
          → MayStandFor scope (restricted_tree operands.Second l operators.Times r e) (restriction (binary l operators.Times r) e)
      times_second_stands b a only = λ written t is.
          let whole = joined_type (type_of scope l) (type_of scope r) h g (have_no_common h g) joined_apart refl t b a.operand (operand_type (binary l operators.Times r) e t is) in
          second_stands l r e operators.Times g a
          (λ w s k hand wl wr we. where_of_times_right (λ t. value_of w (t ∷ s) e) g (value_of w s l) (value_of w s r)
          (relation_given scope w s k hand l h wl b) (answered scope w s k hand r e g a wr we)
          (asks_only scope w s k hand (binary l operators.Times r) e (attribute_names g) (heading_union h g) ((wl.0, wr.0), (wl.1, wr.1)) whole (second_only h g e only)))
          written t is
