-- SUMMARIZE BY is SUMMARIZE PER of the projection of its operand.
use Rattle.std.proofs.Common.{◌≡◌, ◌∙◌, ◌⊎◌, inl, inr, true, Some, ap, map, refl, subst, sym}
use Rattle.std.specs.Prelude.{◌↔◌}
use Rattle.td_check.specs.model.OperatorTypes.{extension_type, item_type, named_part, per_heading, postfix_type, relation_if, summary_type}
use Rattle.td_check.specs.model.Scopes.{entered_with}
use Rattle.td_check.specs.model.StaticTypes.{items_of, type_of, with_items}
use Rattle.td_check.proofs.StaticLaws.{types_are_known}
use Rattle.td_check.proofs.SummaryLaws.{Items}
use Rattle.td_eval.specs.model.Worlds.{with_tuples}
use Rattle.td_tree.specs.declared.cause.Cause.{Cause}
use Rattle.td_tree.specs.declared.cause.Cause.TheVariants as causes
use Rattle.td_tree.specs.model.Outcomes.{Causes, Union, Has, Outcome, Valued, Refused, gathered, value_if, with_both, with_value}
use Rattle.td_tree.specs.model.Trees.{Attributes, project}
use Rattle.td_types.specs.model.Headings.{is_part}
use Rattle.td_types.specs.code.TypeCode.{unpack_pack}
use Rattle.td_types.specs.model.Types.{Attrs, Heading, IsHeading, IsType, Type', boolean, char, integer, pack, relation, tuple, unpack, user}
use Rattle.td_types.proofs.Meanings.{pack_unpack}
use Rattle.td_types.proofs.OutcomeLaws.{values_of_both}
use Rattle.td_value.specs.model.Values.{Val}
use Rattle.td_eval.specs.model.AggregateValues.{summary_attributes, summary_value}
use Rattle.td_eval.specs.model.OperatorValues.{postfix_value}
use Rattle.td_eval.specs.model.TreeValues.{items_in_tuples, value_of}
use Rattle.td_eval.specs.laws.ValueLaws.{AreOneOutcome, SummarizeByIsPerOfTheProjection}
use Rattle.td_eval.proofs.code_lemmas.SummaryParts.{by_type, meant_is_part, per_type}
use Rattle.td_eval.proofs.law_lemmas.TupleOrder.{one_itself, one_least}

-- ---- values

of_second : (v : Val) (o : Outcome Val) (f : Val → Val → Outcome Val)
    → AreOneOutcome (with_value o (f v)) (with_both (Valued v) o f)
of_second v (Valued u) f = one_itself (f v u)
of_second v (Refused cs) f = one_itself (Refused cs)

-- where the operand is refused, PER has its causes twice
twice : (cs : Causes) (c : Cause) → Has cs c ↔ Has (Union cs cs) c
twice cs c = (λ h. inl h, back)
  where
    back : Has cs c ⊎ Has cs c → Has cs c
    back (inl h) = h
    back (inr h) = h

of_operand : (o : Outcome Val) (f : Val → Outcome Val) (g : Val → Val → Outcome Val)
    → AreOneOutcome (with_value o (λ v. with_value (f v) (g v))) (with_both o (with_value o f) g)
of_operand (Valued v) f g = of_second v (f v) g
of_operand (Refused cs) f g = (twice cs, one_least cs (Union cs cs) (twice cs))

-- ---- types

no_value : {A : Type 0} (cs : Causes) (x : A) → Refused cs ≡ Valued x → ⊥
no_value cs x e = absurd (cc)

-- where the first is refused, so are both
module _ {A B C : Type 0} (cs : Causes) where
  none_of_first : (p : Outcome B) (f : A → B → Outcome C) (y : C) → with_both (Refused cs) p f ≡ Valued y → ⊥
  none_of_first p f y e = let is = values_of_both (Refused cs) p f y e in no_value cs is.0 is.2

  none_of_second : (o : Outcome A) (f : A → B → Outcome C) (y : C) → with_both o (Refused cs) f ≡ Valued y → ⊥
  none_of_second o f y e = let is = values_of_both o (Refused cs) f y e in no_value cs is.1 is.3

module _ (items : Heading → Outcome Items) (by : Attributes) where
  -- the type of either is the other's
  abbrev HaveOneType : Outcome Type' → Type' → Type 0
  HaveOneType x t =
      (with_value (with_value x (λ s. with_items s items)) (by_type by) ≡ Valued t)
      ↔ (with_both (with_value x (λ s. with_items s items)) (with_value x (postfix_type (project by))) per_type ≡ Valued t)

  neither : {X Y : Type 0} → (X → ⊥) → (Y → ⊥) → X ↔ Y
  neither f g = (λ x. absurd (f x), λ y. absurd (g y))

  module _ (a : Attrs) (is : IsHeading a) (t : Type') where
    abbrev h : Heading
    h = unpack a

    -- PER's heading is the part
    per_is : (g : Heading) → named_part by h ≡ Valued g → per_heading h (relation (pack g)) ≡ Valued g
    per_is g e =
        let part : is_part g h ≡ true = meant_is_part by h g (subst IsHeading (sym (pack_unpack a)) is) e in
        (λ i. value_if (is_part (unpack_pack g i) h) (unpack_pack g i) causes.Heading) ∙ ap
        (λ b. value_if b g causes.Heading) part

    of_part : (xs : Items) (o : Outcome Heading) → named_part by h ≡ o
        → (summary_type o xs ≡ Valued t) ↔ (with_both (Valued (Some (h, xs))) (relation_if o) per_type ≡ Valued t)
    of_part xs (Valued g) e =
        let same = ap (λ o. summary_type o xs) (per_is g e) in
        (λ k. same ∙ k, λ k. sym same ∙ k)
    of_part xs (Refused cs) e =
        neither (none_of_first cs (gathered (map item_type xs)) (λ g attributes. extension_type g attributes) t)
        (none_of_second cs (Valued (Some (h, xs))) per_type t)

    of_items : (y : Outcome Items)
        → (with_value (with_value y (λ xs. Valued (Some (h, xs)))) (by_type by) ≡ Valued t)
        ↔ (with_both (with_value y (λ xs. Valued (Some (h, xs)))) (relation_if (named_part by h)) per_type ≡ Valued t)
    of_items (Valued xs) = of_part xs (named_part by h) refl
    of_items (Refused cs) = neither (no_value cs t) (none_of_first cs (relation_if (named_part by h)) per_type t)

  one_type : (x : Outcome Type') (t : Type') → ((s : Type') → x ≡ Valued s → IsType s) → HaveOneType x t
  one_type (Refused cs) t is = neither (no_value cs t) (no_value (Union cs cs) t)
  one_type (Valued boolean) t is = neither (λ e. absurd (cc)) (λ e. absurd (cc))
  one_type (Valued integer) t is = neither (λ e. absurd (cc)) (λ e. absurd (cc))
  one_type (Valued char) t is = neither (λ e. absurd (cc)) (λ e. absurd (cc))
  one_type (Valued (user n)) t is = neither (λ e. absurd (cc)) (λ e. absurd (cc))
  one_type (Valued (tuple a)) t is = neither (λ e. absurd (cc)) (λ e. absurd (cc))
  one_type (Valued (relation a)) t is = of_items a (is (relation a) refl) t (items (unpack a))

pub summarize_by_is_per_of_the_projection : SummarizeByIsPerOfTheProjection
summarize_by_is_per_of_the_projection =
    record {
      values = λ w s operand by items. of_operand (value_of w s operand) (postfix_value (project by))
          (summary_value (λ h. summary_attributes (entered_with h (with_tuples w.scope s)) items) (items_in_tuples w s items));
      types = λ scope operand by items t is names. one_type (λ h. items_of (entered_with h scope) items) by
          (type_of scope operand) t
          (λ s e. (types_are_known.of_tree scope operand s is names e).0);
    }
