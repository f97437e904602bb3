use Rattle.std.proofs.Common.{◌≡◌, ◌∙◌, ap, sym, refl, subst, arith, Bool, true, false, Option, Some, None, get_or}
use Rattle.std.specs.Prelude.{◌&&◌, not, is_none, is_some, option_map}
use Rattle.std.specs.Ordering.{eq_by_cmp, is_eq, nat_cmp}
use Rattle.std.specs.Cmp.Lexicographic.{slice_cmp, texts_ties}
use Rattle.td_types.specs.model.Types.{attrs_cmp, pack, type_cmp}
use Rattle.td_types.specs.code.Views as heads
use Rattle.td_value.specs.model.Values.{fields_type, pack_fields, type_of}
use Rattle.td_value.specs.code.Views.{node_view}
use Rattle.td_value.proofs.Falls.{values_fall}
use Rattle.td_value.proofs.Headed.{fits_more, fits_short, fits_end}
use Rattle.td_value.proofs.Own.{as_many_lent, own_entries}
use Rattle.td_value.proofs.types.+fit.Goals as goal

differs : (b : Bool) → not b ≡ true → b ≡ false
differs true e = sym e
differs false e = refl

agrees : (b : Bool) → not b ≡ false → b ≡ true
agrees true e = refl
agrees false e = sym e

none_mapped : {X Y : Type 0} (f : X → Y) (o : Option X) (b : Bool) → is_some o ≡ not b → b ≡ is_none (option_map f o)
none_mapped f (Some x) b e = differs b (sym e)
none_mapped f None b e = agrees b (sym e)

first_wrong : (x a b : Bool) → x ≡ (a && b) → a ≡ false → x ≡ false
first_wrong x a b e p = e ∙ rw p refl

second_wrong : (x a b d : Bool) → x ≡ (a && (b && d)) → a ≡ true → b ≡ false → x ≡ false
second_wrong x a b d e p q = e ∙ rw (p, q) refl

both_right : (x a b d : Bool) → x ≡ (a && (b && d)) → a ≡ true → b ≡ true → x ≡ d
both_right x a b d e p q = e ∙ rw (p, q) refl

pub has_type-returns-in-User-User : goal.has_type-returns-in-User-User
has_type-returns-in-User-User t c =
    let value = sym c.v.view_is ∙ ap node_view c.in-User-User.is-0 in
    c.eq.ensures ∙ texts_ties c.name.result.now c.in-User-User.name ∙ ap (λ n. is_eq (slice_cmp nat_cmp n c.in-User-User.name)) (c.name.ensures ∙ ap (λ u. u.name) c.deref.ensures)
    ∙ sym (λ i. eq_by_cmp type_cmp (type_of (value i)) (heads.type_view (c.in-User-User.is-1 i)))

pub entries_have_heading-returns-in_default : goal.entries_have_heading-returns-in_default
entries_have_heading-returns-in_default t c =
    sym (fits_short c.args.names.now c.args.values.now c.args.heading.now c.loop-v.place c.v-item.result c.requires (omega (arith, c.loop-v.invariant.0, c.loop-v-test.true))
    (subst (λ k. c.v-item.result ≡ get_or c.args.values.now k c.v-item.result) (sym c.loop-v.invariant.0) c.v-item.is) (sym c.in_default.ensures.attribute)) ∙ c.loop-v.invariant.1

pub entries_have_heading-returns-then-ne : goal.entries_have_heading-returns-then-ne
entries_have_heading-returns-then-ne t c =
    let more = fits_more c.args.names.now c.args.values.now c.args.heading.now c.loop-v.place c.index-names-place.result c.v-item.result _ c.requires
    (omega (arith, c.loop-v.invariant.0, c.loop-v-test.true)) c.index-names-place.is (subst (λ k. c.v-item.result ≡ get_or c.args.values.now k c.v-item.result) (sym c.loop-v.invariant.0) c.v-item.is) (sym c.in-Some.ensures.attribute) in
    sym (first_wrong _ _ _ more (differs _ (sym c.ne.ensures ∙ c.if-ne.true))) ∙ c.loop-v.invariant.1

pub entries_have_heading-returns-then-not-has_type : goal.entries_have_heading-returns-then-not-has_type
entries_have_heading-returns-then-not-has_type t c =
    let more = fits_more c.args.names.now c.args.values.now c.args.heading.now c.loop-v.place c.index-names-place.result c.v-item.result _ c.requires
    (omega (arith, c.loop-v.invariant.0, c.loop-v-test.true)) c.index-names-place.is (subst (λ k. c.v-item.result ≡ get_or c.args.values.now k c.v-item.result) (sym c.loop-v.invariant.0) c.v-item.is) (sym c.in-Some.ensures.attribute) in
    sym (second_wrong _ _ _ _ more (agrees _ (sym c.ne.ensures ∙ c.if-ne.false)) (sym c.has_type.ensures ∙ c.if-not-has_type.true)) ∙ c.loop-v.invariant.1

pub entries_have_heading-loop-v-preserved : goal.entries_have_heading-loop-v-preserved
entries_have_heading-loop-v-preserved t c =
    let more = fits_more c.args.names.now c.args.values.now c.args.heading.now c.loop-v.place c.index-names-place.result c.v-item.result _ c.requires
    (omega (arith, c.loop-v.invariant.0, c.loop-v-test.true)) c.index-names-place.is (subst (λ k. c.v-item.result ≡ get_or c.args.values.now k c.v-item.result) (sym c.loop-v.invariant.0) c.v-item.is) (sym c.in-Some.ensures.attribute) in (
      omega (arith, c.loop-v.invariant.0),
      sym (both_right _ _ _ _ more (agrees _ (sym c.ne.ensures ∙ c.if-ne.false)) (sym c.has_type.ensures ∙ c.if-not-has_type.false)) ∙ c.loop-v.invariant.1,
    )

pub entries_have_heading-returns : goal.entries_have_heading-returns
entries_have_heading-returns t c =
    none_mapped _ c.at-2.result c.is_none.result c.is_none.ensures ∙ ap is_none c.at-2.ensures.attribute
    ∙ sym (fits_end c.args.names.now c.args.values.now c.args.heading.now c.loop-v.place c.requires (omega (arith, c.loop-v.invariant.0, c.loop-v-test.false)))
    ∙ c.loop-v.invariant.1

pub tuple_has_heading-entries_have_heading-requires : goal.tuple_has_heading-entries_have_heading-requires
tuple_has_heading-entries_have_heading-requires t c = (
  omega (arith, c.decreases, values_fall c.args.t.now c.values.result.now c.values.ensures.values),
  as_many_lent c.args.t.now _ _ c.names.ensures.names c.values.ensures.values,
)

pub tuple_has_heading-returns : goal.tuple_has_heading-returns
tuple_has_heading-returns t c =
    let own = own_entries c.args.t.now c.names.result.now c.values.result.now c.names.ensures.names c.values.ensures.values in
    c.entries_have_heading.ensures ∙ ap (λ u. is_eq (attrs_cmp (fields_type (pack_fields u)) (pack c.args.heading.now))) own
