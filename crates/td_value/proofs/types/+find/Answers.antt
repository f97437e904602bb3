use Rattle.std.proofs.Common.{◌≡◌, ◌∙◌, ap, sym, subst, arith, length, get_or, ℕ, List, Result, Ok, Err, true≢false}
use Rattle.std.specs.Prelude.{IfOk, IsOk}
use Rattle.std.specs.Cmp.Lexicographic.{slice_cmp}
use Rattle.std.specs.Ordering.{nat_cmp}
use Rattle.std.specs.List.Sorted.{IsStrictlySortedBy}
use Rattle.td_types.specs.model.Types as types
use Rattle.td_types.specs.model.Types.{Type', pack}
use Rattle.td_types.specs.code.Views as heads
use Rattle.td_types.specs.model.Headings.{has_attribute, with_attribute}
use Rattle.td_value.specs.model.Values.{Val, IsTuple, heading_of, tuple_names, type_of}
use Rattle.td_value.specs.code.ValueCode.{unpack_pack_fields}
use Rattle.td_value.specs.code.Views.{tuple_view, node_view}
use Rattle.td_value.proofs.Falls.{values_fall}
use Rattle.td_value.proofs.Own.{as_many_lent, own_entries}
use Rattle.td_value.proofs.Zips.{zip_names}
use Rattle.td_value.proofs.HeadingOf.{fields_type-heading, heading_lacks, heading_more}
use Rattle.td_value.proofs.types.+find.Goals as goal

ascending : (ns : List (List ℕ)) (vs : List Val) → length ns ≡ length vs → IsTuple (tuple_view ns vs) → IsStrictlySortedBy (slice_cmp nat_cmp) ns
ascending ns vs e h = subst (IsStrictlySortedBy (slice_cmp nat_cmp)) (ap tuple_names (unpack_pack_fields (tuple_view ns vs)) ∙ zip_names ns vs e) h.1

-- what is made of a type that was found
from_found : {X Y E : Type 0} (r : Result X E) (t : X → Type') (h : Y) (f : Type' → Y) (x : Type') → IsOk r → IfOk r (λ y. h ≡ f (t y)) → IfOk r (λ y. t y ≡ x) → h ≡ f x
from_found (Ok y) t h f x ok more same = more ∙ ap f same
from_found (Err e) t h f x ok more same = absurd (true≢false (sym ok))

pub entries_heading-add_attribute-requires : goal.entries_heading-add_attribute-requires
entries_heading-add_attribute-requires t c =
    ap (has_attribute c.index-names-place.result) c.loop-v.invariant.1
    ∙ heading_lacks c.args.names.now c.args.values.now c.loop-v.place c.index-names-place.result (omega (arith, c.loop-v.invariant.0, c.loop-v-test.true, c.requires.same))
    c.index-names-place.is (ascending _ _ c.requires.same c.requires.valid)

pub entries_heading-loop-v-preserved : goal.entries_heading-loop-v-preserved
entries_heading-loop-v-preserved t c =
    let more = heading_more c.args.names.now c.args.values.now c.loop-v.place c.index-names-place.result c.v-item.result c.requires.same (omega (arith, c.loop-v.invariant.0, c.loop-v-test.true))
    c.index-names-place.is (subst (λ k. c.v-item.result ≡ get_or c.args.values.now k c.v-item.result) (sym c.loop-v.invariant.0) c.v-item.is) (ascending _ _ c.requires.same c.requires.valid) in (
      omega (arith, c.loop-v.invariant.0),
      from_found c.find_type.result heads.type_view _ (λ t. with_attribute c.loop-v.heading (c.index-names-place.result, t)) _ c.in_ok-heading.ensures.found c.in_ok-heading.ensures.more c.find_type.ensures
          ∙ ap (λ h. with_attribute h (c.index-names-place.result, type_of c.v-item.result)) c.loop-v.invariant.1 ∙ more,
    )

pub find_type-returns-in_ok-find_heading-in-Tup : goal.find_type-returns-in_ok-find_heading-in-Tup
find_type-returns-in_ok-find_heading-in-Tup t c =
    ap (λ h. types.tuple (pack h)) (c.in_ok-find_heading-in-Tup.ensures ∙ ap heading_of c.deref-in-Tup.ensures)
    ∙ ap types.tuple (sym (fields_type-heading c.in-Tup.t.value)) ∙ ap type_of (sym (ap node_view c.in-Tup.is) ∙ c.v.view_is)

pub find_heading-entries_heading-requires : goal.find_heading-entries_heading-requires
find_heading-entries_heading-requires t c =
    let own = own_entries c.args.t.now c.names.result.now c.values.result.now c.names.ensures.names c.values.ensures.values in (
      omega (arith, c.decreases, values_fall c.args.t.now c.values.result.now c.values.ensures.values),
      (as_many_lent c.args.t.now _ _ c.names.ensures.names c.values.ensures.values, subst IsTuple (sym own) c.values.ensures.valid),
    )

pub find_heading-returns : goal.find_heading-returns
find_heading-returns t c =
    let own = own_entries c.args.t.now c.names.result.now c.values.result.now c.names.ensures.names c.values.ensures.values in
    rw own at c.entries_heading.ensures
