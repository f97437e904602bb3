-- Relations whose tuples ascend, also with one tuple more and with some of them.
use Rattle.std.proofs.Common.{◌≡◌, ◌∙◌, ap, subst, refl, List, [], ◌∷◌, filter, Bool, true, false, cond}
use Rattle.std.specs.declared.cmp.Ordering.{Ordering}
use Rattle.std.specs.declared.cmp.Ordering.TheVariants.{Less, Equal, Greater}
use Rattle.std.specs.List.{All}
use Rattle.std.proofs.lemmas.List.Kept.{IsStrictlySortedBy-filter}
use Rattle.td_types.specs.model.Types.{Heading, IsHeading, Attrs, pack}
use Rattle.td_value.specs.model.Sets.{put_in}
use Rattle.td_value.specs.model.Values.{Tuple, AreRows, IsAscendingBody, IsRelation, IsTuple, IsTupleOf, fields_type, pack_fields, pack_rows, tuple_cmp, relation_view}
use Rattle.td_value.specs.code.ValueCode.{unpack_pack_rows}
use Rattle.td_value.specs.code.ValueOrder.{tuple_order_total, tuple_order_same}
use Rattle.td_value.proofs.HeadingOf.{fields_type-heading}
use Rattle.td_value.proofs.Rows.{AreRows-from}
use Rattle.td_value.proofs.SetLaws.{put_in-ascends}

pub relation_ascends : (h : Heading) (ts : List Tuple) → IsRelation (relation_view h ts) → IsAscendingBody ts
relation_ascends h ts p = subst IsAscendingBody (unpack_pack_rows ts) p.1

pub relation_from : (h : Heading) (ts : List Tuple) → All (IsTupleOf h) ts → IsAscendingBody ts → IsHeading (pack h) → IsRelation (relation_view h ts)
relation_from h ts a up is_heading = (AreRows-from h ts a, rw (unpack_pack_rows ts) up, is_heading)

rows_with : (h : Attrs) (t : Tuple) (ts : List Tuple) → IsTuple t × (fields_type (pack_fields t) ≡ h) → AreRows h (pack_rows ts) → AreRows h (pack_rows (put_in tuple_cmp t ts))
rows_with h t [] p r = ((p.0.0, p.0.1, p.1), tt)
rows_with h t (u ∷ ts) p r = by_order (rows_with h t ts p r.1) (tuple_cmp t u) refl
  where
    by_order : AreRows h (pack_rows (put_in tuple_cmp t ts)) → (o : Ordering) → tuple_cmp t u ≡ o → AreRows h (pack_rows (put_in tuple_cmp t (u ∷ ts)))
    by_order rest Less e = rw e ((p.0.0, p.0.1, p.1), r)
    by_order rest Equal e = rw e r
    by_order rest Greater e = rw e (r.0, rest)

rows_kept : (h : Attrs) (p : Tuple → Bool) (ts : List Tuple) → AreRows h (pack_rows ts) → AreRows h (pack_rows (filter p ts))
rows_kept h p [] r = tt
rows_kept h p (t ∷ ts) r = by_test (rows_kept h p ts r.1) (p t)
  where
    by_test : AreRows h (pack_rows (filter p ts)) → (b : Bool) → AreRows h (pack_rows (cond b (t ∷ filter p ts) (filter p ts)))
    by_test rest true = (r.0, rest)
    by_test rest false = rest

-- a relation with a tuple of its heading
pub relation_with : (h : Heading) (t : Tuple) (ts : List Tuple) → IsTupleOf h t → IsRelation (relation_view h ts) → IsRelation (relation_view h (put_in tuple_cmp t ts))
relation_with h t ts p r = (
  rows_with (pack h) t ts (p.0, fields_type-heading t ∙ ap pack p.1) r.0,
  rw (unpack_pack_rows (put_in tuple_cmp t ts)) (put_in-ascends tuple_cmp tuple_order_total tuple_order_same t ts (relation_ascends h ts r)),
  r.2,
)

-- a relation with those of its tuples that pass
pub relation_kept : (h : Heading) (p : Tuple → Bool) (ts : List Tuple) → IsRelation (relation_view h ts) → IsRelation (relation_view h (filter p ts))
relation_kept h p ts r =
    (rows_kept (pack h) p ts r.0, rw (unpack_pack_rows (filter p ts)) (IsStrictlySortedBy-filter tuple_cmp p ts (relation_ascends h ts r)), r.2)
