-- The order of values is a total order, in which only equal values tie.
use Rattle.std.specs.Prelude.{◌≡◌, ℕ, Bool, true, false, List, refl}
use Rattle.std.specs.declared.cmp.Ordering.{Ordering}
use Rattle.std.specs.declared.cmp.Ordering.TheVariants.{Less, Equal, Greater}
use Rattle.std.specs.Ordering.{nat_cmp, int_cmp, bool_cmp, ordering_then, ordering_reverse, eq_by_cmp, is_eq}
use Rattle.std.specs.Cmp.{IsTotalOrder}
use Rattle.std.specs.Cmp.Lexicographic.{slice_cmp}
use Rattle.std.proofs.Common.{ap, sym, subst, ◌∙◌}
use Rattle.std.specs.Prelude.{IsTrue}
use Rattle.std.specs.Bool.{Decides}
use Rattle.td_value.specs.code.Hashes.{fed_value, fed_tuple, fed_relation}
use Rattle.std.proofs.lemmas.Cmp.{on_total, then_total, nat_list_cmp_total, tied_itself}
use Rattle.td_types.specs.code.Keys.{Key, key_cmp, keys_cmp, key_cmp_total, key_same, list_same, nat_same, then_equal}
use Rattle.td_types.specs.model.Types.{Attrs, no_attrs, unpack}
use Rattle.td_types.specs.code.TypeCode.{unpack_pack}
use Rattle.td_types.specs.code.TypeOrder.{attrs_cmp-keys}
use Rattle.td_value.specs.model.Values.{Val, boolean, integer, char, user, tuple, relation, Parts, no_parts, part, Fields, no_fields, field, Rows, no_rows, row, Tuple, Relation, unpack_fields, unpack_rows, value_cmp, parts_cmp, fields_cmp, rows_cmp, tuple_cmp, relation_cmp, relation_value, tuple_value, entry_cmp}
use Rattle.td_value.specs.code.ValueCode.{val_key, parts_keys, fields_keys, rows_keys, bit, val_from, val_back, unpack_pack_fields, unpack_pack_rows}

then_equal_right : (o : Ordering) → ordering_then o Equal ≡ o
then_equal_right Less = refl
then_equal_right Equal = refl
then_equal_right Greater = refl

bool_int : (a b : Bool) → bool_cmp a b ≡ int_cmp (bit a) (bit b)
bool_int false false = refl
bool_int false true = refl
bool_int true false = refl
bool_int true true = refl

mutual
  pub order-key : (v w : Val) → value_cmp v w ≡ key_cmp (val_key v) (val_key w)
  order-key (boolean a) (boolean b) = bool_int a b ∙ sym (then_equal_right (int_cmp (bit a) (bit b)))
  order-key (integer x) (integer y) = sym (then_equal_right (int_cmp x y))
  order-key (char s) (char t) = sym (then_equal_right (slice_cmp nat_cmp s t))
  order-key (user m ps) (user n qs) = ap (ordering_then (slice_cmp nat_cmp m n)) (parts_order-keys ps qs)
  order-key (tuple fs) (tuple gs) = fields_order-keys fs gs
  order-key (relation h rs) (relation i ss) = rw (attrs_cmp-keys h i, rows_order-keys rs ss)
  order-key v w = refl

  pub parts_order-keys : (ps qs : Parts) → parts_cmp ps qs ≡ keys_cmp (parts_keys ps) (parts_keys qs)
  parts_order-keys no_parts no_parts = refl
  parts_order-keys no_parts (part w qs) = refl
  parts_order-keys (part v ps) no_parts = refl
  parts_order-keys (part v ps) (part w qs) = rw (order-key v w, parts_order-keys ps qs)

  pub fields_order-keys : (fs gs : Fields) → fields_cmp fs gs ≡ keys_cmp (fields_keys fs) (fields_keys gs)
  fields_order-keys no_fields no_fields = refl
  fields_order-keys no_fields (field n w gs) = refl
  fields_order-keys (field m v fs) no_fields = refl
  fields_order-keys (field m v fs) (field n w gs) =
      rw (order-key v w, fields_order-keys fs gs, then_equal_right (slice_cmp nat_cmp m n))

  pub rows_order-keys : (rs ss : Rows) → rows_cmp rs ss ≡ keys_cmp (rows_keys rs) (rows_keys ss)
  rows_order-keys no_rows no_rows = refl
  rows_order-keys no_rows (row gs ss) = refl
  rows_order-keys (row fs rs) no_rows = refl
  rows_order-keys (row fs rs) (row gs ss) = rw (fields_order-keys fs gs, rows_order-keys rs ss)

-- an order that another's keys give
pub total_by : {K : Type 0} (R : K → K → Ordering) (f : K → Key) → ((x y : K) → R x y ≡ key_cmp (f x) (f y)) → IsTotalOrder R
total_by R f is = record {
  antisymm = λ s t. is s t ∙ key_cmp_total.antisymm (f s) (f t) ∙ ap ordering_reverse (sym (is t s));
  trans = λ s t u p q. is s u ∙ key_cmp_total.trans (f s) (f t) (f u) (sym (is s t) ∙ p) (sym (is t u) ∙ q);
  congr = λ s t u p. is s u ∙ key_cmp_total.congr (f s) (f t) (f u) (sym (is s t) ∙ p) ∙ sym (is t u);
}

pub order_total : IsTotalOrder value_cmp
order_total = total_by value_cmp val_key order-key

-- only equal values tie
pub order_same : (v w : Val) → value_cmp v w ≡ Equal → v ≡ w
order_same v w e = sym (val_back v) ∙ ap val_from (key_same (val_key v) (val_key w) (sym (order-key v w) ∙ e)) ∙ val_back w

tuple_value_same : (s t : Tuple) → tuple_value s ≡ tuple_value t → s ≡ t
tuple_value_same s t e = sym (unpack_pack_fields s) ∙ ap (λ v. unpack_fields (fields_in v)) e ∙ unpack_pack_fields t
  where
    fields_in : Val → Fields
    fields_in (tuple fs) = fs
    fields_in v = no_fields

pub tuple_order_total : IsTotalOrder tuple_cmp
tuple_order_total = on_total tuple_value order_total

pub tuple_order_same : (s t : Tuple) → tuple_cmp s t ≡ Equal → s ≡ t
tuple_order_same s t e = tuple_value_same s t (order_same (tuple_value s) (tuple_value t) e)

pub relation_order_total : IsTotalOrder relation_cmp
relation_order_total = on_total relation_value order_total

pub equal_from : (o : Ordering) → is_eq o ≡ true → o ≡ Equal
equal_from Less e = cc
equal_from Equal e = refl
equal_from Greater e = cc

-- of a total order in which only equal items tie, the test of a tie is the test of equality
decides_by : {K : Type 0} (R : K → K → Ordering) → IsTotalOrder R → ((x y : K) → R x y ≡ Equal → x ≡ y) → (x y : K) → Decides (eq_by_cmp R x y) (x ≡ y)
decides_by R o same x y = (λ e. same x y (equal_from (R x y) e), λ e. subst (λ z. eq_by_cmp R x z ≡ true) e (ap is_eq (tied_itself o x)))

pub value_Decides : (v w : Val) → Decides (eq_by_cmp value_cmp v w) (v ≡ w)
value_Decides = decides_by value_cmp order_total order_same

pub tuple_Decides : (s t : Tuple) → Decides (eq_by_cmp tuple_cmp s t) (s ≡ t)
tuple_Decides = decides_by tuple_cmp tuple_order_total tuple_order_same

pub values_fed_alike : (v w : Val) → IsTrue (eq_by_cmp value_cmp v w) → fed_value v ≡ fed_value w
values_fed_alike v w h = ap fed_value ((value_Decides v w).0 h)

pub tuples_fed_alike : (s t : Tuple) → IsTrue (eq_by_cmp tuple_cmp s t) → fed_tuple s ≡ fed_tuple t
tuples_fed_alike s t h = ap fed_tuple ((tuple_Decides s t).0 h)

-- the order of relations ties only equal relations
pub relation_order_same : (r s : Relation) → relation_cmp r s ≡ Equal → r ≡ s
relation_order_same r s e = relation_value_same r s (order_same (relation_value r) (relation_value s) e)
  where
    heading_in : Val → Attrs
    heading_in (relation h rs) = h
    heading_in v = no_attrs

    rows_in : Val → Rows
    rows_in (relation h rs) = rs
    rows_in v = no_rows

    relation_value_same : (r s : Relation) → relation_value r ≡ relation_value s → r ≡ s
    relation_value_same r s e =
        let h : r.heading ≡ s.heading = sym (unpack_pack r.heading) ∙ ap (λ v. unpack (heading_in v)) e ∙ unpack_pack s.heading in
        let b : r.body ≡ s.body = sym (unpack_pack_rows r.body) ∙ ap (λ v. unpack_rows (rows_in v)) e ∙ unpack_pack_rows s.body in
        λ i. record { heading = h i; body = b i }

pub relation_Decides : (r s : Relation) → Decides (eq_by_cmp relation_cmp r s) (r ≡ s)
relation_Decides = decides_by relation_cmp relation_order_total relation_order_same

pub relations_fed_alike : (r s : Relation) → IsTrue (eq_by_cmp relation_cmp r s) → fed_relation r ≡ fed_relation s
relations_fed_alike r s h = ap fed_relation ((relation_Decides r s).0 h)

-- ---- the order of a tuple's entries

pub entry_order_total : IsTotalOrder entry_cmp
entry_order_total = then_total (on_total (λ e. e.0) nat_list_cmp_total) (on_total (λ e. e.1) order_total)

pub entry_order_same : (e f : List ℕ × Val) → entry_cmp e f ≡ Equal → e ≡ f
entry_order_same e f h =
    let both = then_equal (slice_cmp nat_cmp e.0 f.0) (value_cmp e.1 f.1) h in
    λ i. (list_same nat_cmp nat_same e.0 f.0 both.0 i, order_same e.1 f.1 both.1 i)
