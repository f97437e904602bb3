-- Each value maps to a key of its own: so it has a code, and its order is total.
use Rattle.std.specs.Prelude.{◌≡◌, ℕ, zero, suc, ℤ, pos, negsuc, Bool, true, false, List, [], ◌∷◌, refl}
use Rattle.std.proofs.Common.{ap, ◌∙◌}
use Rattle.std.specs.Coded.{Coded, code_by, coded×, coded_list, coded_ℕ}
use Rattle.td_types.specs.code.Keys.{Key, key, Keys, no_keys, more, key_code}
use Rattle.td_types.specs.model.Types.{Heading}
use Rattle.td_types.specs.code.TypeCode.{attrs_keys, heading_code}
use Rattle.td_types.specs.code.TypeOrder.{attrs_from_keys, attrs_from_keys-attrs_keys}
use Rattle.td_value.specs.model.Values.{Val, boolean, integer, char, user, tuple, relation, Parts, no_parts, part, Fields, no_fields, field, Rows, no_rows, row, Tuple, Relation, UserValue, pack_fields, unpack_fields, pack_rows, unpack_rows}

-- FALSE and TRUE as numbers, in their order
abbrev pub bit : Bool → ℤ
bit false = pos 0
bit true = pos 1

abbrev mutual
  pub val_key : Val → Key
  val_key (boolean b) = key 0 (bit b) [] no_keys
  val_key (integer z) = key 1 z [] no_keys
  val_key (char s) = key 2 (pos 0) s no_keys
  val_key (user n ps) = key 3 (pos 0) n (parts_keys ps)
  val_key (tuple fs) = key 4 (pos 0) [] (fields_keys fs)
  val_key (relation h rs) = key 5 (pos 0) [] (more (key 0 (pos 0) [] (attrs_keys h)) (rows_keys rs))

  pub parts_keys : Parts → Keys
  parts_keys no_parts = no_keys
  parts_keys (part v ps) = more (val_key v) (parts_keys ps)

  pub fields_keys : Fields → Keys
  fields_keys no_fields = no_keys
  fields_keys (field n v fs) = more (key 0 (pos 0) n no_keys) (more (val_key v) (fields_keys fs))

  pub rows_keys : Rows → Keys
  rows_keys no_rows = no_keys
  rows_keys (row fs rs) = more (key 0 (pos 0) [] (fields_keys fs)) (rows_keys rs)

-- ---- and back

-- the truth value of such a number
abbrev pub unbit : ℤ → Bool
unbit (pos zero) = false
unbit (pos (suc n)) = true
unbit (negsuc n) = false

-- the parts of a key
abbrev pub bytes_in : Key → List ℕ
bytes_in (key a x s ks) = s

abbrev pub kids_in : Key → Keys
kids_in (key a x s ks) = ks

abbrev pub first_in : Keys → Keys
first_in no_keys = no_keys
first_in (more k ks) = kids_in k

abbrev mutual
  pub val_from : Key → Val
  val_from (key zero x s ks) = boolean (unbit x)
  val_from (key (suc zero) x s ks) = integer x
  val_from (key (suc (suc zero)) x s ks) = char s
  val_from (key (suc (suc (suc zero))) x s ks) = user s (parts_from ks)
  val_from (key (suc (suc (suc (suc zero)))) x s ks) = tuple (fields_from ks)
  val_from (key (suc (suc (suc (suc (suc n))))) x s no_keys) = boolean false
  val_from (key (suc (suc (suc (suc (suc n))))) x s (more k ks)) = relation (attrs_from_keys (kids_in k)) (rows_from ks)

  pub parts_from : Keys → Parts
  parts_from no_keys = no_parts
  parts_from (more k ks) = part (val_from k) (parts_from ks)

  pub fields_from : Keys → Fields
  fields_from no_keys = no_fields
  fields_from (more k no_keys) = no_fields
  fields_from (more k (more l ks)) = field (bytes_in k) (val_from l) (fields_from ks)

  pub rows_from : Keys → Rows
  rows_from no_keys = no_rows
  rows_from (more (key a x s fs) ks) = row (fields_from fs) (rows_from ks)

pub unbit_bit : (b : Bool) → unbit (bit b) ≡ b
unbit_bit false = refl
unbit_bit true = refl

mutual
  pub val_back : (v : Val) → val_from (val_key v) ≡ v
  val_back (boolean b) = ap boolean (unbit_bit b)
  val_back (integer z) = refl
  val_back (char s) = refl
  val_back (user n ps) = ap (user n) (parts_back ps)
  val_back (tuple fs) = ap tuple (fields_back fs)
  val_back (relation h rs) = λ i. relation (attrs_from_keys-attrs_keys h i) (rows_back rs i)

  pub parts_back : (ps : Parts) → parts_from (parts_keys ps) ≡ ps
  parts_back no_parts = refl
  parts_back (part v ps) = λ i. part (val_back v i) (parts_back ps i)

  pub fields_back : (fs : Fields) → fields_from (fields_keys fs) ≡ fs
  fields_back no_fields = refl
  fields_back (field n v fs) = λ i. field n (val_back v i) (fields_back fs i)

  pub rows_back : (rs : Rows) → rows_from (rows_keys rs) ≡ rs
  rows_back no_rows = refl
  rows_back (row fs rs) = λ i. row (fields_back fs i) (rows_back rs i)

pub unpack_pack_fields : (es : Tuple) → unpack_fields (pack_fields es) ≡ es
unpack_pack_fields [] = refl
unpack_pack_fields (e ∷ es) = ap (λ r. e ∷ r) (unpack_pack_fields es)

pub unpack_pack_rows : (ts : List Tuple) → unpack_rows (pack_rows ts) ≡ ts
unpack_pack_rows [] = refl
unpack_pack_rows (t ∷ ts) = λ i. unpack_pack_fields t i ∷ unpack_pack_rows ts i

-- the codes by which a proof tells apart values, tuples, relations and user values
abbrev pub val_code : Coded Val
val_code = code_by Key key_code val_key val_from val_back

-- the key of a tuple
abbrev pub entries_key : Tuple → Key
entries_key es = key 0 (pos 0) [] (fields_keys (pack_fields es))

abbrev pub entries_from : Key → Tuple
entries_from k = unpack_fields (fields_from (kids_in k))

pub entries_back : (es : Tuple) → entries_from (entries_key es) ≡ es
entries_back es = ap unpack_fields (fields_back (pack_fields es)) ∙ unpack_pack_fields es

abbrev pub tuple_code : Coded Tuple
tuple_code = code_by Key key_code entries_key entries_from entries_back

abbrev pub relation_code : Coded Relation
relation_code = code_by (Heading × List Tuple) (coded× heading_code (coded_list tuple_code)) (λ r. (r.heading, r.body)) (λ p. record { heading = p.0; body = p.1 }) (λ _. refl)

abbrev pub user_value_code : Coded UserValue
user_value_code = code_by (List ℕ × List Val) (coded× (coded_list coded_ℕ) (coded_list val_code)) (λ u. (u.name, u.components)) (λ p. record { name = p.0; components = p.1 }) (λ _. refl)
