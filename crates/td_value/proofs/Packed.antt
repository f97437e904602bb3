-- The fields and the rows of a value are those of the entries and of the tuples that they make.
use Rattle.std.proofs.Common.{◌≡◌, ap, refl}
use Rattle.td_value.specs.model.Values.{Fields, Rows, field, no_fields, no_rows, pack_fields, pack_rows, row, unpack_fields, unpack_rows}

pub pack_unpack_fields : (fs : Fields) → pack_fields (unpack_fields fs) ≡ fs
pack_unpack_fields no_fields = refl
pack_unpack_fields (field n v fs) = ap (field n v) (pack_unpack_fields fs)

pub pack_unpack_rows : (rs : Rows) → pack_rows (unpack_rows rs) ≡ rs
pack_unpack_rows no_rows = refl
pack_unpack_rows (row fs rs) = λ i. row (pack_unpack_fields fs i) (pack_unpack_rows rs i)
