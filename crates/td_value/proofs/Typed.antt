-- The type of a value is a type.
use Rattle.std.proofs.Common.{◌≡◌, ℕ, List}
use Rattle.std.specs.Cmp.Lexicographic.{slice_cmp}
use Rattle.std.specs.List.{AllByRecursion}
use Rattle.std.specs.List.Sorted.{IsStrictlySortedBy}
use Rattle.std.specs.Ordering.{nat_cmp}
use Rattle.std.specs.declared.cmp.Ordering.TheVariants.{Less}
use Rattle.td_types.specs.model.Types.{IsBefore, IsHeading}
use Rattle.td_value.specs.laws.Laws.{TypesOfValuesAreTypes}
use Rattle.td_value.specs.model.Values.{boolean, integer, char, user, tuple, relation, Fields, no_fields, field, AreFields, fields_type, tuple_names, unpack_fields}

before : (n : List ℕ) (fs : Fields) → AllByRecursion (λ m. slice_cmp nat_cmp n m ≡ Less) (tuple_names (unpack_fields fs)) → IsBefore n (fields_type fs)
before n no_fields h = tt
before n (field m v fs) h = (h.0, before n fs h.1)

mutual
  unfolding IsStrictlySortedBy

  pub typed : TypesOfValuesAreTypes
  typed (boolean b) p = tt
  typed (integer z) p = tt
  typed (char s) p = tt
  typed (user n ps) p = p.0
  typed (tuple fs) p = fields_typed fs p.0 p.1
  typed (relation h rs) p = p.2

  fields_typed : (fs : Fields) → AreFields fs → IsStrictlySortedBy (slice_cmp nat_cmp) (tuple_names (unpack_fields fs)) → IsHeading (fields_type fs)
  fields_typed no_fields f a = tt
  fields_typed (field n v fs) f a = (f.0, typed v f.1, before n fs a.0, fields_typed fs f.2 a.1)
