-- The tuples of a relation have the names of the first.
use Rattle.std.proofs.Common.{◌≡◌, List, get_or}
use Rattle.std.specs.List.{All, slice_get}
use Rattle.std.specs.Prelude.{Some}
use Rattle.std.proofs.lemmas.List.Elements.{All-contains_itself}
use Rattle.std.proofs.lemmas.Option.{get_or_from_slice_get, slice_get_within}
use Rattle.td_types.specs.model.Types.{Heading}
use Rattle.td_value.specs.model.Values.{Tuple, IsTupleOf, tuple_names}
use Rattle.td_value.proofs.Rows.{HaveSameNames-from}

pub names_all : (h : Heading) (rows : List Tuple) (first : Tuple) → All (IsTupleOf h) rows → slice_get rows 0 ≡ Some first → All (λ t. tuple_names t ≡ tuple_names first) rows
names_all h rows first headed is = λ k d l.
    HaveSameNames-from h rows headed (get_or rows k d) first (All-contains_itself rows k d l) (0, slice_get_within rows 0 first is, get_or_from_slice_get rows 0 first first is)
