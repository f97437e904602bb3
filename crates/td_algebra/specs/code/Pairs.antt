-- The tuples of pairs of tuples.
use Rattle.std.specs.Prelude.{ℕ, not, List, ◌++◌, filter, map}
use Rattle.std.specs.List.{flat_map}
use Rattle.td_types.specs.model.Headings.{has_attribute, has_name}
use Rattle.td_types.specs.model.Types.{Heading}
use Rattle.td_value.specs.model.Values.{Relation, Tuple, tuple_names, tuple_of}
use Rattle.td_value.specs.code.Views.{values_of}
use Rattle.td_algebra.specs.code.Layouts.{AreInRange, Sources, placed_tuple, sources_outside}
use Rattle.td_algebra.specs.model.Operators.{are_partners}

-- where the values stand of a pair's tuple: those of the first but for what is left out, and those that it lacks of the second
abbrev pub pair_sources : Heading → ℕ → Heading → ℕ → Heading → Sources
pair_sources left_out start g other_start h = sources_outside left_out start g ++ sources_outside g other_start h

-- the layout's places stand in the values of the pair
abbrev pub IsPaired : Sources → Tuple → Tuple → Type 0
IsPaired layout t u = AreInRange layout (values_of t ++ values_of u)

-- the tuple of the layout's names with the values at their places in those of the pair
abbrev pub pair_tuple : Sources → Tuple → Tuple → Tuple
pair_tuple layout t u = placed_tuple layout (values_of t ++ values_of u)

-- the tuples of each with each of its partners
abbrev pub pairs_with : (Tuple → List Tuple) → (Tuple → Tuple → Tuple) → List Tuple → List Tuple
pairs_with partners f ts = flat_map (λ t. map (f t) (partners t)) ts

-- the entries of a tuple but for what is left out, and those of another that it lacks
abbrev pub pair_entries : Heading → Tuple → Tuple → Tuple
pair_entries left_out t u =
    filter (λ e. not (has_attribute e.0 left_out)) t ++ filter (λ e. not (has_name e.0 (tuple_names t))) u

-- the tuple of a pair
abbrev pub paired_tuple : Heading → Tuple → Tuple → Tuple
paired_tuple left_out t u = tuple_of (pair_entries left_out t u)

-- the tuples of each of a relation's tuples with each of its partners in another
abbrev pub partners_paired : Heading → Relation → Relation → List Tuple
partners_paired left_out r s =
    pairs_with (λ t. filter (are_partners r s t) s.body) (paired_tuple left_out) r.body
