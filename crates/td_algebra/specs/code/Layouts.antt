-- Where the values of a result's tuples come from: each name with a place in the values of one operand's tuple followed by
-- those of the other's (this project's own).
use Rattle.std.specs.Prelude.{◌≡◌, ℕ, ◌+◌, ◌<◌, List, [], ◌∷◌, ◌++◌, length, Option, None, Some, false, get_or, if◌then◌else◌, map}
use Rattle.std.specs.Cmp.Lexicographic.{slice_cmp}
use Rattle.std.specs.List.{All, slice_get}
use Rattle.std.specs.List.Sorted.{IsStrictlySortedBy}
use Rattle.std.specs.Ordering.{nat_cmp}
use Rattle.td_types.specs.model.Headings.{has_attribute}
use Rattle.td_types.specs.model.Types.{Heading}
use Rattle.td_value.specs.model.Values.{Val, Tuple, boolean, tuple_of}
use Rattle.td_value.specs.code.Blocks.{Making}

-- names, each with the place of its value
abbrev pub Sources : Type 0
Sources = List (List ℕ × ℕ)

-- the names
abbrev pub source_names : Sources → List (List ℕ)
source_names = map (λ s. s.0)

-- the entry of a name with its value, where it has one, before the others
abbrev pub with_entry : List ℕ → Option Val → Tuple → Tuple
with_entry name None es = es
with_entry name (Some v) es = (name, v) ∷ es

-- the entries of the names with the values at their places
abbrev pub entries_taken : Sources → List Val → Tuple
entries_taken [] vs = []
entries_taken (s ∷ ss) vs = with_entry s.0 (slice_get vs s.1) (entries_taken ss vs)

-- each place has a value
abbrev pub AreInRange : Sources → List Val → Type 0
AreInRange sources vs = All (λ s. s.1 < length vs) sources

-- the name with its place, unless the part has an attribute of the name
abbrev pub source_unless : Heading → List ℕ → ℕ → Sources
source_unless part name place = if has_attribute name part then [] else (name, place) ∷ []

-- the names of a heading's attributes with their places, counted from a start; but for those that the part has too
abbrev pub sources_outside : Heading → ℕ → Heading → Sources
sources_outside part start [] = []
sources_outside part start (a ∷ attributes) =
    if has_attribute a.0 part
    then sources_outside part (start + 1) attributes
    else (a.0, start) ∷ sources_outside part (start + 1) attributes

-- the names with their places, counted from a start
abbrev pub numbered_sources : ℕ → List (List ℕ) → Sources
numbered_sources start [] = []
numbered_sources start (n ∷ ns) = (n, start) ∷ numbered_sources (start + 1) ns

-- the tuple of what is taken from the values
abbrev pub placed_tuple : Sources → List Val → Tuple
placed_tuple sources vs = tuple_of (entries_taken sources vs)

-- the tuple is the one of what is taken from some values
abbrev pub IsMade : Sources → Tuple → Type 0
IsMade sources t = (vs : List Val) × AreInRange sources vs × (t ≡ placed_tuple sources vs)

-- the values at the places, in the order of the sources
abbrev pub placed_values : Sources → List Val → List Val
placed_values sources vs = map (λ s. get_or vs s.1 (boolean false)) sources

-- tuples of the names, which ascend, and each is one of what is taken from some values
pub record IsLaidOut (sources : Sources) (m : Making) : Type 0 where
  pub names : m.names ≡ source_names sources
  pub ascending : IsStrictlySortedBy (slice_cmp nat_cmp) (source_names sources)
  pub made : All (IsMade sources) m.tuples

-- the names of a heading with their places, but for those that the part has too; and then more names
abbrev pub sources_with : Heading → Heading → List (List ℕ) → Sources
sources_with part heading names = sources_outside part 0 heading ++ numbered_sources (length heading) names
