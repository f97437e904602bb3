-- Headings are finite maps from names to types (Tutorial D's), kept as the list of their attributes in name order.
use Rattle.std.specs.Prelude.{◌≡◌, ℕ, Bool, true, false, not, ◌&&◌, List, [], ◌∷◌, filter, fold, map, option_map, Option, None, Some, is_some, if◌then◌else◌}
use Rattle.std.specs.List.{list_all, list_any, prefix_len, slice_get}
use Rattle.std.specs.Cmp.Lexicographic.{slice_cmp}
use Rattle.std.specs.Ordering.{eq_by_cmp, is_lt, nat_cmp}
use Rattle.std.specs.FinMap.Entries.{put}
use Rattle.td_tree.specs.declared.cause.Cause.TheVariants as causes
use Rattle.td_tree.specs.model.Outcomes.{Outcome, value_if}
use Rattle.td_types.specs.model.Types.{Type', Attribute, Heading, attribute_names, same_name, type_at, type_cmp}

-- the heading gives each name the type that `types` gives it
abbrev pub IsMap : Heading → (List ℕ → Option Type') → Type 0
IsMap heading types = (name : List ℕ) → type_at name heading ≡ types name

-- whether the heading has an attribute of the name
abbrev pub has_attribute : List ℕ → Heading → Bool
has_attribute name heading = is_some (type_at name heading)

-- ---- where a name stands

-- how many attributes stand before the name
abbrev pub place_of : List ℕ → Heading → ℕ
place_of name = prefix_len (λ a. is_lt (slice_cmp nat_cmp a.0 name))

-- the place is the name's, and there it has its type
abbrev pub IsFound : List ℕ → Heading → ℕ → Type 0
IsFound name heading place =
    (place ≡ place_of name heading) × (option_map (λ a. a.1) (slice_get heading place) ≡ type_at name heading)

-- the place is where the name would stand, and it has no type
abbrev pub IsMissing : List ℕ → Heading → ℕ → Type 0
IsMissing name heading place = (place ≡ place_of name heading) × (type_at name heading ≡ None)

-- ---- what each operation asks

-- whether the name is one of the names
abbrev pub has_name : List ℕ → List (List ℕ) → Bool
has_name name = list_any (λ n. same_name n name)

-- whether no name comes twice
abbrev pub are_distinct : List (List ℕ) → Bool
are_distinct [] = true
are_distinct (n ∷ ns) = not (has_name n ns) && are_distinct ns

-- whether the heading has an attribute of each name
abbrev pub has_attributes : List (List ℕ) → Heading → Bool
has_attributes names heading = list_all (λ n. has_attribute n heading) names

-- whether the heading has a projection on the names: each is there, and none comes twice
abbrev pub has_projection : List (List ℕ) → Heading → Bool
has_projection names heading = has_attributes names heading && are_distinct names

-- whether the type that was found, if one was, is the type
abbrev pub is_type_or_none : Type' → Option Type' → Bool
is_type_or_none t None = true
is_type_or_none t (Some s) = eq_by_cmp type_cmp s t

-- whether no name has two types in two headings
abbrev pub agree : Heading → Heading → Bool
agree g h = list_all (λ a. is_type_or_none a.1 (type_at a.0 h)) g

-- whether two headings have no common attribute
abbrev pub have_no_common : Heading → Heading → Bool
have_no_common g h = list_all (λ a. not (has_attribute a.0 h)) g

-- whether each attribute of a heading is one of another, with its type
abbrev pub is_part : Heading → Heading → Bool
is_part g h = list_all (λ a. has_attribute a.0 h && is_type_or_none a.1 (type_at a.0 h)) g

-- whether there are two attributes, of one type
abbrev pub is_closable : Heading → Bool
is_closable (a ∷ b ∷ []) = eq_by_cmp type_cmp a.1 b.1
is_closable _ = false

-- ---- renaming, by pairs of an old and a new name

-- the name that the renamings give a name
abbrev pub new_name : List (List ℕ × List ℕ) → List ℕ → List ℕ
new_name [] name = name
new_name (r ∷ rs) name = if same_name r.0 name then r.1 else new_name rs name

-- each attribute under its new name, all at once
abbrev pub renamed_attributes : List (List ℕ × List ℕ) → Heading → Heading
renamed_attributes renamings = map (λ a. (new_name renamings a.0, a.1))

-- the names that the attributes have then
abbrev pub new_names : List (List ℕ × List ℕ) → Heading → List (List ℕ)
new_names renamings heading = attribute_names (renamed_attributes renamings heading)

-- whether each old name is there, none comes twice, and the new names of the attributes are distinct
abbrev pub can_rename : List (List ℕ × List ℕ) → Heading → Bool
can_rename renamings heading =
    has_attributes (map (λ r. r.0) renamings) heading && are_distinct (map (λ r. r.0) renamings)
    && are_distinct (new_names renamings heading)

-- ---- the headings that the operations make

-- the attribute added in its place, in name order; where the name is there, its type is the new one
abbrev pub with_attribute : Heading → Attribute → Heading
with_attribute heading a = put (slice_cmp nat_cmp) a.0 a.1 heading

-- the heading that the attributes make, one put in its place after another
abbrev pub heading_from : List Attribute → Heading
heading_from = fold with_attribute []

-- the attributes of every other name
abbrev pub without_attribute : List ℕ → Heading → Heading
without_attribute name = filter (λ a. not (same_name a.0 name))

-- the attributes of those names
abbrev pub projection : List (List ℕ) → Heading → Heading
projection names = filter (λ a. has_name a.0 names)

-- the attributes of a heading that another lacks
abbrev pub outside : Heading → Heading → Heading
outside part heading = filter (λ a. not (has_attribute a.0 part)) heading

-- the attributes of one heading whose names the other has too
abbrev pub common_part : Heading → Heading → Heading
common_part g h = filter (λ a. has_attribute a.0 h) g

-- the attribute added, unless there is one of its name
abbrev pub add_missing : Heading → Attribute → Heading
add_missing heading a = if has_attribute a.0 heading then heading else with_attribute heading a

-- the attributes of either
abbrev pub heading_union : Heading → Heading → Heading
heading_union = fold add_missing

-- ---- what each operation answers: a heading, else the cause HEADING (the chapter's; the cause is this project's own)

-- the heading of attributes, no two of one name
abbrev pub made_heading : List Attribute → Outcome Heading
made_heading attributes = value_if (are_distinct (attribute_names attributes)) (heading_from attributes) causes.Heading

-- the heading with one more attribute, of a name that it lacks
abbrev pub extended_heading : Heading → Attribute → Outcome Heading
extended_heading heading a =
    value_if (not (has_attribute a.0 heading)) (with_attribute heading a) causes.Heading

-- the heading without an attribute that it has
abbrev pub reduced_heading : List ℕ → Heading → Outcome Heading
reduced_heading name heading =
    value_if (has_attribute name heading) (without_attribute name heading) causes.Heading

-- the heading projected on distinct names that it has
abbrev pub projected_heading : List (List ℕ) → Heading → Outcome Heading
projected_heading names heading =
    value_if (has_projection names heading) (projection names heading) causes.Heading

-- the attributes that two headings have in common, where they agree
abbrev pub common_heading : Heading → Heading → Outcome Heading
common_heading g h = value_if (agree g h) (common_part g h) causes.Heading

-- the attributes of either of two headings that agree
abbrev pub united_heading : Heading → Heading → Outcome Heading
united_heading g h = value_if (agree g h) (heading_union g h) causes.Heading

-- the heading with its attributes renamed, in the order of their new names
abbrev pub renamed_heading : List (List ℕ × List ℕ) → Heading → Outcome Heading
renamed_heading renamings heading =
    value_if (can_rename renamings heading) (heading_union [] (renamed_attributes renamings heading)) causes.Heading

-- ---- the type that each name has in the heading that is answered

-- with one more attribute
abbrev pub types_with : Heading → Attribute → List ℕ → Option Type'
types_with heading a n = if same_name a.0 n then Some a.1 else type_at n heading

-- without the attribute of a name
abbrev pub types_without : List ℕ → Heading → List ℕ → Option Type'
types_without name heading n = if same_name name n then None else type_at n heading

-- of those of the names alone
abbrev pub types_among : List (List ℕ) → Heading → List ℕ → Option Type'
types_among names heading n = if has_name n names then type_at n heading else None

-- of what both headings have
abbrev pub types_in_both : Heading → Heading → List ℕ → Option Type'
types_in_both g h n = if has_attribute n h then type_at n g else None

-- of what the other heading lacks
abbrev pub types_outside : Heading → Heading → List ℕ → Option Type'
types_outside part heading n = if has_attribute n part then None else type_at n heading

-- of what either heading has
abbrev pub types_in_either : Heading → Heading → List ℕ → Option Type'
types_in_either g h n = if has_attribute n g then type_at n g else type_at n h
