-- A hashed body: its members, each earlier ones that a large change put aside, and what all of them keep (this project's own).
use Rattle.std.specs.Prelude.{◌≡◌, ℕ, List, [], ◌∷◌, ◌++◌, length}
use Rattle.std.specs.List.{All, flat_map}
use Rattle.td_types.specs.model.Types.{attribute_names}
use Rattle.td_value.specs.model.Values.{Relation}
use Rattle.td_body.specs.model.Bodies.{HaveOneHeading}
use Rattle.td_body.specs.code.Members.{ArePlaced, Members}

-- what members kept and, last, what they held
abbrev pub held_by : Members → List Relation
held_by m = m.kept ++ m.relation ∷ []

-- what is kept: what was held by those that were put aside, and what the present ones keep
abbrev pub kept_with_aside : List Members → Members → List Relation
kept_with_aside aside m = flat_map held_by aside ++ m.kept

-- members are hashed by the places of the keys' names, or by none
abbrev pub IsPlacedFor : List (List (List ℕ)) → Members → Type 0
IsPlacedFor keys m = ArePlaced keys (attribute_names m.relation.heading) m.places

-- all members are hashed for the keys, what is kept has the heading of what is there, and it is counted
pub record IsHashBody (keys : List (List (List ℕ))) (m : Members) (aside : List Members) (count : ℕ) : Type 0 where
  pub counted : count ≡ length (kept_with_aside aside m)
  pub headings : HaveOneHeading m.relation (kept_with_aside aside m)
  pub placed : IsPlacedFor keys m
  pub placed_aside : All (IsPlacedFor keys) aside
