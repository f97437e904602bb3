-- Bodies of relvars: what a change makes of one, which tuples agree on a key, and when a key holds (Tutorial D's).
use Rattle.std.specs.Prelude.{◌≡◌, ℕ, Bool, true, not, ◌&&◌, List, [], ◌∷◌, filter}
use Rattle.std.specs.List.{All, Contains, list_any}
use Rattle.td_value.specs.model.Agreement.{agree_on, AgreeOn}
use Rattle.td_value.specs.model.Values.{Tuple, Relation, relation_view}
use Rattle.td_algebra.specs.model.Operators.{difference, union}

-- a relation without the tuples of one, and then with those of another
abbrev pub after_change : Relation → Relation → Relation → Relation
after_change out add r = union (difference r out) add

-- the tuples of a relation that agree with a part on the names
abbrev pub agreeing : List (List ℕ) → Tuple → Relation → Relation
agreeing names part r = relation_view r.heading (filter (agree_on names part) r.body)

-- whether no two of the tuples agree on the names of the key
abbrev pub key_holds : List (List ℕ) → List Tuple → Bool
key_holds key [] = true
key_holds key (t ∷ ts) = not (list_any (agree_on key t) ts) && key_holds key ts

-- the key holds: two members that agree on it are one
abbrev pub KeyHolds : List (List ℕ) → List Tuple → Type 0
KeyHolds key tuples = (s t : Tuple) → Contains tuples s → Contains tuples t → AgreeOn key s t → s ≡ t

-- a body as it is seen: its relation, the names of its keys, and each relation that it was before a change and keeps, the
-- latest last
pub record BodyView : Type 0 where
  pub relation : Relation
  pub keys : List (List (List ℕ))
  pub kept : List Relation

-- what is kept has the heading of what is there
abbrev pub HaveOneHeading : Relation → List Relation → Type 0
HaveOneHeading r kept = All (λ (s : Relation). s.heading ≡ r.heading) kept
