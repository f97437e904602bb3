-- The members of a body by number, with what they were, and found by each key (this project's own).
use Rattle.std.specs.Prelude.{◌≡◌, ℕ, ◌<◌, ◌≤◌, Bool, true, List, [], ◌∷◌, ◌++◌, filter, length, map, not, refl, Some}
use Rattle.std.specs.Coded.{Coded, code_by, coded×, coded_list, coded_ℕ}
use Rattle.std.specs.List.{All, slice_get}
use Rattle.td_value.specs.model.Sets.{has, put_in, set_of}
use Rattle.td_value.specs.model.Values.{Relation, Tuple, tuple_cmp}
use Rattle.td_value.specs.code.ValueCode.{relation_code}
use Rattle.td_body.specs.code.KeyIndexes.{IsIndex, agree_at}
use Rattle.td_body.specs.code.KeyParts.{places_from}
use Rattle.td_body.specs.code.Logs.{is_proper, kept_by}
use Rattle.td_body.specs.code.Numbered.{live, repeats, tuple_eq}
use Rattle.td_body.specs.declared.hashed.index.KeyIndex.{KeyIndex}
use Rattle.td_body.specs.declared.hashed.step.Step.{Step}

-- what a body holds, and what it held before each change of which that is kept, the latest last; and the places by which
-- its tuples are found
pub record Members : Type 0 where
  pub relation : Relation
  pub kept : List Relation
  pub places : List (List ℕ)

abbrev pub members_code : Coded Members
members_code =
    code_by (Relation × (List Relation × List (List ℕ))) (coded× relation_code (coded× (coded_list relation_code) (coded_list (coded_list coded_ℕ))))
    (λ m. (m.relation, (m.kept, m.places))) (λ p. record { relation = p.0; kept = p.1.0; places = p.1.1 }) (λ _. refl)

-- ---- sets of tuples

-- the set of the tuples
abbrev pub tuples_of : List Tuple → List Tuple
tuples_of = set_of tuple_cmp

-- a set of tuples with one more
abbrev pub put_tuple : Tuple → List Tuple → List Tuple
put_tuple = put_in tuple_cmp

-- the set without a tuple
abbrev pub without : Tuple → List Tuple → List Tuple
without t = filter (λ u. not (tuple_eq t u))

-- a set without the tuples of one list, and then with those of another
abbrev pub changed_set : List Tuple → List Tuple → List Tuple → List Tuple
changed_set out add ts = tuples_of (filter (λ t. not (has tuple_cmp t out)) ts ++ add)

-- ---- what holds of members

abbrev pub places_in : List KeyIndex → List (List ℕ)
places_in = map (λ (index : KeyIndex). index.places.items)

-- an index keeps how many clashes each kept set has
abbrev pub IsBefore : List Step → List Tuple → List Bool → KeyIndex → Type 0
IsBefore log rows gone index = index.clashes.before.items ≡ kept_by (repeats (agree_at index.places.items)) log rows gone

pub record AreMembers (rows : List Tuple) (gone : List Bool) (fixed alive : ℕ) (before : List ℕ) (indexes : List KeyIndex) (log : List Step) : Type 0 where
  pub marks : length gone ≡ length rows
  pub apart : repeats tuple_eq (live rows gone) ≡ 0
  pub proper : is_proper fixed log rows gone ≡ true
  pub counted : alive ≡ length (live rows gone)
  pub kept : before ≡ kept_by length log rows gone
  pub indexed : All (IsIndex rows gone) indexes
  pub clashes : All (IsBefore log rows gone) indexes
  pub some : 0 < length indexes

-- an index keeps how many clashes each kept set has, and the set as it is
abbrev pub WasBefore : List Step → List Tuple → List Bool → KeyIndex → Type 0
WasBefore log rows gone index =
    index.clashes.before.items ≡ kept_by (repeats (agree_at index.places.items)) log rows gone ++ repeats (agree_at index.places.items) (live rows gone) ∷ []

-- an index that keeps nothing
abbrev pub IsFresh : KeyIndex → Type 0
IsFresh index = index.clashes.before.items ≡ []

-- there are places for each key, and they are the ones at which its names stand among the others
pub record ArePlaced (keys : List (List (List ℕ))) (names : List (List ℕ)) (places : List (List ℕ)) : Type 0 where
  pub many : length keys ≤ length places
  pub placed : (k : ℕ) (key : List (List ℕ)) (ps : List ℕ) → slice_get keys k ≡ Some key → slice_get places k ≡ Some ps → ps ≡ places_from 0 key names
