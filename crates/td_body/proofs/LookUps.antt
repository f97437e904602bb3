-- What hashed members are asked of a key.
use Rattle.std.proofs.Common.{◌≡◌, ◌∙◌, ◌+◌, ◌<◌, ◌∷◌, ℕ, Bool, true, false, cond, List, [], ap, arith, filter, get_or, length, refl, subst, sym}
use Rattle.std.specs.Prelude.{IfSome, Option, Some}
use Rattle.std.specs.List.{All, Contains, slice_get}
use Rattle.std.proofs.lemmas.Option.{slice_get-get_or}
use Rattle.std.proofs.lemmas.List.{length-map}
use Rattle.std.proofs.lemmas.List.Elements.{All-contains}
use Rattle.std.proofs.lemmas.List.Kept.{IsStrictlySortedBy-filter}
use Rattle.td_types.specs.model.Headings.{has_name, projection}
use Rattle.td_types.specs.model.Types.{Heading, attribute_names}
use Rattle.td_value.specs.model.Agreement.{agree_on}
use Rattle.td_value.specs.model.Sets.{has, set_of}
use Rattle.td_value.specs.model.Values.{HaveSameMembers, IsRelation, IsTupleOf, Relation, Tuple, heading_of, tuple_cmp, tuple_names}
use Rattle.td_value.specs.code.Views.{values_of}
use Rattle.td_value.proofs.Members.{contained, found}
use Rattle.td_algebra.proofs.Lists.{contains_filter}
use Rattle.td_algebra.proofs.Relations.{All-from_members, rows_ascend, rows_headed}
use Rattle.td_body.specs.model.Bodies.{key_holds}
use Rattle.td_body.specs.code.Hashes.{with_part}
use Rattle.td_body.specs.code.HashBodies.{IsPlacedFor}
use Rattle.td_body.specs.code.KeyParts.{apart_at, places_from}
use Rattle.td_body.specs.code.Members.{Members}
use Rattle.td_body.proofs.KeyParts.{apart_at-key}
use Rattle.td_body.proofs.Parts.{filter-agreeing, names-heading}
use Rattle.td_body.proofs.TupleSets.{ascends-set, has-set, same_tuples}

-- what holds if something is there, of what is there
pub at_some : {X : Type 0} (P : X → Type 0) (o : Option X) (x : X) → IfSome o P → o ≡ Some x → P x
at_some P o x h e = subst (λ p. IfSome p P) e h

-- there are as many places as attributes of the key
places_count : (i : ℕ) (key : List (List ℕ)) (h : Heading) → length (places_from i key (attribute_names h)) ≡ length (projection key h)
places_count i key [] = refl
places_count i key (a ∷ h) = by_test (places_count (i + 1) key h) (has_name a.0 key)
  where
    by_test : length (places_from (i + 1) key (attribute_names h)) ≡ length (projection key h) → (b : Bool)
        → length (cond b (i ∷ places_from (i + 1) key (attribute_names h)) (places_from (i + 1) key (attribute_names h))) ≡ length (cond b (a ∷ projection key h) (projection key h))
    by_test e true = omega (arith, e)
    by_test e false = e

pub part_count : (key : List (List ℕ)) (h : Heading) (part : Tuple) → heading_of part ≡ projection key h
    → length (places_from 0 key (attribute_names h)) ≡ length (values_of part)
part_count key h part e =
    places_count 0 key h ∙ sym (ap length e) ∙ length-map part _ ∙ sym (length-map part (λ v. v.1))

-- the tuples of a heading have its names
names_of_heading : (h : Heading) (ts : List Tuple) → All (IsTupleOf h) ts → All (λ t. tuple_names t ≡ attribute_names h) ts
names_of_heading h ts all k d low = sym (names-heading (get_or ts k d)) ∙ ap attribute_names (all k d low).1

same_tests : (ss ts : List Tuple) → HaveSameMembers ss ts → (t : Tuple) → has tuple_cmp t ss ≡ has tuple_cmp t ts
same_tests ss ts same t = one (has tuple_cmp t ss) (has tuple_cmp t ts) (λ h. found t ts ((same t).0 (contained t ss h))) (λ h. found t ss ((same t).1 (contained t ts h)))
  where
    one : (b c : Bool) → (b ≡ true → c ≡ true) → (c ≡ true → b ≡ true) → b ≡ c
    one true c f g = sym (f refl)
    one false true f g = g refl
    one false false f g = refl

module _ (r : Relation) (valid : IsRelation r) (key : List (List ℕ)) where
  abbrev places : List ℕ
  places = places_from 0 key (attribute_names r.heading)

  -- no two tuples tie at the places of a key exactly where it holds
  pub apart_held : apart_at places r.body ≡ key_holds key r.body
  apart_held = apart_at-key key (attribute_names r.heading) r.body (names_of_heading r.heading r.body (rows_headed r valid))

  module _ (part : Tuple) (is : heading_of part ≡ projection key r.heading) where
    with_part-agreeing : with_part places (values_of part) r.body ≡ filter (agree_on key part) r.body
    with_part-agreeing =
        filter-agreeing key r.heading part is (attribute_names r.heading) r.body (rows_headed r valid) (names_of_heading r.heading r.body (rows_headed r valid))

    module _ (tuples : List Tuple) (same : HaveSameMembers tuples (with_part places (values_of part) r.body)) where
      -- what is found are tuples of the heading
      pub found_headed : All (IsTupleOf r.heading) tuples
      found_headed =
          All-from_members (IsTupleOf r.heading) tuples
          (λ t c. All-contains (IsTupleOf r.heading) r.body t (rows_headed r valid) ((contains_filter (agree_on key part) r.body t).0 (subst (λ ts. Contains ts t) with_part-agreeing ((same t).0 c))).0)

      -- its set are the tuples that agree with the part
      pub found_agreeing : set_of tuple_cmp tuples ≡ filter (agree_on key part) r.body
      found_agreeing =
          same_tuples (set_of tuple_cmp tuples) (filter (agree_on key part) r.body) (ascends-set tuples)
          (IsStrictlySortedBy-filter tuple_cmp (agree_on key part) r.body (rows_ascend r valid))
          (λ t. has-set t tuples ∙ same_tests tuples (with_part places (values_of part) r.body) same t ∙ ap (has tuple_cmp t) with_part-agreeing)

-- the names of the key of a number
abbrev pub names_at : List (List (List ℕ)) → ℕ → List (List ℕ)
names_at keys k = get_or keys k []

pub key_at : (keys : List (List (List ℕ))) (k : ℕ) → k < length keys → slice_get keys k ≡ Some (names_at keys k)
key_at keys k low = slice_get-get_or keys k [] low

-- the places of the key of a number
pub places_at : (m : Members) (keys : List (List (List ℕ))) (k : ℕ) → IsPlacedFor keys m → k < length keys
    → slice_get m.places k ≡ Some (places_from 0 (names_at keys k) (attribute_names m.relation.heading))
places_at m keys k placed low =
    let there : slice_get m.places k ≡ Some (get_or m.places k []) = slice_get-get_or m.places k [] (omega (arith, low, placed.many)) in
    there ∙ ap Some (placed.placed k (names_at keys k) (get_or m.places k []) (key_at keys k low) there)
