-- The parts of groups that stand one group after the other.
use Rattle.std.proofs.Common.{◌≡◌, ◌∙◌, ◌+◌, ◌<◌, ap, arith, sym, refl, subst, true, Bool, ℕ, suc, List, [], ◌∷◌, ◌++◌, drop, filter, get_or, length, map, take}
use Rattle.std.specs.List.{All, flat_map}
use Rattle.std.specs.List.Sorted.{IsStrictlySortedBy}
use Rattle.std.proofs.lemmas.List.{at_drop_more, length-append}
use Rattle.std.proofs.lemmas.List.Elements.{All-contains, All-filter}
use Rattle.td_types.specs.model.Headings.{has_attributes}
use Rattle.td_types.specs.model.Types.{Heading}
use Rattle.td_value.specs.model.Agreement.{agree_on}
use Rattle.td_value.specs.model.Values.{IsAscendingBody, IsTupleOf, Tuple}
use Rattle.td_algebra.specs.code.Lookups.{ArePlacesOf, has_part, part_of, partners_in}
use Rattle.td_algebra.proofs.Lists.{contains_filter, contains_flat_map, contains_map}
use Rattle.td_algebra.proofs.OnNames.{found_on}
use Rattle.td_algebra.proofs.Relations.{All-from_members}

-- no tuples ascend
pub none_ascends : IsAscendingBody []
unfolding IsStrictlySortedBy
none_ascends = tt

-- those of the item at a place, and those of the items after it
pub next_group : {X Y : Type 0} (P : X → List Y) (xs : List X) (i : ℕ) (x : X) → i < length xs → x ≡ get_or xs i x
    → (flat_map P (drop i xs) ≡ P x ++ flat_map P (drop (i + 1) xs)) × (length (flat_map P (drop i xs)) ≡ length (P x) + length (flat_map P (drop (i + 1) xs)))
next_group P xs i x l is =
    let next = at_drop_more (flat_map P) xs i x l ∙ ap (λ y. P y ++ flat_map P (drop (i + 1) xs)) (sym is) in
    (next, ap length next ∙ length-append (P x) (flat_map P (drop (i + 1) xs)))

module _ {Y Z : Type 0} (f : Y → Z) where
  taken : (xs ys : List Y) → take (length xs) (map f (xs ++ ys)) ≡ map f xs
  taken [] ys = refl
  taken (x ∷ xs) ys = ap (λ r. f x ∷ r) (taken xs ys)

  dropped : (xs ys : List Y) → drop (length xs) (map f (xs ++ ys)) ≡ map f ys
  dropped [] ys = refl
  dropped (x ∷ xs) ys = dropped xs ys

  -- what is made of a group stands first in what is made of it and the others
  pub cut_parts : (xs ys : List Y) (left : List Z) (n : ℕ) → left ≡ map f (xs ++ ys) → n ≡ length xs → take n left ≡ map f xs
  cut_parts xs ys left n e many = (λ k. take (many k) (e k)) ∙ taken xs ys

  pub cut_others : (xs ys : List Y) (left : List Z) (n : ℕ) → left ≡ map f (xs ++ ys) → n ≡ length xs → drop n left ≡ map f ys
  cut_others xs ys left n e many = (λ k. drop (many k) (e k)) ∙ dropped xs ys

pub all_mapped : {X Y : Type 0} (Q : Y → Type 0) (f : X → Y) (xs : List X) → All (λ x. Q (f x)) xs → All Q (map f xs)
all_mapped Q f xs all =
    All-from_members Q (map f xs)
    (λ y c. let a = (contains_map f xs y).0 c in
    subst Q a.2 (All-contains (λ x. Q (f x)) xs a.0 all a.1))

-- ---- the rows of the groups

-- each is a row of the look-up
pub grouped_rows : (Q : Tuple → Type 0) (l : List ℕ × List Tuple) (places : List ℕ) (ts : List Tuple) → All Q l.1 → All Q (flat_map (partners_in l places) ts)
grouped_rows Q l places ts all =
    All-from_members Q (flat_map (partners_in l places) ts)
    (λ t c. let a = (contains_flat_map (partners_in l places) ts t).0 c in
    All-contains Q l.1 t all ((contains_filter (has_part l.0 (part_of places a.0)) l.1 t).0 a.2).0)

map_of_each : {X Y : Type 0} (Q : X → Type 0) (f g : X → Y) (xs : List X) → All Q xs → ((x : X) → Q x → f x ≡ g x) → map f xs ≡ map g xs
map_of_each Q f g [] a e = refl
map_of_each Q f g (x ∷ xs) a e = λ i. e x (a 0 x (omega arith)) i ∷ map_of_each Q f g xs (λ k d l. a (suc k) d (omega (arith, l))) e i

-- and the partners of a key are the rows that agree with it on the names
pub by_agreement : {Y : Type 0} (f : List Tuple → Y) (names : List (List ℕ)) (g h : Heading) (ws ts : List Tuple) (places own : List ℕ)
    → has_attributes names g ≡ true → has_attributes names h ≡ true → All (IsTupleOf g) ws → All (IsTupleOf h) ts → ArePlacesOf names g places → ArePlacesOf names h own
    → map (λ w. f (partners_in (own, ts) places w)) ws ≡ map (λ w. f (filter (agree_on names w) ts)) ws
by_agreement f names g h ws ts places own there here keyed headed are_places are_own =
    map_of_each (IsTupleOf g) _ _ ws keyed (λ w p. ap f (found_on names g h w ts places own there here p headed are_places are_own))

-- the parts that the layout makes of them are the projections
pub parts_alike : {Y : Type 0} (f : List Tuple → Y) (Q : Tuple → Type 0) (part other : Tuple → Tuple) (test : Tuple → Tuple → Bool) (ws ts : List Tuple) → All Q ts
    → ((t : Tuple) → Q t → part t ≡ other t) → map (λ w. f (map part (filter (test w) ts))) ws ≡ map (λ w. f (map other (filter (test w) ts))) ws
parts_alike f Q part other test [] ts all e = refl
parts_alike f Q part other test (w ∷ ws) ts all e =
    λ i. f (map_of_each Q part other (filter (test w) ts) (All-filter (test w) Q ts all) e i) ∷ parts_alike f Q part other test ws ts all e i
