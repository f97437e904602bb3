-- The same of the code's attributes, and what a loop over them leaves.
use Rattle.std.proofs.Common.{fold, ◌≡◌, ℕ, ◌≤◌, length, List, [], ◌∷◌, ◌++◌, Bool, false, sym, ap, ◌∙◌, take, drop, arith, Option, None, Some}
use Rattle.std.specs.Prelude.{is_some, option_map}
use Rattle.std.specs.Ordering.{is_lt}
use Rattle.std.specs.List.{filter, insert, prefix_len, take-map, drop-map}
use Rattle.std.proofs.lemmas.List.{append-nil, map-append, length-map, drop_all}
use Rattle.std.proofs.lemmas.List.Sums.{prefix_len-le-length}
use Rattle.td_types.specs.declared.heading.Attribute as Ty
use Rattle.td_types.specs.model.Headings.{add_missing, with_attribute}
use Rattle.td_types.proofs.HeadingLaws.{name_cmp, insert-with}
use Rattle.td_types.specs.code.Views.{attribute_view, heading_view, type_view}
use Rattle.td_types.specs.model.Types.{Type', Attribute, Heading, type_at}

-- an attribute of the code inserted at the place of its name is put in its place
pub attributes_of-insert : (items : List Ty.Attribute) (h : Heading) → heading_view items ≡ h → (a : Ty.Attribute) (place : ℕ)
    → place ≡ prefix_len (λ b. is_lt (name_cmp b.0 a.name)) h → is_some (type_at a.name h) ≡ false
    → heading_view (insert items place a) ≡ with_attribute h (a.name, type_view a.ty)
attributes_of-insert items h is a place at none =
    map-append attribute_view (take place items) (a ∷ drop place items)
    ∙ rw (← take-map attribute_view place items, ← drop-map attribute_view place items, is, at) (insert-with a.name (type_view a.ty) h none)

-- the place of a name is within the list
pub place_within : (items : List Ty.Attribute) (h : Heading) → heading_view items ≡ h → (p : Attribute → Bool) (place : ℕ) → place ≡ prefix_len p h → place ≤ length items
place_within items h is p place at = omega (arith, prefix_len-le-length p h, ap length is, length-map items attribute_view)

-- what a filter has kept once it is past the last attribute
pub kept_all : (items : List Ty.Attribute) (i : ℕ) (p : Attribute → Bool) (xs ys : Heading) → length items ≤ i → xs ++ filter p (heading_view (drop i items)) ≡ ys → xs ≡ ys
kept_all items i p xs ys past e =
    let none : drop i items ≡ [] = drop_all i items past in
    let kept = rw none at e in
    sym (append-nil xs) ∙ kept

-- what has been added once past the last attribute
pub added_all : (items : List Ty.Attribute) (i : ℕ) (read : List Ty.Attribute → Heading) (u r : Heading) → read [] ≡ [] → length items ≤ i → fold add_missing u (read (drop i items)) ≡ r → u ≡ r
added_all items i read u r nothing past e =
    let none : drop i items ≡ [] = drop_all i items past in
    rw (none, nothing) at e

-- a look-up in the code finds an attribute where the map has one
pub found : {A : Type 0} (f : A → Type') (o : Option A) (t : Option Type') → option_map f o ≡ t → is_some t ≡ is_some o
found f None t e = ap is_some (sym e)
found f (Some a) t e = ap is_some (sym e)
