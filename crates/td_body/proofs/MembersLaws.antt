-- Members of a body: what holds of all of some items, and the places of keys.
use Rattle.std.proofs.Common.{◌≡◌, ◌∙◌, ◌∷◌, ◌++◌, [], ℕ, suc, zero, List, ap, arith, length, length-append, map, refl, sym, subst}
use Rattle.std.specs.List.{All, slice_get}
use Rattle.std.specs.Option.{option_map}
use Rattle.std.specs.Prelude.{None, Option, Some}
use Rattle.std.proofs.lemmas.Option.{slice_get-map}
use Rattle.td_types.specs.model.Headings.{new_names}
use Rattle.std.proofs.lemmas.List.{get_or_append_left, length-map}
use Rattle.std.proofs.lemmas.List.Elements.{All-contains, Contains-push}
use Rattle.td_types.specs.model.Types.{Heading, attribute_names}
use Rattle.td_body.specs.code.KeyParts.{places_from}
use Rattle.td_body.specs.code.Members.{ArePlaced}

pub one : {X : Type 0} (P : X → Type 0) (x : X) → P x → All P (x ∷ [])
one P x p zero d low = p
one P x p (suc k) d low = absurd (omega arith)

pub last_holds : {X : Type 0} (P : X → Type 0) (xs : List X) (x : X) → All P (xs ++ x ∷ []) → P x
last_holds P xs x all = All-contains P (xs ++ x ∷ []) x all (Contains-push xs x)

pub front_holds : {X : Type 0} (P : X → Type 0) (xs : List X) (x : X) → All P (xs ++ x ∷ []) → All P xs
front_holds P xs x all k d low = subst P (get_or_append_left xs (x ∷ []) d k low) (all k d (omega (arith, length-append xs (x ∷ []))))

-- a list of no items
pub none_there : {X : Type 0} (xs : List X) → length xs ≡ 0 → xs ≡ []
none_there [] e = refl
none_there (x ∷ xs) e = absurd (omega arith)

-- the names that no renaming changes
pub names_unchanged : (h : Heading) → new_names [] h ≡ attribute_names h
names_unchanged [] = refl
names_unchanged (a ∷ h) = ap (λ ns. a.0 ∷ ns) (names_unchanged h)

-- places that are found for each key are placed
pub placed_by : {V : Type 0} (items : V → List (List ℕ)) (names : List (List ℕ)) (vs : List V)
    → ArePlaced (map items vs) names (map (λ v. places_from 0 (items v) names) vs)
placed_by items names vs = record {
  many = omega (arith, length-map vs items, length-map vs (λ v. places_from 0 (items v) names));
  placed = λ k key ps is at. by_found key ps (slice_get vs k) (sym (slice_get-map items vs k) ∙ is) (sym (slice_get-map (λ v. places_from 0 (items v) names) vs k) ∙ at);
}
  where
    by_found : (key : List (List ℕ)) (ps : List ℕ) (o : Option _) → option_map items o ≡ Some key → option_map (λ v. places_from 0 (items v) names) o ≡ Some ps → ps ≡ places_from 0 key names
    by_found key ps None e f = cc
    by_found key ps (Some v) e f =
        let same_key : items v ≡ key = cc in
        let same_places : places_from 0 (items v) names ≡ ps = cc in
        sym same_places ∙ ap (λ n. places_from 0 n names) same_key
