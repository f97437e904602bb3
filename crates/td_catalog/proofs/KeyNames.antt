-- The names of a key that are found one after another.
use Rattle.std.proofs.Common.{◌≡◌, ◌∙◌, ◌∷◌, ◌++◌, ◌+◌, ℕ, true, false, List, [], Some, ap, sym, take}
use Rattle.std.specs.Prelude.{if◌then◌else◌}
use Rattle.std.specs.List.{filter, slice_get}
use Rattle.std.proofs.lemmas.List.{append-nil, map-append}
use Rattle.std.proofs.lemmas.List.Elements.{filter-append}
use Rattle.td_catalog.specs.model.Dumps.{ordered_names}
use Rattle.td_catalog.proofs.ByPlace.{one_more_taken}
use Rattle.td_types.specs.model.Headings.{has_name}
use Rattle.td_types.specs.model.Types.{Attribute, Heading, attribute_names}

module _ (h : Heading) (names : List (List ℕ)) (i : ℕ) (a : Attribute) (at : Some a ≡ slice_get h i) where
  -- the name of the next attribute comes behind those that are found where the key has it
  key_more : ordered_names (take (i + 1) h) names ≡ ordered_names (take i h) names ++ (if has_name a.0 names then a.0 ∷ [] else [])
  key_more =
      ap (λ attributes. ordered_names attributes names) (one_more_taken h i a (sym at))
      ∙ ap (filter (λ n. has_name n names)) (map-append (λ (x : Attribute). x.0) (take i h) (a ∷ []))
      ∙ filter-append (λ n. has_name n names) (attribute_names (take i h)) (a.0 ∷ [])

  module _ (found : List (List ℕ)) (so_far : found ≡ ordered_names (take i h) names) where
    pub key_with : (more : List (List ℕ)) (name : List ℕ) → has_name a.0 names ≡ true → name ≡ a.0 → more ≡ found ++ (name ∷ [])
        → more ≡ ordered_names (take (i + 1) h) names
    key_with more name is same added =
        added ∙ ap (λ n. found ++ (n ∷ [])) same ∙ ap (λ ns. ns ++ (a.0 ∷ [])) so_far
        ∙ ap (λ b. ordered_names (take i h) names ++ (if b then a.0 ∷ [] else [])) (sym is) ∙ sym key_more

    pub key_without : has_name a.0 names ≡ false → found ≡ ordered_names (take (i + 1) h) names
    key_without is =
        so_far ∙ sym (append-nil (ordered_names (take i h) names)) ∙ ap (λ b. ordered_names (take i h) names ++ (if b then a.0 ∷ [] else [])) (sym is)
        ∙ sym key_more
