-- The test of a virtual relvar that has keys.
use Rattle.std.proofs.Common.{◌≡◌, ◌∙◌, ◌∷◌, ap, ℕ, Bool, true, false, List, [], length, map, ◌==◌, refl}
use Rattle.td_catalog.specs.model.Database.{VirtualRelvar}
use Rattle.td_engine.specs.model.Checks.{keys_hold, virtual_test}
use Rattle.td_eval.specs.model.OperatorValues.{on_relation}
use Rattle.td_eval.specs.model.Worlds.{World, name_value}
use Rattle.td_tree.specs.model.Outcomes.{Outcome, Valued, with_value}

pub some_key : {K : Type 0} (f : K → List (List ℕ)) (items : List K) (n : ℕ) → n ≡ length items → false ≡ (n == 0) → map f items ≡ [] → ⊥
some_key f [] n is h e = let no : false ≡ (0 == 0) = h ∙ ap (λ k. k == 0) is in absurd (cc)
some_key f (k ∷ ks) n is h e = absurd (cc)

abbrev pub keys_test : World → List ℕ → List (List (List ℕ)) → Outcome Bool
keys_test w name keys = with_value (name_value w [] name) (λ value. on_relation value (λ r. Valued (keys_hold keys r.body)))

pub tested : (w : World) (v : VirtualRelvar) → (v.keys ≡ [] → ⊥) → virtual_test w v ≡ keys_test w v.name v.keys
tested w v some = by_keys v.keys some
  where
    by_keys : (keys : List (List (List ℕ))) → (keys ≡ [] → ⊥)
        → (elim keys as (λ _. Outcome Bool) [ [] ↦ Valued true | key ∷ rest ↦ keys_test w v.name v.keys ]) ≡ keys_test w v.name v.keys
    by_keys [] h = absurd (h refl)
    by_keys (key ∷ rest) h = refl
