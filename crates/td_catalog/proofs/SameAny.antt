-- A test that one of a list of names passes depends on which names are in the list alone.
use Rattle.std.proofs.Common.{◌≡◌, ◌∙◌, ◌∷◌, ℕ, Bool, true, false, List, [], ap, refl, sym, true≢false}
use Rattle.std.specs.Cmp.Lexicographic.{same_text}
use Rattle.std.specs.List.{list_any}
use Rattle.std.specs.Prelude.{◌||◌}
use Rattle.td_types.proofs.HeadingLaws.{same_name-itself}
use Rattle.td_types.specs.model.Headings.{has_name}
use Rattle.td_types.specs.model.Types.{same_name}

module _ (test : List ℕ → Bool) where
  either : (b c : Bool) → c ≡ true → (b || c) ≡ true
  either true c e = refl
  either false c e = e

  -- one that is there and passes
  pub any_there : (n : List ℕ) → test n ≡ true → (ns : List (List ℕ)) → has_name n ns ≡ true → list_any test ns ≡ true
  any_there n passes [] e = absurd (true≢false (sym e))
  any_there n passes (m ∷ ns) e = by_name (same_name m n) refl e (any_there n passes ns)
    where
      by_name : (b : Bool) → same_name m n ≡ b → (b || has_name n ns) ≡ true → (has_name n ns ≡ true → list_any test ns ≡ true)
          → (test m || list_any test ns) ≡ true
      by_name true one f later = ap (λ k. test k || list_any test ns) (same_text m n (sym one)) ∙ ap (λ b. b || list_any test ns) passes
      by_name false other f later = either (test m) (list_any test ns) (later f)

  -- where one passes, there is one that does
  pub any_found : (ns : List (List ℕ)) → list_any test ns ≡ true → (n : List ℕ) × (has_name n ns ≡ true) × (test n ≡ true)
  any_found [] e = absurd (true≢false (sym e))
  any_found (m ∷ ns) e = by_test (test m) refl e (any_found ns)
    where
      by_test : (b : Bool) → test m ≡ b → (b || list_any test ns) ≡ true
          → (list_any test ns ≡ true → (n : List ℕ) × (has_name n ns ≡ true) × (test n ≡ true))
          → (n : List ℕ) × (has_name n (m ∷ ns) ≡ true) × (test n ≡ true)
      by_test true passes f later = (m, ap (λ b. b || has_name m ns) (same_name-itself m), passes)
      by_test false fails f later = let k = later f in (k.0, either (same_name m k.0) (has_name k.0 ns) k.1, k.2)

  within : (ns ms : List (List ℕ)) → ((n : List ℕ) → has_name n ns ≡ has_name n ms) → list_any test ns ≡ true → list_any test ms ≡ true
  within ns ms same e = let k = any_found ns e in any_there k.0 k.2 ms (sym (same k.0) ∙ k.1)

  pub same_any : (ns ms : List (List ℕ)) → ((n : List ℕ) → has_name n ns ≡ has_name n ms) → list_any test ns ≡ list_any test ms
  same_any ns ms same = by_test (list_any test ns) (list_any test ms) refl refl
    where
      by_test : (b c : Bool) → list_any test ns ≡ b → list_any test ms ≡ c → list_any test ns ≡ list_any test ms
      by_test true c is f = is ∙ sym (within ns ms same is)
      by_test false true is f = absurd (true≢false (sym (within ms ns (λ n. sym (same n)) f) ∙ is))
      by_test false false is f = is ∙ sym f
