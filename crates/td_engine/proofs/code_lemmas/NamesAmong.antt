-- Whether one of a list of names is among others depends on which names are in the list alone.
use Rattle.std.proofs.Common.{◌≡◌, ◌∙◌, ◌∷◌, ℕ, Bool, true, false, List, [], ap, refl, sym, true≢false}
use Rattle.std.specs.List.{list_any}
use Rattle.std.specs.Prelude.{◌||◌}
use Rattle.td_engine.proofs.law_lemmas.StayingConditions.{one_named}
use Rattle.td_types.proofs.HeadingLaws.{same_name-itself}
use Rattle.td_types.specs.model.Headings.{has_name}
use Rattle.td_types.specs.model.Types.{same_name}

module _ (relvars : List (List ℕ)) where
  -- where one of a list is among them, there is such a name
  one_found : (ns : List (List ℕ)) → list_any (λ k. has_name k relvars) ns ≡ true → (n : List ℕ) × (has_name n ns ≡ true) × (has_name n relvars ≡ true)
  one_found [] e = absurd (true≢false (sym e))
  one_found (m ∷ ns) e = by_test (has_name m relvars) refl e (one_found ns)
    where
      behind : (b c : Bool) → c ≡ true → (b || c) ≡ true
      behind true c f = refl
      behind false c f = f

      by_test : (b : Bool) → has_name m relvars ≡ b → (b || list_any (λ k. has_name k relvars) ns) ≡ true
          → (list_any (λ k. has_name k relvars) ns ≡ true → (n : List ℕ) × (has_name n ns ≡ true) × (has_name n relvars ≡ true))
          → (n : List ℕ) × (has_name n (m ∷ ns) ≡ true) × (has_name n relvars ≡ true)
      by_test true is f later = (m, ap (λ b. b || has_name m ns) (same_name-itself m), is)
      by_test false is f later = let k = later f in (k.0, behind (same_name m k.0) (has_name k.0 ns) k.1, k.2)

  -- where none of one list is, none of another with the same names is
  pub none_among : (ns ms : List (List ℕ)) → ((n : List ℕ) → has_name n ns ≡ has_name n ms) → list_any (λ k. has_name k relvars) ns ≡ false
      → list_any (λ k. has_name k relvars) ms ≡ false
  none_among ns ms same none = by_test (list_any (λ k. has_name k relvars) ms) refl
    where
      by_test : (b : Bool) → list_any (λ k. has_name k relvars) ms ≡ b → list_any (λ k. has_name k relvars) ms ≡ false
      by_test false is = is
      by_test true is =
          let k = one_found ms is in
          absurd (true≢false (sym (one_named relvars k.0 k.2 ns (same k.0 ∙ k.1)) ∙ none))
