-- The keys of a base relvar, asked one after another.
use Rattle.std.proofs.Common.{◌≡◌, ◌∙◌, ◌+◌, ◌<◌, ◌≤◌, ℕ, Bool, true, false, List, [], Some, ap, drop, get_or, length, subst, sym}
use Rattle.std.proofs.lemmas.List.{drop_all}
use Rattle.std.proofs.lemmas.Option.{slice_get-get_or}
use Rattle.std.specs.Prelude.{◌&&◌, IfSome}
use Rattle.std.specs.List.{slice_get}
use Rattle.td_body.specs.model.Bodies.{key_holds}
use Rattle.td_engine.proofs.law_lemmas.InOrder.{drop_next}
use Rattle.td_engine.specs.model.Checks.{keys_hold}
use Rattle.td_value.specs.model.Values.{Tuple}

module _ (keys : List (List (List ℕ))) (tuples : List Tuple) where
  -- those before a place hold
  abbrev HoldBefore : ℕ → Type 0
  HoldBefore place = keys_hold (drop place keys) tuples ≡ keys_hold keys tuples

  asked_next : (place : ℕ) (holds : Bool) → place < length keys → IfSome (slice_get keys place) (λ key. holds ≡ key_holds key tuples) → HoldBefore place
      → keys_hold keys tuples ≡ (holds && keys_hold (drop (place + 1) keys) tuples)
  asked_next place holds inside is before =
      let key = get_or keys place [] in
      let at : slice_get keys place ≡ Some key = slice_get-get_or keys place [] inside in
      let asked : holds ≡ key_holds key tuples = subst (λ o. IfSome o (λ key. holds ≡ key_holds key tuples)) at is in
      sym before ∙ ap (λ ks. keys_hold ks tuples) (drop_next keys place key at) ∙ ap (λ b. b && keys_hold (drop (place + 1) keys) tuples) (sym asked)

  pub key_broken : (place : ℕ) (holds : Bool) → place < length keys → IfSome (slice_get keys place) (λ key. holds ≡ key_holds key tuples) → HoldBefore place
      → holds ≡ false → false ≡ keys_hold keys tuples
  key_broken place holds inside is before e = sym (asked_next place holds inside is before ∙ ap (λ b. b && keys_hold (drop (place + 1) keys) tuples) e)

  pub key_passed : (place : ℕ) (holds : Bool) → place < length keys → IfSome (slice_get keys place) (λ key. holds ≡ key_holds key tuples) → HoldBefore place
      → holds ≡ true → HoldBefore (place + 1)
  key_passed place holds inside is before e = sym (asked_next place holds inside is before ∙ ap (λ b. b && keys_hold (drop (place + 1) keys) tuples) e)

  pub all_asked : (place : ℕ) → length keys ≤ place → HoldBefore place → true ≡ keys_hold keys tuples
  all_asked place past before = ap (λ ks. keys_hold ks tuples) (sym (drop_all place keys past)) ∙ before
