use Rattle.std.proofs.Common.{◌≡◌, ◌∙◌, ◌+◌, ◌<◌, ℕ, List, drop, get_or, length, refl, sym}
use Rattle.std.specs.declared.cmp.Ordering.{Ordering}
use Rattle.std.specs.declared.cmp.Ordering.TheVariants.{Less, Equal, Greater}
use Rattle.std.specs.List.{slice_get}
use Rattle.std.specs.Option.{option_cmp}
use Rattle.std.specs.Ordering.{ordering_then}
use Rattle.std.proofs.lemmas.List.{at_drop_more}
use Rattle.td_value.specs.model.Values.{Tuple, value_cmp}
use Rattle.td_value.specs.code.Views.{values_of}
use Rattle.td_body.specs.code.KeyParts.{by_places}
use Rattle.td_body.proofs.keys.compare_at.Goals as goal

-- by the values at the next place, and then at the others
step : (places : List ℕ) (i : ℕ) (s t : Tuple) (o : Ordering) → i < length places
    → o ≡ option_cmp value_cmp (slice_get (values_of s) (get_or places i 0)) (slice_get (values_of t) (get_or places i 0))
    → ordering_then o (by_places (drop (i + 1) places) s t) ≡ by_places (drop i places) s t
step places i s t o l is = rw (at_drop_more (λ r. r) places i 0 l, is) refl

decided : (o rest : Ordering) → (o ≡ Equal → ⊥) → o ≡ ordering_then o rest
decided Less rest h = refl
decided Equal rest h = absurd (h refl)
decided Greater rest h = refl

pub returns-in_default : goal.returns-in_default
returns-in_default c =
    let found = c.compare_found.ensures ∙ (λ i. option_cmp value_cmp (c.value_at.ensures i) (c.value_at-in-loop-place.ensures i)) in
    decided c.compare_found.result _ c.in_default.not-Equal
    ∙ step c.args.places.now c.loop-place.place-index c.args.tuple.now c.args.other.now c.compare_found.result c.loop-place-test.true found ∙ c.loop-place.invariant

pub loop-place-preserved : goal.loop-place-preserved
loop-place-preserved c =
    let found = sym c.in-Equal.is ∙ c.compare_found.ensures ∙ (λ i. option_cmp value_cmp (c.value_at.ensures i) (c.value_at-in-loop-place.ensures i)) in
    step c.args.places.now c.loop-place.place-index c.args.tuple.now c.args.other.now Equal c.loop-place-test.true found ∙ c.loop-place.invariant
