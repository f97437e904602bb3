-- Catalogues that go back, one database after another.
use Rattle.std.proofs.Common.{◌≡◌, ◌+◌, ◌<◌, ◌≤◌, ◌∷◌, ◌∙◌, ℕ, Bool, true, false, [], ap, arith, length, refl, sym, take}
use Rattle.std.proofs.lemmas.List.{length-append, take-append-le, take-take, take_all}
use Rattle.td_catalog.specs.code.KeptDatabases.{CatalogView, stages}

pub all_stages : (v : CatalogView) → stages v ≡ take (length v.kept + 1) (stages v)
all_stages v =
    let counted = length-append v.kept (v.database ∷ []) in
    sym (take_all (length v.kept + 1) (stages v) (omega (arith, counted)))

-- one more step back
pub record IsFurther (to : ℕ) (first old new : CatalogView) : Type 0 where
  pub enough : to ≤ length new.kept
  pub back : stages new ≡ take (length new.kept + 1) (stages first)
  pub less : length new.kept < length old.kept

pub further : (answer : Bool) (to : ℕ) (first old new : CatalogView) → (answer ≡ true → old.kept ≡ stages new) → (answer ≡ false → (old.kept ≡ []) × (new ≡ old))
    → to < length old.kept → stages old ≡ take (length old.kept + 1) (stages first) → IsFurther to first old new
further true to first old new went none more h =
    let is = went refl in
    let counted = length-append new.kept (new.database ∷ []) in
    let fewer : length old.kept ≡ length new.kept + 1 = ap length is ∙ counted in
    let front : take (length old.kept) (stages old) ≡ old.kept = take-append-le (length old.kept) old.kept (old.database ∷ []) (omega arith) ∙ take_all (length old.kept) old.kept (omega arith) in
    record {
      enough = omega (arith, fewer, more);
      back =
          sym is ∙ sym front ∙ ap (take (length old.kept)) h ∙ take-take (length old.kept) (length old.kept + 1) (stages first) (omega arith)
          ∙ ap (λ n. take n (stages first)) fewer;
      less = omega (arith, fewer);
    }
further false to first old new went none more h =
    let empty : length old.kept ≡ 0 = ap length (none refl).0 in
    absurd (omega (arith, empty, more))
