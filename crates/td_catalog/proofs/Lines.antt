-- Text that is put piece by piece, one for each element of a list.
use Rattle.std.proofs.Common.{◌≡◌, ◌∙◌, ◌∷◌, ◌++◌, ◌+◌, ℕ, List, [], Some, ap, sym, take}
use Rattle.std.specs.List.{flat_map, slice_get}
use Rattle.std.proofs.lemmas.List.{append-nil, append_assoc}
use Rattle.std.proofs.lemmas.List.Concat.{flat_map-append}
use Rattle.td_catalog.proofs.ByPlace.{one_more_taken}

-- with one more piece
pub line_put : {X : Type 0} (line : X → List ℕ) (xs : List X) (i : ℕ) (start out : List ℕ) → out ≡ start ++ flat_map line (take i xs)
    → (x : X) (after : List ℕ) → Some x ≡ slice_get xs i → after ≡ out ++ line x → after ≡ start ++ flat_map line (take (i + 1) xs)
line_put line xs i start out so_far x after at is =
    is ∙ ap (λ text. text ++ line x) so_far ∙ append_assoc start (flat_map line (take i xs)) (line x)
    ∙ ap (λ text. start ++ text) (
    ap (λ text. flat_map line (take i xs) ++ text) (sym (append-nil (line x))) ∙ sym (flat_map-append line (take i xs) (x ∷ []))
    ∙ ap (flat_map line) (sym (one_more_taken xs i x (sym at)))
    )
