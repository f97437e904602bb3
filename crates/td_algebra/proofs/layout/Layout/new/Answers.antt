use Rattle.std.proofs.Common.{◌≡◌, ◌∙◌, ap, sym, subst, map, true}
use Rattle.std.specs.List.{zip}
use Rattle.std.specs.List.Sorted.{IsPermutation, IsStrictlySortedBy}
use Rattle.std.specs.Ordering.{nat_cmp}
use Rattle.std.proofs.lemmas.List.Sorted.{IsPermutation-map}
use Rattle.td_types.specs.model.Headings.{are_distinct}
use Rattle.td_types.proofs.DistinctNames.{distinct_permuted, name_cmp, rising, sorted_by_names}
use Rattle.td_algebra.specs.code.Layouts.{Sources}
use Rattle.td_algebra.proofs.Layouts.{zipped_sources}
use Rattle.td_algebra.proofs.layout.Layout.new.Goals as goal

still_distinct : (given sorted : Sources) → IsPermutation given sorted → are_distinct (map (λ s. s.0) given) ≡ true → are_distinct (map (λ s. s.0) sorted) ≡ true
still_distinct given sorted p d = sym (distinct_permuted (map (λ s. s.0) given) (map (λ s. s.0) sorted) (IsPermutation-map (λ s. s.0) given sorted p)) ∙ d

pub new-requires : goal.new-requires
new-requires c =
    let given = c.args.sources.items in
    let sorted = c.sort_unstable.new.self.items in
    subst (IsStrictlySortedBy name_cmp) (sym (c.in_ok-names_of.ensures ∙ ap (map (λ s. s.0)) c.deref-2.ensures.value))
    (rising (λ s. s.0) sorted (sorted_by_names (λ s. s.0) (λ x y. nat_cmp x.1 y.1) sorted c.sort_unstable.ensures.sorted)
    (still_distinct given sorted c.sort_unstable.ensures.permutation c.requires))

pub returns : goal.returns
returns c =
    let sorted = c.sort_unstable.new.self.items in
    let names = c.in_ok-names.ensures ∙ c.in_ok-names_of.ensures ∙ ap (map (λ s. s.0)) c.deref-2.ensures.value in
    let places = c.in_ok-places.ensures ∙ ap (map (λ s. s.1)) c.deref.ensures.value in
    subst (IsPermutation c.args.sources.items) (sym (ap (λ ns. zip ns c.in_ok-places.places.items) names ∙ ap (zip (map (λ s. s.0) sorted)) places ∙ zipped_sources sorted))
    c.sort_unstable.ensures.permutation
