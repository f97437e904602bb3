use Rattle.std.proofs.Common.{◌≡◌, ◌∙◌, ◌++◌, ℕ, Bool, true, false, List, ap, map, refl, subst, sym}
use Rattle.std.specs.Prelude.{not}
use Rattle.std.specs.List.Sorted.{IsPermutation}
use Rattle.std.proofs.lemmas.List.Sorted.{IsPermutation-map, IsPermutation-trans}
use Rattle.td_algebra.proofs.Taken.{names_numbered}
use Rattle.td_algebra.specs.code.Layouts.{numbered_sources}
use Rattle.td_types.proofs.DistinctNames.{distinct_permuted}
use Rattle.td_types.specs.model.Headings.{are_distinct}
use Rattle.td_eval.proofs.flat.layout_of.Goals as goal

is_true : (b : Bool) → not b ≡ false → b ≡ true
is_true true e = refl
is_true false e = cc

-- the sources as they are put and as they are sorted, no two of one name
module _ (names : List (List ℕ)) (sorted lent : List (List ℕ × ℕ)) (repeats : Bool) (p : IsPermutation (numbered_sources 0 names) sorted) (is : lent ≡ sorted)
    (e : repeats ≡ not (are_distinct (map (λ e. e.0) lent))) (none : repeats ≡ false) where
  sorted_distinct : are_distinct (map (λ e. e.0) sorted) ≡ true
  sorted_distinct = is_true _ (sym (ap (λ es. not (are_distinct (map (λ e. e.0) es))) is) ∙ sym e ∙ none)

  distinct : are_distinct names ≡ true
  distinct =
      ap are_distinct (sym (names_numbered 0 names))
      ∙ distinct_permuted (map (λ e. e.0) (numbered_sources 0 names)) (map (λ e. e.0) sorted) (IsPermutation-map (λ e. e.0) (numbered_sources 0 names) sorted p)
      ∙ sorted_distinct

module _ (c : goal.In_ok-new) where
  permuted : IsPermutation (numbered_sources 0 c.args.names.now) c.sort_unstable.new.self.items
  permuted =
      subst (λ ss. IsPermutation ss c.sort_unstable.new.self.items)
      (c.in_ok-put_names.ensures ∙ ap (λ ss. ss ++ numbered_sources 0 c.args.names.now) c.in_ok-sources.ensures.items) c.sort_unstable.ensures.permutation

pub returns-clause-distinct : goal.returns-clause-distinct
returns-clause-distinct c =
    distinct c.args.names.now c.sort_unstable.new.self.items c.deref.result.now c.repeats_a_name.result (permuted c) c.deref.ensures.value c.repeats_a_name.ensures c.if-repeats_a_name.false

pub returns-clause-places : goal.returns-clause-places
returns-clause-places c = IsPermutation-trans (numbered_sources 0 c.args.names.now) _ _ (permuted c) c.in_ok-new.ensures
