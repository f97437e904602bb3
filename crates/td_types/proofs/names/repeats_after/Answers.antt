use Rattle.std.proofs.Common.{◌≡◌, ◌∷◌, ◌+◌, ◌<◌, ◌∙◌, ℕ, List, length, get_or, map, sym, ap, drop, subst}
use Rattle.std.specs.Prelude.{not}
use Rattle.std.proofs.lemmas.List.{at_drop_more, at_drop_all}
use Rattle.td_types.specs.model.Headings.{are_distinct}
use Rattle.td_types.proofs.DistinctNames.{Sorted, tail_sorted, distinct_apart, distinct_same}
use Rattle.td_types.proofs.names.repeats_after.Goals as goal

at_turn : {X : Type 0} (rest : List X) (i : ℕ) (e : X) → i < length rest → e ≡ get_or rest i e → drop i rest ≡ e ∷ drop (i + 1) rest
at_turn rest i e h is = at_drop_more (λ r. r) rest i e h ∙ ap (λ f. f ∷ drop (i + 1) rest) (sym is)

pub returns-then-eq : goal.returns-then-eq
returns-then-eq g c =
    let turn = at_turn c.args.rest.now c.loop-entry.entry-index c.entry-item.result c.loop-entry-test.true c.entry-item.is in
    let same = distinct_same (λ e. e.0) c.loop-entry.before.now c.entry-item.result (drop (c.loop-entry.entry-index + 1) c.args.rest.now) (sym c.eq.ensures ∙ c.if-eq.true) in
    ap not (sym same ∙ ap (λ r. are_distinct (map (λ e. e.0) (c.loop-entry.before.now ∷ r))) (sym turn) ∙ c.loop-entry.invariant.1)

pub loop-entry-preserved : goal.loop-entry-preserved
loop-entry-preserved g c =
    let left = drop (c.loop-entry.entry-index + 1) c.args.rest.now in
    let turn = at_turn c.args.rest.now c.loop-entry.entry-index c.entry-item.result c.loop-entry-test.true c.entry-item.is in
    let sorted = subst (λ r. Sorted (λ e. e.0) (c.loop-entry.before.now ∷ r)) turn c.loop-entry.invariant.0 in
    let apart = distinct_apart (λ e. e.0) c.loop-entry.before.now c.entry-item.result left sorted (sym c.eq.ensures ∙ c.if-eq.false) in (
      tail_sorted (λ e. e.0) c.loop-entry.before.now (c.entry-item.result ∷ left) sorted,
      sym apart ∙ ap (λ r. are_distinct (map (λ e. e.0) (c.loop-entry.before.now ∷ r))) (sym turn) ∙ c.loop-entry.invariant.1,
    )

pub returns : goal.returns
returns g c =
    ap not (sym (at_drop_all (λ r. are_distinct (map (λ e. e.0) (c.loop-entry.before.now ∷ r))) c.args.rest.now c.loop-entry.entry-index c.loop-entry-test.false) ∙ c.loop-entry.invariant.1)
