use Rattle.std.proofs.Common.{◌≡◌, ◌+◌, ◌∙◌, ◌++◌, List, [], ◌∷◌, arith, ap, sym, take, max, ℕ}
use Rattle.std.proofs.lemmas.List.{take_more}
use Rattle.td_value.proofs.Made.{parts_append, positive}
use Rattle.td_value.proofs.tuples.level_of_row.Goals.{else-deepest-level, then-deepest-level}
use Rattle.td_value.specs.model.Values.{Val, pack_parts}
use Rattle.td_value.specs.code.Depths.{depth, parts_depth}
use Rattle.td_value.proofs.tuples.level_of_row.Goals as goal

-- how deep they nest with one more
with_one : (vs : List Val) (v : Val) (n d : ℕ) → parts_depth (pack_parts vs) ≡ n → max n (depth v + 1) ≡ d → parts_depth (pack_parts (vs ++ v ∷ [])) ≡ d
with_one vs v n d e f = omega (arith, parts_append vs (v ∷ []), e, f)

pub loop-value-preserved : goal.loop-value-preserved
loop-value-preserved c =
    let i = c.loop-value.value-index in
    let vs = c.args.values.now in
    let v = c.value-item.result in
    let more = take_more vs i v c.loop-value-test.true ∙ ap (λ w. take i vs ++ w ∷ []) (sym c.value-item.is) in
    let level = c.level-level.ensures (positive c.level-level.result c.if-level-eq0.false) in
    let deepest : max c.loop-value.deepest (depth v + 1) ≡ c.if-deepest-level.deepest =
    elim c.if-deepest-level.branch [
      | then-deepest-level w ↦ omega (arith, level, w.deepest-is, w.if-deepest-level.true)
      | else-deepest-level w ↦ omega (arith, level, w.deepest-is, w.if-deepest-level.false)
    ] in
    ap (λ ws. parts_depth (pack_parts ws)) more ∙ with_one (take i vs) v c.loop-value.deepest c.if-deepest-level.deepest c.loop-value.invariant deepest
