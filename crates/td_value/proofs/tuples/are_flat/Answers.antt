use Rattle.std.proofs.Common.{◌≡◌, ◌≤◌, ◌∙◌, ◌++◌, ◌∷◌, [], List, ap, sym, subst, take, arith}
use Rattle.std.proofs.lemmas.List.{take_more}
use Rattle.td_value.specs.model.Values.{Val, pack_parts}
use Rattle.td_value.specs.code.Depths.{depth, parts_depth}
use Rattle.td_value.proofs.tuples.are_flat.Goals as goal

flat_push : (vs : List Val) (v : Val) → parts_depth (pack_parts vs) ≤ 1 → depth v ≡ 0 → parts_depth (pack_parts (vs ++ v ∷ [])) ≤ 1
flat_push [] v h e = omega (arith, e)
flat_push (w ∷ vs) v h e = omega (arith, h, flat_push vs v (omega (arith, h)) e)

pub loop-value-preserved : goal.loop-value-preserved
loop-value-preserved c =
    let more = take_more c.args.values.now c.loop-value.value-index c.value-item.result c.loop-value-test.true ∙ ap (λ v. take c.loop-value.value-index c.args.values.now ++ v ∷ []) (sym c.value-item.is) in
    subst (λ vs. parts_depth (pack_parts vs) ≤ 1) (sym more) (flat_push _ c.value-item.result c.loop-value.invariant (c.is_flat.ensures c.if-not-is_flat.false))
