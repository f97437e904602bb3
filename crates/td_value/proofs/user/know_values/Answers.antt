use Rattle.std.proofs.Common.{◌∙◌, ◌++◌, ◌∷◌, [], List, ap, sym, subst, take}
use Rattle.std.proofs.lemmas.List.{take_more}
use Rattle.td_value.specs.model.Values.{Val, AreValues, IsValue, pack_parts}
use Rattle.td_value.proofs.user.know_values.Goals as goal

one_more : (vs : List Val) (v : Val) → AreValues (pack_parts vs) → IsValue v → AreValues (pack_parts (vs ++ v ∷ []))
one_more [] v h p = (p, tt)
one_more (w ∷ vs) v h p = (h.0, one_more vs v h.1 p)

pub loop-v-preserved : goal.loop-v-preserved
loop-v-preserved c =
    let more = take_more c.args.values.now c.loop-v.v-index c.v-item.result c.loop-v-test.true ∙ ap (λ v. take c.loop-v.v-index c.args.values.now ++ v ∷ []) (sym c.v-item.is) in
    subst (λ vs. AreValues (pack_parts vs)) (sym more) (one_more _ c.v-item.result c.loop-v.invariant (subst IsValue c.v.view_is c.v.invariant))
