use Rattle.std.proofs.Common.{◌∙◌, ◌<◌, subst, ℕ, arith, below_more, get_or}
use Rattle.std.proofs.lemmas.List.{get_or_default}
use Rattle.td_tree.specs.model.Names.{IsName}
use Rattle.td_value.proofs.names.know_names.Goals as goal

pub loop-name-preserved : goal.loop-name-preserved
loop-name-preserved c k d =
    let same = c.name-item.is ∙ get_or_default c.args.names.now c.loop-name.name-index c.name-item.result d c.loop-name-test.true in
    let P : ℕ → Type 0 = λ i. IsName (get_or c.args.names.now i d) in
    below_more P c.loop-name.name-index (λ i h. c.loop-name.invariant i d h) (subst IsName same c.reveal.ensures) k

pub returns : goal.returns
returns c k d h =
    let within : k < c.loop-name.name-index = omega (arith, h, c.loop-name-test.false) in
    c.loop-name.invariant k d within
