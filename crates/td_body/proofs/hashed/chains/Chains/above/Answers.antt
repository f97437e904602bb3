use Rattle.std.proofs.Common.{◌-◌, arith}
use Rattle.std.proofs.lemmas.List.{get_or_default}
use Rattle.td_body.proofs.ChainSkips.{over_less, over_on, over_start, over_within}
use Rattle.td_body.proofs.hashed.chains.Chains.above.Goals as goal

pub walk-init : goal.walk-init
walk-init c = λ hashes x. over_start hashes c.args.self.now.skipped.items c.args.self.now.last c.args.self.now.next.items c.args.hash c.args.number x c.last-at.result c.last-at.ensures c.requires.there

pub walk-smaller : goal.walk-smaller
walk-smaller c =
    let x = c.requires.linked.1 in
    let less = over_less c.requires.linked.0 c.args.self.now.skipped.items c.args.self.now.last c.args.self.now.next.items c.args.hash c.args.number x c.walk.at c.index-at.result.now (c.walk.invariant c.requires.linked.0 x) in
    omega (arith, less, c.index-at.ensures)

pub walk-preserved : goal.walk-preserved
walk-preserved c = λ hashes x.
    let within = over_within hashes c.args.self.now.skipped.items c.args.self.now.last c.args.self.now.next.items c.args.hash c.args.number x c.walk.at (c.walk.invariant hashes x) in
    let same = get_or_default c.args.self.now.next.items (c.walk.at - 1) c.index.result.now c.index-at.result.now within in
    over_on hashes c.args.self.now.skipped.items c.args.self.now.last c.args.self.now.next.items c.args.hash c.args.number x c.walk.at c.index-at.result.now c.index-at.result.now (c.walk.invariant hashes x)
    c.index-at.ensures (omega (arith, same, c.index-at.ensures, c.index.ensures, c.walk-test.true))
