use Rattle.std.proofs.Common.{arith, refl}
use Rattle.td_body.proofs.ChainSkips.{linked_skip, newest_low}
use Rattle.td_body.proofs.hashed.chains.Chains.skip_last.Goals as goal

pub index_mut-requires : goal.index_mut-requires
index_mut-requires c =
    let x = c.requires.linked.1 in
    let low = newest_low c.requires.linked.0 c.args.self.now.skipped.items c.args.self.now.last c.args.self.now.next.items c.args.hash c.args.number x c.requires.last in
    omega (arith, low, x.marks)

pub returns-clause-linked : goal.returns-clause-linked
returns-clause-linked c = λ hashes x.
    linked_skip hashes c.args.self.now.skipped.items _ c.args.self.now.last c.put_back.new.last c.args.self.now.next.items c.args.hash c.args.number c.args.before x
    c.requires.last c.requires.before c.requires.some refl c.put_back.ensures.last
