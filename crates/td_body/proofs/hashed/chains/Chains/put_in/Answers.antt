use Rattle.std.proofs.Common.{arith, ◌≡◌, ◌+◌, length}
use Rattle.td_body.proofs.Linked.{linked_more}
use Rattle.td_body.proofs.hashed.chains.Chains.put_in.Goals as goal

pub returns-clause-linked : goal.returns-clause-linked
returns-clause-linked c = λ hashes x.
    let count : c.len-count.result + 1 ≡ length c.args.self.now.next.items + 1 = omega (arith, c.len-count.ensures) in
    linked_more hashes c.args.hash c.args.self.now.skipped.items c.args.self.now.last c.put_last-old.new.last c.args.self.now.next.items
    c.note-2.new.items.items c.note.new.items.items c.put_last-old.result (c.len-count.result + 1) x c.put_last-old.ensures.old count c.note.ensures.items c.note-2.ensures.items c.put_last-old.ensures.last
