use Rattle.std.proofs.Common.{◌≡◌, ◌+◌, ◌-◌, ◌<◌, ◌∙◌, ap, arith, false, get_or, length, refl, set, subst, sym}
use Rattle.std.proofs.lemmas.List.{get_or_default}
use Rattle.td_body.specs.code.Chains.{AreLinked}
use Rattle.td_body.specs.declared.hashed.chains.Chains.{Chains}
use Rattle.td_body.proofs.ChainSkips.{linked_between, linked_last, linked_past, linked_some}
use Rattle.td_body.proofs.hashed.chains.Chains.link.Goals as goal
use Rattle.td_body.proofs.hashed.chains.Chains.link.Goals.{then-last-number, else-last-number}

pub put_back-requires : goal.put_back-requires
put_back-requires c =
    let x = c.requires.linked.1 in
    linked_some c.requires.linked.0 c.args.self.now.skipped.items _ c.args.self.now.last c.args.self.now.next.items c.args.hash c.args.number x c.requires.linked.2
    (let low : c.args.number < length c.requires.linked.0 = omega (arith, c.requires.within, x.marks) in low) c.requires.skipped refl

pub above-above-requires-clause-there : goal.above-above-requires-clause-there
above-above-requires-clause-there c =
    let x = c.requires.linked.1 in
    linked_past c.requires.linked.0 c.args.self.now.skipped.items _ c.args.self.now.last c.args.self.now.next.items c.args.hash c.args.number x c.requires.linked.2
    (let low : c.args.number < length c.requires.linked.0 = omega (arith, c.requires.within, x.marks) in low) c.requires.skipped refl (omega (arith, c.if-last-number.false, c.last-last.ensures))

pub returns-clause-linked : goal.returns-clause-linked
returns-clause-linked c = λ hashes x is.
    let number = c.args.number in
    let low : number < length hashes = omega (arith, c.requires.within, x.marks) in
    elim c.if-last-number.branch [
      | then-last-number w ↦ subst (λ (s : Chains). AreLinked hashes (set s.skipped.items number false) s.last s.next.items) (sym w.self-is)
          (linked_last hashes c.args.self.now.skipped.items _ c.args.self.now.last c.args.self.now.next.items c.args.hash number x is low c.requires.skipped refl
          w.put_back.new.last _ c.last-last.result c.last-last.ensures w.if-last-number.true refl w.put_back.ensures.last)
      | else-last-number w ↦ subst (λ (s : Chains). AreLinked hashes (set s.skipped.items number false) s.last s.next.items) (sym w.self-is)
          (let above = w.above-above.ensures hashes x in
          let read : w.index.result.now ≡ get_or c.args.self.now.next.items (w.above-above.result - 1) 0 =
          w.index.ensures ∙ get_or_default c.args.self.now.next.items (w.above-above.result - 1) w.index.result.now 0 (let within : w.above-above.result - 1 < length c.args.self.now.next.items = omega (arith, above.within, above.past, x.nexts) in within) in
          linked_between hashes c.args.self.now.skipped.items _ c.args.self.now.last c.args.self.now.next.items c.args.hash number x is low c.requires.skipped refl
          _ w.above-above.result above (ap (λ v. set (set c.args.self.now.next.items number v) (w.above-above.result - 1) (number + 1)) read))
    ]
