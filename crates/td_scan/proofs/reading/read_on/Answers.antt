use Rattle.std.proofs.Common.{◌≡◌, ◌∙◌, ◌+◌, ◌-◌, ap, arith, drop, drop-drop, length, length-drop, subst}
use Rattle.td_scan.specs.code.Progress.{GoesOn}
use Rattle.td_scan.proofs.Ends.{false_of}
use Rattle.td_scan.proofs.ReadLaws.{goes_then}
use Rattle.td_scan.proofs.reading.read_on.Goals as goal

pub loop-so_far-preserved : goal.loop-so_far-preserved
loop-so_far-preserved c =
    let l = c.loop-so_far in
    let i = l.invariant in
    let from = c.args.reading.start in
    let past = c.past_pieces-past.result in
    let more = c.past_pieces-past.ensures.read in
    let read = goes_then c.args.reading l.so_far past c.args.bytes.now (false_of l.so_far.is_whole c.loop-so_far-test.true) i.read (subst (λ b. GoesOn l.so_far past b) i.rest more) in
    let rest = c.bytes_from-rest.ensures ∙ ap (drop (past.start - l.so_far.start)) i.rest ∙ drop-drop (past.start - l.so_far.start) (l.so_far.start - from) c.args.bytes.now
    ∙ ap (λ k. drop k c.args.bytes.now) (let k : l.so_far.start - from + (past.start - l.so_far.start) ≡ past.start - from = omega (arith, i.read.passes.from, more.passes.from) in k) in
    record {
      read = read;
      place = omega (arith, ap length rest, read.passes.from, read.passes.within, length-drop (past.start - from) c.args.bytes.now);
      rest = rest;
      counted = omega (arith, i.counted, more.count, more.passes.few, more.passes.from);
    }
