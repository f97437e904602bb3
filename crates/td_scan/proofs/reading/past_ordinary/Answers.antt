use Rattle.std.proofs.Common.{◌≡◌, ◌∙◌, ◌+◌, ◌-◌, ap, arith, drop, drop-drop, length, subst}
use Rattle.td_scan.specs.code.Progress.{IsOrdinary}
use Rattle.td_scan.proofs.ReadLaws.{goes_told}
use Rattle.td_scan.proofs.reading.past_ordinary.Goals as goal

pub loop-length-preserved : goal.loop-length-preserved
loop-length-preserved c =
    let l = c.loop-length in
    let i = l.invariant in
    let m = c.blank_length-blanks.result in
    let n = c.in-Some.length in
    let from = c.args.reading.start in
    let back = c.split_at.ensures.back in
    let ordinary = subst (λ b. IsOrdinary b n) back c.in-Some.ensures in
    record {
      read = goes_told c.args.reading (record c.args.reading { count = l.count; start = l.start }) c.args.bytes.now l.rest.now m n
          c.requires.unended c.requires.behind i.read i.rest c.blank_length-blanks.ensures.within c.blank_length-blanks.ensures.same ordinary;
      place = omega (arith, i.place, ordinary.token.within, c.split_at.ensures.back_len, c.blank_length-blanks.ensures.within, c.split_at-in-loop-length.ensures.back_len, ap length back);
      rest = c.split_at-in-loop-length.ensures.back ∙ ap (drop n) (back ∙ ap (drop m) i.rest ∙ drop-drop m (l.start - from) c.args.bytes.now) ∙ drop-drop n (l.start - from + m) c.args.bytes.now
          ∙ ap (λ k. drop k c.args.bytes.now) (let k : l.start - from + m + n ≡ l.start + m + n - from = omega (arith, i.read.passes.from) in k);
      counted = omega (arith, i.counted, ordinary.token.some);
    }
