use Rattle.std.proofs.Common.{◌∙◌, ◌+◌, ap, arith, sym}
use Rattle.td_tree.specs.model.Statements.{tokens}
use Rattle.td_scan.proofs.FirstLaws.{no_bytes}
use Rattle.td_scan.proofs.ReadLaws.{behind_blanks}
use Rattle.td_scan.proofs.token.by_pieces.Goals as goal

pub returns-then-is_empty-clause-none : goal.returns-then-is_empty-clause-none
returns-then-is_empty-clause-none c =
    let l = c.loop-bytes in
    let m = c.blank_length-blanks.result in
    sym (behind_blanks c.args.offset l.start m c.args.bytes.now l.bytes.now c.split_at.result.1.now l.invariant.so_far c.split_at.ensures.back c.blank_length-blanks.ensures.same)
    ∙ no_bytes c.split_at.result.1.now (l.start + m) (sym c.is_empty.ensures ∙ c.if-is_empty.true)

pub returns-in-Ok-clause-same : goal.returns-in-Ok-clause-same
returns-in-Ok-clause-same c =
    let l = c.loop-bytes in
    behind_blanks c.args.offset l.start c.blank_length-blanks.result c.args.bytes.now l.bytes.now c.split_at.result.1.now l.invariant.so_far c.split_at.ensures.back c.blank_length-blanks.ensures.same

pub loop-bytes-preserved : goal.loop-bytes-preserved
loop-bytes-preserved c =
    let l = c.loop-bytes in
    let m = c.blank_length-blanks.result in
    let n = c.in-Err.length in
    let none = c.in-Err.ensures.none in
    record {
      place = omega (arith, l.invariant.place, c.blank_length-blanks.ensures.within, c.split_at.ensures.back_len, none.within, c.split_at-in-Err.ensures.back_len);
      shorter = omega (arith, l.invariant.shorter, c.split_at.ensures.back_len, c.split_at-in-Err.ensures.back_len);
      so_far = ap (tokens (l.start + m + n)) c.split_at-in-Err.ensures.back ∙ sym (none.same (l.start + m))
          ∙ behind_blanks c.args.offset l.start m c.args.bytes.now l.bytes.now c.split_at.result.1.now l.invariant.so_far c.split_at.ensures.back c.blank_length-blanks.ensures.same;
    }
