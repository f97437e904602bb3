use Rattle.std.proofs.Common.{◌∙◌, ◌≤◌, ap, length, subst, sym, take}
use Rattle.td_tree.specs.model.Statements.{Held, tokens}
use Rattle.td_scan.specs.code.Progress.{IsFirstStatement}
use Rattle.td_scan.proofs.HeldReads.{enough, is_first}
use Rattle.td_scan.proofs.cutter.Cutter.whole_statement.Goals as goal

pub new-requires-clause-enough : goal.new-requires-clause-enough
new-requires-clause-enough c =
    let s = c.self.inside in
    subst (λ b. s.reading.count ≤ length (tokens s.offset b)) (sym c.as_slice.ensures) (enough s.bytes s.offset s.reading c.self.invariant.keeps c.if-not-reading.false)

pub returns : goal.returns
returns c =
    let s = c.self.inside in
    subst (λ (h : Held). IsFirstStatement h c.new.result s.reading.is_bad s.reading.start) c.self.view_is
    (is_first s.bytes s.offset s.reading c.self.invariant.keeps c.if-not-reading.false s.finished c.new.result
    (c.new.ensures ∙ ap (λ b. take s.reading.count (tokens s.offset b)) c.as_slice.ensures))
