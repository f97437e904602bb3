use Rattle.std.proofs.Common.{◌∙◌, ap}
use Rattle.td_tree.specs.model.Statements.{Held, behind, tokens}
use Rattle.td_scan.specs.code.Progress.{end_of_statement}
use Rattle.td_scan.proofs.HeldReads.{ended}
use Rattle.td_scan.proofs.ScanLaws.{reaches}
use Rattle.td_scan.proofs.cutter.Cutter.end.Goals as goal

pub returns-then-self : goal.returns-then-self
returns-then-self c =
    let s = c.self.inside in
    ended s.bytes s.offset s.reading c.self.invariant.keeps c.if-self.true s.finished ∙ ap behind c.self.view_is

pub returns : goal.returns
returns c =
    let s = c.self.inside in
    let h : Held = record { bytes = s.bytes; offset = s.offset; finished = s.finished } in
    c.end_with_rest.ensures ∙ ap (λ b. end_of_statement s.finished s.offset s.offset (tokens s.offset b)) c.as_slice-bytes.ensures ∙ reaches h ∙ ap behind c.self.view_is
