use Rattle.std.proofs.Common.{◌≡◌, ◌-◌, None, drop, subst}
use Rattle.td_tree.specs.model.Statements.{first_statement}
use Rattle.td_scan.proofs.HeldReads.{awaited}
use Rattle.td_scan.proofs.Ends.{false_of}
use Rattle.td_scan.proofs.NoEnds.{no_end_left}
use Rattle.td_scan.proofs.cutter.Cutter.awaits.Goals as goal

pub returns : goal.returns
returns c = λ waits.
    let s = c.self.inside in
    let k = c.self.invariant.keeps in
    subst (λ h. first_statement h ≡ None) c.self.view_is
    (awaited s.bytes s.offset s.reading k s.finished c.if-self-2.false c.if-self.false
    (no_end_left (drop (s.reading.start - s.offset) s.bytes) s.reading.begun k.read.begun (c.self.invariant.none (false_of s.may_end waits)) s.reading.start))
