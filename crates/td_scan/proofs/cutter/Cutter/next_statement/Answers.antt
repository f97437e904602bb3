use Rattle.std.proofs.Common.{◌∙◌, ap, sym}
use Rattle.std.proofs.lemmas.Result.{IfOk-weaker}
use Rattle.td_tree.specs.model.Division.{up_to}
use Rattle.td_tree.specs.model.Statements.{Held, statement_or_rest, ends, first_statement, tokens}
use Rattle.td_scan.proofs.HeldReads.{first_is}
use Rattle.td_scan.proofs.LastLaws.{ends_of}
use Rattle.td_scan.proofs.cutter.Cutter.next_statement.Goals as goal

pub returns-clause-is : goal.returns-clause-is
returns-clause-is c =
    let s = c.self.inside in
    let h : Held = record { bytes = s.bytes; offset = s.offset; finished = s.finished } in
    let all = ap (λ b. statement_or_rest s.finished (tokens s.offset b) (up_to ends (tokens s.offset b))) c.as_slice.ensures ∙ sym (first_is h) ∙ ap first_statement c.self.view_is in
    IfOk-weaker c.statement_of.result _ _ (λ found is. is ∙ all) c.statement_of.ensures

pub returns-clause-end : goal.returns-clause-end
returns-clause-end c = IfOk-weaker c.statement_of.result _ _ (λ found is. ends_of (λ v. v.items) c.args.self.now found is) (returns-clause-is c)
