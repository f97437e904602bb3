use Rattle.std.proofs.Common.{◌∙◌}
use Rattle.td_tree.proofs.code_lemmas.Writing.{popped_text}
use Rattle.td_tree.proofs.print.words.Printer.finish.Goals as goal

pub returns : goal.returns
returns c = λ ls is.
    popped_text ls _ _ _ _ c.self.inside.out.bytes.ok.0 c.pop.new.self.bytes.ok.0 (c.self.view_is ∙ is) c.pop.ensures.ascii_bytes c.pop.ensures.bound
