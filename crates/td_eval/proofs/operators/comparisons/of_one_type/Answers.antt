use Rattle.std.proofs.Common.{◌∙◌, sym}
use Rattle.td_eval.proofs.code_lemmas.OpComparisons.{equality_valued}
use Rattle.td_eval.proofs.operators.comparisons.of_one_type.Goals as goal

pub returns-then-branch : goal.returns-then-branch
returns-then-branch c =
    rw c.eq.ensures (equality_valued c.args.first.now c.args.second.now (sym c.in_ok-have_one_type.ensures ∙ c.if-branch.true))
