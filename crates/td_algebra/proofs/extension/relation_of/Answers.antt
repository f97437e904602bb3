use Rattle.std.proofs.Common.{◌≡◌, IfOk, subst}
use Rattle.td_algebra.proofs.Ascents.{ascending_set}
use Rattle.td_algebra.proofs.extension.relation_of.Goals as goal

pub returns-then-ascend : goal.returns-then-ascend
returns-then-ascend c =
    subst (λ made. IfOk c.of_ascending.result (λ r. r ≡ made)) (ascending_set c.args.heading c.args.rows.items (c.requires.ascending c.if-ascend.true)) c.of_ascending.ensures
