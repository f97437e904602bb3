use Rattle.std.proofs.Common.{◌∙◌, ◌++◌, ◌∷◌, [], ap, subst}
use Rattle.std.specs.List.{Contains}
use Rattle.std.proofs.lemmas.List.{append-nil}
use Rattle.std.proofs.lemmas.Result.{on_ok_weaker}
use Rattle.td_value.specs.model.Values.{HaveSameMembers}
use Rattle.td_algebra.specs.code.Layouts.{placed_tuple}
use Rattle.td_algebra.proofs.Distinct.{members_again}
use Rattle.td_algebra.proofs.projection.put_unseen.Goals as goal

pub returns-then-stands_at-clause-members : goal.returns-then-stands_at-clause-members
returns-then-stands_at-clause-members c = λ sources p.
    members_again c.args.kept.now.1 _
    (subst (λ vs. Contains c.args.kept.now.1 (placed_tuple sources vs)) c.values-values.ensures.values (c.stands_at.ensures sources p c.if-stands_at.true))

pub returns-clause-members : goal.returns-clause-members
returns-clause-members c = λ sources p.
    let values = append-nil c.values-values.result.now ∙ c.values-values.ensures.values in
    on_ok_weaker c.put.result
    (λ put. subst (HaveSameMembers c.put.new.self.1) (put ∙ ap (λ vs. c.args.kept.now.1 ++ placed_tuple sources vs ∷ []) values) (λ q. (λ e. e, λ e. e)))
    (c.put.ensures.put sources p)
