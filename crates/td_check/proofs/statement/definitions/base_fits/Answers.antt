use Rattle.std.proofs.Common.{subst}
use Rattle.std.specs.Prelude.{Option, ⊤}
use Rattle.td_check.proofs.StatementAnswers.{given_is}
use Rattle.td_check.specs.model.StatementTypes.{init_fits}
use Rattle.td_tree.specs.model.Outcomes.{Answers}
use Rattle.td_types.specs.model.Types.{Type'}
use Rattle.td_types.specs.code.Views.{type_view}
use Rattle.td_check.proofs.statement.definitions.base_fits.Goals as goal

pub returns : goal.returns
returns c =
    c.both_hold-2.ensures _ _
    (subst (λ (t : Option Type'). Answers (λ (u : ⊤). u) c.init_fits-init.result (init_fits c.args.heading t))
    (given_is type_view c.as_ref.result c.args.init c.as_ref.ensures.value) c.init_fits-init.ensures)
    (c.both_hold.ensures _ _ c.base_keys_fit-keys.ensures c.heading_rank_fits.ensures)
