use Rattle.std.proofs.Common.{subst, sym}
use Rattle.std.specs.Prelude.{map, ⊤}
use Rattle.td_check.specs.model.StatementTypes.{both_hold, heading_rank_fits, keys_asked}
use Rattle.td_tree.specs.model.Outcomes.{Answers}
use Rattle.td_types.specs.code.TypeCode.{unpack_pack}
use Rattle.td_types.specs.model.Types.{Heading}
use Rattle.td_check.proofs.statement.definitions.virtual_fits.Goals as goal

pub returns-in-Rel : goal.returns-in-Rel
returns-in-Rel c =
    rw c.in-Rel.is
    (subst (λ (h : Heading). Answers (λ (u : ⊤). u) c.both_hold.result
    (both_hold (keys_asked h (map (λ key. key.items) c.args.keys.now)) (heading_rank_fits c.args.types.now h)))
    (sym (unpack_pack c.in-Rel.heading)) (c.both_hold.ensures _ _ c.keys_asked-allowed.ensures c.heading_rank_fits.ensures))
