use Rattle.std.proofs.Common.{rules, arith, suc, length}
use Rattle.std.proofs.lemmas.Grind.{common_steps}
use Rattle.td_parse.specs.code.ReadingSteps.{read_name, list_by_commas, separated_from}
use Rattle.td_parse.proofs.Turns.{one_more}
use Rattle.td_parse.proofs.names.some_names.Goals as goal

pub loop-turn-preserved : goal.loop-turn-preserved
unfolding separated_from
loop-turn-preserved c =
    let e = one_more (λ n. separated_from read_name n c.loop-turn.items.items c.loop-turn.tokens) (suc (length c.args.tokens.now)) c.loop-turn._turn (omega arith) in
    first_of (search rules, grind (arith, common_steps))

pub loop-turn-init : goal.loop-turn-init
unfolding list_by_commas
loop-turn-init c = rw c.turns-limit.ensures (first_of (search rules, grind (arith, common_steps)))
