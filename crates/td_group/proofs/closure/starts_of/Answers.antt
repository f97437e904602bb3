use Rattle.std.proofs.Common.{arith, map, subst, take, Bor}
use Rattle.std.proofs.lemmas.List.{take_all}
use Rattle.td_value.specs.model.Values.{Val}
use Rattle.td_group.specs.code.Successors.{HaveSameValues, ends_of, start_of, starts_in}
use Rattle.td_group.proofs.Tables.{flat_more}
use Rattle.td_group.proofs.closure.starts_of.Goals as goal

pub loop-row-preserved : goal.loop-row-preserved
loop-row-preserved c =
    subst (HaveSameValues (map (λ (v : Bor Val). v.now) c.put_start.new.starts.items))
    (flat_more (λ t. start_of (ends_of t)) c.args.rows.now c.loop-row.row-index c.row-item.result (omega (arith, c.loop-row-test.true)) c.row-item.is)
    (c.in_ok-put_start.ensures (starts_in (take c.loop-row.row-index c.args.rows.now)) c.loop-row.invariant)

pub returns : goal.returns
returns c =
    subst (λ ts. HaveSameValues (map (λ (v : Bor Val). v.now) c.loop-row.starts.items) (starts_in ts)) (take_all c.loop-row.row-index c.args.rows.now c.loop-row-test.false) c.loop-row.invariant
