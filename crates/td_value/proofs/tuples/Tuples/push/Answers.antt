use Rattle.std.proofs.Common.{◌∙◌, ap, sym, length, arith}
use Rattle.td_value.proofs.Made.{one_row_more}
use Rattle.td_value.specs.code.Blocks.{making, rows_of, with_row}
use Rattle.td_value.proofs.tuples.Tuples.push.Goals as goal

pub invariant_of-self-2 : goal.invariant_of-self-2
invariant_of-self-2 c =
    let a = c.self.inside in
    let same = ap (λ m. length m.names) c.self.view_is ∙ sym c.requires in
    let more = one_row_more a.names.value.items a.count c.in-Some.count a.cells.items c.args.row.now.items (omega (arith, c.in-Some.ensures)) c.self.invariant.whole same in
    record { width_is = c.self.invariant.width_is; whole = rw c.in_ok-append.ensures.items more.0; names = c.self.invariant.names }

pub returns-clause-pushed : goal.returns-clause-pushed
returns-clause-pushed c =
    let a = c.self.inside in
    let same = ap (λ m. length m.names) c.self.view_is ∙ sym c.requires in
    let more = one_row_more a.names.value.items a.count c.in-Some.count a.cells.items c.args.row.now.items (omega (arith, c.in-Some.ensures)) c.self.invariant.whole same in
    ap (making a.names.value.items) (ap (rows_of a.names.value.items c.in-Some.count) c.in_ok-append.ensures.items ∙ more.1) ∙ ap (with_row c.args.row.now.items) c.self.view_is
