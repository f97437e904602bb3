use Rattle.std.proofs.Common.{◌∙◌, ◌++◌, ap, arith, length, subst, sym}
use Rattle.std.proofs.lemmas.List.{length-map}
use Rattle.td_value.proofs.Made.{one_row_more}
use Rattle.td_value.specs.code.Places.{values_at}
use Rattle.td_value.specs.code.Blocks.{AreWhole, making, rows_of, with_row}
use Rattle.td_value.proofs.tuples.Tuples.push_placed.Goals as goal

pub invariant_of-self : goal.invariant_of-self
invariant_of-self c =
    let a = c.self.inside in
    let row = values_at c.args.places.now (c.args.first.now ++ c.args.second.now) in
    let same = ap (λ m. length m.names) c.self.view_is ∙ sym c.requires.long ∙ sym (length-map c.args.places.now _) in
    let more = one_row_more a.names.value.items a.count c.in-Some.count a.cells.items row (omega (arith, c.in-Some.ensures)) c.self.invariant.whole same in
    record {
      width_is = c.self.invariant.width_is;
      whole = subst (AreWhole a.names.value.items c.in-Some.count) (sym c.in-Ok.ensures.put) more.0;
      names = c.self.invariant.names;
    }

pub returns-in-Ok-clause-pushed : goal.returns-in-Ok-clause-pushed
returns-in-Ok-clause-pushed c =
    let a = c.self.inside in
    let row = values_at c.args.places.now (c.args.first.now ++ c.args.second.now) in
    let same = ap (λ m. length m.names) c.self.view_is ∙ sym c.requires.long ∙ sym (length-map c.args.places.now _) in
    let more = one_row_more a.names.value.items a.count c.in-Some.count a.cells.items row (omega (arith, c.in-Some.ensures)) c.self.invariant.whole same in
    ap (making a.names.value.items) (ap (rows_of a.names.value.items c.in-Some.count) c.in-Ok.ensures.put ∙ more.1) ∙ ap (with_row row) c.self.view_is
