use Rattle.std.proofs.Common.{◌≡◌, ◌++◌, ◌∷◌, [], ap, subst, sym}
use Rattle.std.specs.Prelude.{OnOk}
use Rattle.std.specs.List.Sorted.{IsPermutation}
use Rattle.td_algebra.specs.code.Columns.{cells_at}
use Rattle.td_algebra.specs.code.Layouts.{AreInRange, placed_tuple}
use Rattle.td_algebra.proofs.LaidOut.{one_put, still_laid}
use Rattle.td_algebra.proofs.laid_out.LaidOut.put_extended.Goals as goal

pub invariant_of-self-2 : goal.invariant_of-self-2
invariant_of-self-2 c =
    let vs = c.args.first.now ++ cells_at c.args.at c.args.columns.now in
    let layout = ap (λ p. p.0) c.self.view_is in
    still_laid c.self.inside.layout.now c.self.inside.made c.push.new.self c.put_cells.new.row.items vs c.self.invariant
    (subst (λ ss. AreInRange ss vs) (sym layout) c.requires.range) c.in_ok-put_cells.ensures c.push.result c.push.ensures.pushed c.push.ensures.same

pub returns-clause-put : goal.returns-clause-put
returns-clause-put c = λ sources p.
    let vs = c.args.first.now ++ cells_at c.args.at c.args.columns.now in
    let layout = ap (λ p. p.0) c.self.view_is in
    subst (λ ts. OnOk c.push.result (c.push.new.self.tuples ≡ ts ++ placed_tuple sources vs ∷ [])) (ap (λ p. p.1) c.self.view_is)
    (one_put c.self.inside.layout.now c.self.inside.made c.push.new.self c.put_cells.new.row.items vs c.self.invariant
    (subst (λ ss. AreInRange ss vs) (sym layout) c.requires.range) c.in_ok-put_cells.ensures c.push.result c.push.ensures.pushed
    sources (subst (IsPermutation sources) (sym layout) p))
