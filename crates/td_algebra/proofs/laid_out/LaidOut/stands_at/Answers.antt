use Rattle.std.proofs.Common.{◌<◌, ap, subst, sym}
use Rattle.std.specs.List.{Contains}
use Rattle.std.specs.List.Sorted.{IsPermutation}
use Rattle.td_algebra.specs.code.Layouts.{AreInRange, placed_tuple}
use Rattle.td_algebra.proofs.LaidOut.{found_long, found_made}
use Rattle.td_algebra.proofs.laid_out.LaidOut.stands_at.Goals as goal

pub makes-requires-clause-long : goal.makes-requires-clause-long
makes-requires-clause-long c =
    let below = subst (λ n. c.in-Some.place.now < n) c.len.ensures c.if-place-len.true in
    found_long c.self.inside.layout.now c.self.inside.made c.in-Some.place.now c.row.result.now c.self.invariant below c.row.ensures

pub returns-then-place-len : goal.returns-then-place-len
returns-then-place-len c = λ sources p e.
    let below = subst (λ n. c.in-Some.place.now < n) c.len.ensures c.if-place-len.true in
    let layout = ap (λ p. p.0) c.self.view_is in
    let vs = c.args.values.now in
    subst (λ ts. Contains ts (placed_tuple sources vs)) (ap (λ p. p.1) c.self.view_is)
    (found_made c.self.inside.layout.now c.self.inside.made c.in-Some.place.now c.row.result.now c.self.invariant below c.row.ensures vs sources
    (subst (λ ss. AreInRange ss vs) (sym layout) c.requires) (subst (IsPermutation sources) (sym layout) p) (c.makes.ensures.0 e))
