use Rattle.std.proofs.Common.{◌≡◌, ◌<◌, ◌∙◌, ◌++◌, ◌∷◌, [], ap, length, subst, sym}
use Rattle.std.specs.Prelude.{OnOk}
use Rattle.std.specs.List.{All}
use Rattle.std.specs.List.Sorted.{IsPermutation}
use Rattle.td_value.specs.code.Places.{values_at}
use Rattle.td_algebra.specs.code.Layouts.{AreInRange, placed_tuple, placed_values}
use Rattle.td_algebra.proofs.LaidOut.{one_put, still_laid}
use Rattle.td_algebra.proofs.Layouts.{placed_taken, places_below}
use Rattle.td_algebra.proofs.laid_out.LaidOut.put.Goals as goal

pub push_placed-requires-clause-range : goal.push_placed-requires-clause-range
push_placed-requires-clause-range c =
    let vs = c.args.first.now ++ c.args.second.now in
    let layout = ap (λ p. p.0) c.self.view_is in
    subst (All (λ p. p < length vs)) (sym c.places.ensures.places) (places_below c.self.inside.layout.now vs (subst (λ ss. AreInRange ss vs) (sym layout) c.requires))

pub invariant_of-self : goal.invariant_of-self
invariant_of-self c =
    let vs = c.args.first.now ++ c.args.second.now in
    let layout = ap (λ p. p.0) c.self.view_is in
    let values : values_at c.places.result.now vs ≡ placed_values c.self.inside.layout.now vs =
    ap (λ ps. values_at ps vs) c.places.ensures.places ∙ sym (placed_taken c.self.inside.layout.now vs) in
    still_laid c.self.inside.layout.now c.self.inside.made c.push_placed.new.self (values_at c.places.result.now vs) vs c.self.invariant
    (subst (λ ss. AreInRange ss vs) (sym layout) c.requires) values c.push_placed.result c.push_placed.ensures.pushed c.push_placed.ensures.same

pub returns-clause-put : goal.returns-clause-put
returns-clause-put c = λ sources p.
    let vs = c.args.first.now ++ c.args.second.now in
    let layout = ap (λ p. p.0) c.self.view_is in
    let values : values_at c.places.result.now vs ≡ placed_values c.self.inside.layout.now vs =
    ap (λ ps. values_at ps vs) c.places.ensures.places ∙ sym (placed_taken c.self.inside.layout.now vs) in
    subst (λ ts. OnOk c.push_placed.result (c.push_placed.new.self.tuples ≡ ts ++ placed_tuple sources vs ∷ [])) (ap (λ p. p.1) c.self.view_is)
    (one_put c.self.inside.layout.now c.self.inside.made c.push_placed.new.self (values_at c.places.result.now vs) vs c.self.invariant
    (subst (λ ss. AreInRange ss vs) (sym layout) c.requires) values c.push_placed.result c.push_placed.ensures.pushed
    sources (subst (IsPermutation sources) (sym layout) p))
