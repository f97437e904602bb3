use Rattle.std.proofs.Common.{◌≡◌, ◌+◌, ◌-◌, ◌∙◌, ap, sym, arith, length, drop, take}
use Rattle.std.proofs.lemmas.List.{length-drop}
use Rattle.td_value.proofs.Cut.{cut_values}
use Rattle.td_value.specs.code.Views.{values_of}
use Rattle.td_value.proofs.tuple.Tuple.values.Goals as goal

pub returns-clause-values : goal.returns-clause-values
returns-clause-values c =
    let b = c.self.inside.block.value in
    let start = c.self.inside.start in
    let names = b.names.value.items in
    let block = c.deref-block.ensures in
    let width : start + c.deref-block.result.now.width - start ≡ length names = omega (arith, ap (λ x. x.width) block, c.self.invariant.width_is) in
    let cells = c.deref.ensures.value ∙ ap (λ x. x.cells.items) block in
    ap (λ n. take n (drop start c.deref.result.now)) width ∙ ap (λ vs. take (length names) (drop start vs)) cells
    ∙ sym (cut_values names (drop start b.cells.items) (omega (arith, c.self.invariant.inside, length-drop start b.cells.items)))
    ∙ ap values_of c.self.view_is
