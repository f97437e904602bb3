use Rattle.std.proofs.Common.{◌≡◌, ◌+◌, ◌*◌, ◌∙◌, ap, sym, length, arith, ℕ, List}
use Rattle.std.proofs.Common.{◌≤◌, ◌-◌, Some, take, drop}
use Rattle.std.specs.List.{slice_get}
use Rattle.std.proofs.lemmas.List.{length-drop}
use Rattle.td_value.proofs.Cut.{cut_values}
use Rattle.td_value.proofs.Placed.{placed, rows_length}
use Rattle.td_value.specs.model.Values.{Tuple, Val}
use Rattle.td_value.specs.code.Blocks.{Making, row_view}
use Rattle.td_value.specs.code.Views.{values_of}
use Rattle.td_value.proofs.tuples.Tuples.row.Goals as goal

one : {X : Type 0} {x y : X} → Some x ≡ Some y → x ≡ y
one e = cc

-- the part of the values is the tuple's
part : (ns : List (List ℕ)) (vs ws : List Val) (start width : ℕ) (t : Tuple) → width ≡ length ns → ws ≡ vs → start + length ns ≤ length vs → row_view ns start vs ≡ t
    → take (start + width - start) (drop start ws) ≡ values_of t
part ns vs ws start width t w e h same =
    let wide : start + width - start ≡ length ns = omega (arith, w) in
    ap (λ n. take n (drop start ws)) wide ∙ ap (λ r. take (length ns) (drop start r)) e
    ∙ sym (cut_values ns (drop start vs) (omega (arith, h, length-drop start vs))) ∙ ap values_of same

pub overflow_mul-start : goal.overflow_mul-start
overflow_mul-start c =
    let a = c.self.inside in
    let count : length c.args.self.now.tuples ≡ a.count = sym (ap (λ (m : Making). length m.tuples) c.self.view_is) ∙ rows_length a.names.value.items a.count a.cells.items in
    let here = placed a.names.value.items a.count c.args.place (c.args.place * a.width) a.cells.items (ap (λ w. c.args.place * w) c.self.invariant.width_is) (omega (arith, c.requires, count)) c.self.invariant.whole in
    omega (arith, here.inside, c.self.invariant.width_is, a.cells.ok.0, a.cells.small)

pub overflow_add-end : goal.overflow_add-end
overflow_add-end c =
    let a = c.self.inside in
    let count : length c.args.self.now.tuples ≡ a.count = sym (ap (λ (m : Making). length m.tuples) c.self.view_is) ∙ rows_length a.names.value.items a.count a.cells.items in
    let here = placed a.names.value.items a.count c.args.place (c.args.place * a.width) a.cells.items (ap (λ w. c.args.place * w) c.self.invariant.width_is) (omega (arith, c.requires, count)) c.self.invariant.whole in
    omega (arith, here.inside, c.self.invariant.width_is, a.cells.ok.0, a.cells.small)

pub offset_bounds-deref-start : goal.offset_bounds-deref-start
offset_bounds-deref-start c =
    let a = c.self.inside in
    let count : length c.args.self.now.tuples ≡ a.count = sym (ap (λ (m : Making). length m.tuples) c.self.view_is) ∙ rows_length a.names.value.items a.count a.cells.items in
    let here = placed a.names.value.items a.count c.args.place (c.args.place * a.width) a.cells.items (ap (λ w. c.args.place * w) c.self.invariant.width_is) (omega (arith, c.requires, count)) c.self.invariant.whole in
    omega (arith, here.inside, c.self.invariant.width_is, ap length c.deref.ensures.value, c.deref.type_inv)

pub slice_bounds-result-end : goal.slice_bounds-result-end
slice_bounds-result-end c =
    let a = c.self.inside in
    let count : length c.args.self.now.tuples ≡ a.count = sym (ap (λ (m : Making). length m.tuples) c.self.view_is) ∙ rows_length a.names.value.items a.count a.cells.items in
    let here = placed a.names.value.items a.count c.args.place (c.args.place * a.width) a.cells.items (ap (λ w. c.args.place * w) c.self.invariant.width_is) (omega (arith, c.requires, count)) c.self.invariant.whole in
    omega (arith, here.inside, c.self.invariant.width_is, ap length c.deref.ensures.value)

pub returns : goal.returns
returns c =
    let a = c.self.inside in
    let count : length c.args.self.now.tuples ≡ a.count = sym (ap (λ (m : Making). length m.tuples) c.self.view_is) ∙ rows_length a.names.value.items a.count a.cells.items in
    let here = placed a.names.value.items a.count c.args.place (c.args.place * a.width) a.cells.items (ap (λ w. c.args.place * w) c.self.invariant.width_is) (omega (arith, c.requires, count)) c.self.invariant.whole in
    λ t e.
    let same : row_view a.names.value.items (c.args.place * a.width) a.cells.items ≡ t = one (sym here.row ∙ ap (λ (m : Making). slice_get m.tuples c.args.place) c.self.view_is ∙ e) in
    part a.names.value.items a.cells.items c.deref.result.now (c.args.place * a.width) a.width t c.self.invariant.width_is c.deref.ensures.value here.inside same
