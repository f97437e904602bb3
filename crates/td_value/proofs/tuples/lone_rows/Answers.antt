use Rattle.std.proofs.Common.{◌≡◌, ◌+◌, ◌-◌, ◌∙◌, ◌++◌, [], ap, sym, subst, length, drop, arith, ℕ, List}
use Rattle.std.specs.Vec.{vec_len}
use Rattle.std.proofs.Common.{take}
use Rattle.std.proofs.lemmas.List.{length-drop}
use Rattle.td_value.proofs.Cut.{cut_first, cut_tuple}
use Rattle.td_value.proofs.Made.{AreValues-drop, first_of, made_more}
use Rattle.td_value.specs.model.Values.{IsTuple, Val}
use Rattle.td_value.specs.code.Blocks.{row_view}
use Rattle.td_value.specs.code.Views.{tuple_view}
use Rattle.td_value.proofs.tuples.lone_rows.Goals as goal

pub slice_bounds-put_copies-end : goal.slice_bounds-put_copies-end
slice_bounds-put_copies-end c =
    let ns = c.args.names.now.value.items in
    let vs = c.args.cells.now in
    let width = c.len-width.ensures ∙ ap vec_len c.deref.ensures ∙ c.args.names.now.value.ok.0 in
    let first = first_of ns c.loop-left.left c.loop-left.start vs c.loop-left-test.true c.loop-left.invariant.0 c.loop-left.invariant.1 in
    omega (arith, first.inside, width)

-- the copies are the values of the row
copied : (ns : List (List ℕ)) (vs none row : List Val) (start width : ℕ) → width ≡ length ns → none ≡ [] → row ≡ none ++ take (start + width - start) (drop start vs) → tuple_view ns row ≡ row_view ns start vs
copied ns vs none row start width w e h =
    let wide : start + width - start ≡ length ns = omega (arith, w) in
    ap (tuple_view ns) (h ∙ ap (λ r. r ++ take (start + width - start) (drop start vs)) e ∙ ap (λ n. take n (drop start vs)) wide) ∙ cut_first ns (drop start vs)

pub lone_row-requires-clause-valid : goal.lone_row-requires-clause-valid
lone_row-requires-clause-valid c =
    let ns : List (List ℕ) = c.args.names.now.value.items in
    let vs : List Val = c.args.cells.now in
    let start = c.loop-left.start in
    let width = c.len-width.ensures ∙ ap vec_len c.deref.ensures ∙ c.args.names.now.value.ok.0 in
    let first = first_of ns c.loop-left.left start vs c.loop-left-test.true c.loop-left.invariant.0 c.loop-left.invariant.1 in
    let row = copied ns vs c.in_ok-row.row.items c.put_copies.new.made.items start c.len-width.result width c.in_ok-row.ensures.items c.in_ok-put_copies.ensures in
    let made = ap (λ n. tuple_view n.items c.put_copies.new.made.items) c.in_ok-clone.ensures.cases ∙ row in
    subst IsTuple (sym made) (cut_tuple ns (drop start vs) (omega (arith, first.inside, length-drop start vs)) c.requires.names (AreValues-drop start vs c.requires.valid))

pub loop-left-preserved : goal.loop-left-preserved
loop-left-preserved c =
    let ns : List (List ℕ) = c.args.names.now.value.items in
    let vs : List Val = c.args.cells.now in
    let start = c.loop-left.start in
    let width = c.len-width.ensures ∙ ap vec_len c.deref.ensures ∙ c.args.names.now.value.ok.0 in
    let first = first_of ns c.loop-left.left start vs c.loop-left-test.true c.loop-left.invariant.0 c.loop-left.invariant.1 in
    let row = copied ns vs c.in_ok-row.row.items c.put_copies.new.made.items start c.len-width.result width c.in_ok-row.ensures.items c.in_ok-put_copies.ensures in
    let made = c.in_ok-lone_row.ensures ∙ ap (λ n. tuple_view n.items c.put_copies.new.made.items) c.in_ok-clone.ensures.cases ∙ row in
    made_more ns vs c.loop-left.left start c.len-width.result c.loop-left.tuples.items c.push.new.self.items _ c.in_ok-lone_row.field-0 (sym width) first
    c.in_ok-push.ensures.items made c.loop-left.invariant.2
