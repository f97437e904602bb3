use Rattle.std.proofs.Common.{◌≡◌, ◌+◌, ◌-◌, ◌∙◌, ap, sym, subst, length, drop, ℕ, List}
use Rattle.std.specs.Vec.{vec_len}
use Rattle.td_value.proofs.Made.{deep_first, deep_row, first_of, made_more}
use Rattle.td_value.specs.model.Values.{AreValues, Val, pack_parts}
use Rattle.td_value.specs.code.Blocks.{AreAsDeep}
use Rattle.td_value.specs.code.Depths.{parts_depth}
use Rattle.td_value.specs.code.Zipped.{AreNames}
use Rattle.td_value.proofs.tuples.shared_rows.Goals as goal

pub row_at-requires : goal.row_at-requires
row_at-requires c =
    let ok = c.in_ok-block.ensures.ok in
    let b = c.in_ok-block.block.value in
    let ns : List (List ℕ) = b.names.value.items in
    let vs : List Val = b.cells.items in
    let names : c.args.names.value.items ≡ ns = sym (ap (λ x. x.names.value.items) ok) in
    let cells : c.args.cells.items ≡ vs = sym (ap (λ x. x.cells.items) ok) in
    let width = ap (λ x. x.width) ok ∙ c.len-width.ensures ∙ ap vec_len c.deref.ensures ∙ c.args.names.value.ok.0 ∙ ap length names in
    let first = first_of ns c.loop-left.left c.loop-left.start vs c.loop-left-test.true c.loop-left.invariant.0 c.loop-left.invariant.1 in
    let deep = deep_first ns c.loop-left.left c.loop-left.start (parts_depth (pack_parts vs)) vs c.loop-left-test.true c.loop-left.invariant.2 in
    deep_row ns b.width c.loop-left.start vs width first.inside deep.0 (subst AreNames names c.requires.names) (subst (λ v. AreValues (pack_parts v)) cells c.requires.valid)

pub loop-left-preserved : goal.loop-left-preserved
loop-left-preserved c =
    let ok = c.in_ok-block.ensures.ok in
    let b = c.in_ok-block.block.value in
    let ns : List (List ℕ) = b.names.value.items in
    let vs : List Val = b.cells.items in
    let width = ap (λ x. length x.names.value.items) ok ∙ sym (c.len-width.ensures ∙ ap vec_len c.deref.ensures ∙ c.args.names.value.ok.0) in
    let first = first_of ns c.loop-left.left c.loop-left.start vs c.loop-left-test.true c.loop-left.invariant.0 c.loop-left.invariant.1 in
    let deep = deep_first ns c.loop-left.left c.loop-left.start (parts_depth (pack_parts vs)) vs c.loop-left-test.true c.loop-left.invariant.2 in
    let more = made_more ns vs c.loop-left.left c.loop-left.start c.len-width.result c.loop-left.tuples.items c.push.new.self.items _ c.in_ok-row_at.field-0 width first
    c.in_ok-push.ensures.items c.in_ok-row_at.ensures c.loop-left.invariant.3 in
    (more.0, more.1, subst (λ n. AreAsDeep ns (c.loop-left.left - 1) (drop (c.loop-left.start + n) vs) (parts_depth (pack_parts vs))) width deep.1, more.2)
