use Rattle.std.proofs.Common.{◌≡◌, ◌∙◌, ◌<◌, ◌++◌, ◌∷◌, [], ap, arith, get_or, length, not, sym, take, true}
use Rattle.std.proofs.lemmas.List.{take_more}
use Rattle.td_body.specs.code.Numbered.{tuple_eq}
use Rattle.td_body.proofs.RowSteps.{both_hold, live_next, live_next_gone, mark_set, tuple_equal}
use Rattle.td_body.proofs.hashed.rows.Rows.seen_at.Goals as goal

pub returns-then-not-is_live-clause-seen : goal.returns-then-not-is_live-clause-seen
returns-then-not-is_live-clause-seen c =
    live_next_gone c.args.self.now.rows c.args.self.now.gone c.args.number c.row_at-row.result.now c.count-count.ensures.marks c.requires.within
    (mark_set (get_or c.args.self.now.gone c.args.number true) c.is_live.result c.is_live.ensures (ap not c.if-not-is_live.true))
    ∙ c.requires.seen

pub returns-clause-seen : goal.returns-clause-seen
returns-clause-seen c =
    let rows = c.args.self.now.rows in
    let gone = c.args.self.now.gone in
    let n = c.args.number in
    let d = c.index-tuples-seen.result in
    let low : c.args.seen < length c.args.tuples.now = omega (arith, c.requires.few, c.if-seen-tuples.false) in
    let passes = both_hold (get_or gone n true) (tuple_eq d (get_or rows n d)) (sym c.is_row.ensures ∙ c.if-not-is_row.false) in
    let is : d ≡ get_or rows n d = tuple_equal d (get_or rows n d) passes.1 in
    live_next rows gone n d c.count-count.ensures.marks c.requires.within passes.0
    ∙ ap (λ l. l ++ get_or rows n d ∷ []) c.requires.seen ∙ ap (λ r. take c.args.seen c.args.tuples.now ++ r ∷ []) (sym is ∙ c.index-tuples-seen.is)
    ∙ sym (take_more c.args.tuples.now c.args.seen d low)
