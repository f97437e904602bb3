use Rattle.std.proofs.Common.{◌∙◌, ◌∷◌, ◌++◌, [], ap, get_or, not, sym, true}
use Rattle.std.proofs.lemmas.List.{append_assoc}
use Rattle.td_body.proofs.RowSteps.{live_next, live_next_gone, mark_clear, mark_set}
use Rattle.td_body.proofs.hashed.rows.keep_live.Goals as goal

pub returns-then-not-is_live : goal.returns-then-not-is_live
returns-then-not-is_live c = λ first before. before
    ∙ sym (live_next_gone c.args.rows.now.rows c.args.rows.now.gone c.args.number c.row_at-row.result.now c.count-count.ensures.marks c.requires
    (mark_set (get_or c.args.rows.now.gone c.args.number true) c.is_live.result c.is_live.ensures (ap not c.if-not-is_live.true)))

pub returns : goal.returns
returns c = λ first before.
    let row = c.row_at-row.result.now in
    ap (λ l. first ++ l) (c.in_ok-push.ensures.items ∙ (λ i. c.args.kept.now.items ++ (c.in_ok-try_clone.ensures ∙ c.row_at-row.ensures) i ∷ []))
    ∙ sym (append_assoc first c.args.kept.now.items (get_or c.args.rows.now.rows c.args.number row ∷ []))
    ∙ ap (λ l. l ++ get_or c.args.rows.now.rows c.args.number row ∷ []) before
    ∙ sym (live_next c.args.rows.now.rows c.args.rows.now.gone c.args.number row c.count-count.ensures.marks c.requires
    (mark_clear (get_or c.args.rows.now.gone c.args.number true) c.is_live.result c.is_live.ensures c.if-not-is_live.false))
