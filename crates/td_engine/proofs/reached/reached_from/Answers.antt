use Rattle.std.proofs.Common.{◌∙◌, ◌+◌, ◌≤◌, ap, drop, subst, sym}
use Rattle.std.proofs.lemmas.List.{drop_all}
use Rattle.td_catalog.specs.code.CatalogViews.{virtual_view}
use Rattle.td_engine.proofs.law_lemmas.InOrder.{drop_next, none_left}
use Rattle.td_eval.specs.laws.ReachedRelvars.{reached_from}
use Rattle.td_engine.proofs.reached.reached_from.Goals as goal

pub returns-in_default : goal.returns-in_default
returns-in_default g c =
    ap (reached_from c.loop-place.reached) (sym (none_left c.args.catalog.now.database.virtuals c.loop-place.place (sym c.in_default.ensures))) ∙ c.loop-place.invariant

pub loop-place-preserved : goal.loop-place-preserved
loop-place-preserved g c =
    let vs = c.args.catalog.now.database.virtuals in
    let place = c.loop-place.place in
    ap (λ names. reached_from names (drop (place + 1) vs)) c.in_ok-reach.ensures
    ∙ sym (ap (reached_from c.loop-place.reached) (drop_next vs place (virtual_view (c.in-Some.name.now, c.in-Some.entry.now)) (sym c.in-Some.ensures)))
    ∙ c.loop-place.invariant

pub returns : goal.returns
returns g c =
    let vs = c.args.catalog.now.database.virtuals in
    ap (reached_from c.loop-place.reached)
    (sym (drop_all c.loop-place.place vs (subst (λ n. n ≤ c.loop-place.place) c.virtual_count-place-end.ensures c.loop-place-test.false)))
    ∙ c.loop-place.invariant
