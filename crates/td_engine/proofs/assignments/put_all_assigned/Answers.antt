use Rattle.std.proofs.Common.{◌∙◌, ◌<◌, ap, length, subst, sym}
use Rattle.td_catalog.specs.model.Database.{Database}
use Rattle.td_engine.proofs.law_lemmas.AssignedInTurn.{assigned_passed, assigned_refused}
use Rattle.td_engine.proofs.code_lemmas.StageLaws.{on_and_on}
use Rattle.td_engine.specs.code.Changes.{given_in}
use Rattle.td_engine.proofs.assignments.put_all_assigned.Goals as goal

pub put_assigned-requires : goal.put_assigned-requires
put_assigned-requires g c = λ κs within.
    let counted = c.base_count-place-end.ensures ∙ ap (λ (d : Database). length d.bases) (sym c.requires.1.0.0) in
    (within, ((c.requires.1.0.1, c.requires.1.0.2), (c.requires.1.1, (c.loop-place.invariant.0, subst (λ n. c.loop-place.place < n) counted c.loop-place-test.true))))

pub returns-in-Err-clause-check : goal.returns-in-Err-clause-check
returns-in-Err-clause-check g c =
    let counted = c.base_count-place-end.ensures ∙ ap (λ (d : Database). length d.bases) (sym c.requires.1.0.0) in
    assigned_refused (given_in g.db c.args.given.now.entries) g.db.bases c.loop-place.place c.in-Err.failure
    (subst (λ n. c.loop-place.place < n) counted c.loop-place-test.true) c.loop-place.invariant.1 c.in-Err.ensures.check

pub loop-place-preserved : goal.loop-place-preserved
loop-place-preserved g c =
    let counted = c.base_count-place-end.ensures ∙ ap (λ (d : Database). length d.bases) (sym c.requires.1.0.0) in (
      c.in-Ok.ensures.next,
      assigned_passed (given_in g.db c.args.given.now.entries) g.db.bases c.loop-place.place
          (subst (λ n. c.loop-place.place < n) counted c.loop-place-test.true) c.loop-place.invariant.1 c.in-Ok.ensures.check,
      on_and_on _ _ _ c.loop-place.invariant.2 c.put_assigned.ensures.on,
    )
