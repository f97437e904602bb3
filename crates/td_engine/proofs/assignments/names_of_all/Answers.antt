use Rattle.std.proofs.Common.{◌∙◌, ◌∷◌, ◌++◌, ◌+◌, [], ap, append_assoc, drop, sym}
use Rattle.std.specs.Map.{keys_of}
use Rattle.td_engine.proofs.law_lemmas.InOrder.{drop_next}
use Rattle.td_engine.proofs.assignments.names_of_all.Goals as goal

pub loop-place-preserved : goal.loop-place-preserved
loop-place-preserved c =
    let es = c.args.given.now.entries in
    let place = c.loop-place.place in
    let names = c.loop-place.names.items in
    ap (λ ns. ns ++ keys_of (drop (place + 1) es)) (c.in_ok-push.ensures.items ∙ ap (λ n. names ++ (n ∷ [])) c.in_ok-try_clone.ensures)
    ∙ append_assoc names (c.in-Some.name.now ∷ []) (keys_of (drop (place + 1) es))
    ∙ sym (ap (λ xs. names ++ keys_of xs) (drop_next es place (c.in-Some.name.now, c.in-Some.field-0-1.now) (sym c.in-Some.ensures.entry)))
    ∙ c.loop-place.invariant
