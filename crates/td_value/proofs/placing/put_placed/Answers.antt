use Rattle.std.proofs.Common.{◌∙◌, ◌++◌, ◌∷◌, [], ap, append_assoc, false, get_or, sym, take}
use Rattle.std.proofs.lemmas.List.{map-append, take_more}
use Rattle.std.proofs.lemmas.Option.{get_or_from_slice_get}
use Rattle.td_value.specs.code.Places.{values_at}
use Rattle.td_value.specs.model.Values.{boolean}
use Rattle.td_value.proofs.placing.put_placed.Goals as goal

pub loop-place-preserved : goal.loop-place-preserved
loop-place-preserved c =
    let vs = c.args.first.now ++ c.args.second.now in
    let places = c.args.places.now in
    let i = c.loop-place.place-index in
    let value = c.in_ok-value.ensures ∙ sym (get_or_from_slice_get vs (get_or places i 0) c.value_at.result.now (boolean false) c.value_at.ensures) in
    let more = ap (λ ps. values_at ps vs) (take_more places i 0 c.loop-place-test.true) ∙ map-append (λ place. get_or vs place (boolean false)) (take i places) (get_or places i 0 ∷ []) in
    c.in_ok-push.ensures.items ∙ (λ k. c.loop-place.invariant k ++ value k ∷ [])
    ∙ append_assoc c.args.cells.now.items (values_at (take i places) vs) (get_or vs (get_or places i 0) (boolean false) ∷ [])
    ∙ ap (λ ws. c.args.cells.now.items ++ ws) (sym more)
