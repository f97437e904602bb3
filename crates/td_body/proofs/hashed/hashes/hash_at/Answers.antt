use Rattle.std.proofs.Common.{◌∙◌, FoldHasher, ap, fold, sym}
use Rattle.std.proofs.lemmas.List.{at_drop_all}
use Rattle.std.specs.Hash.FoldHasher.{write}
use Rattle.td_body.specs.code.Hashes.{fed_found, found_hash}
use Rattle.td_body.specs.code.KeyParts.{tuple_values_at}
use Rattle.td_body.proofs.hashed.hashes.hash_at.Goals as goal

pub returns : goal.returns
unfolding found_hash
returns c = c.finish.ensures ∙ ap (λ (s : FoldHasher). s.state) (sym (at_drop_all (λ ps. fold write c.loop-place.state (fed_found (tuple_values_at ps c.args.tuple.now))) c.args.places.now c.loop-place.place-index c.loop-place-test.false)
    ∙ c.loop-place.invariant ∙ ap (λ s. fold write s (fed_found (tuple_values_at c.args.places.now c.args.tuple.now))) c.default-state.ensures)
