use Rattle.std.proofs.Common.{◌∙◌, FoldHasher, Some, ap, fold, map, sym}
use Rattle.std.proofs.lemmas.List.{at_drop_all}
use Rattle.std.specs.Hash.FoldHasher.{write}
use Rattle.td_body.specs.code.Hashes.{fed_found, found_hash}
use Rattle.td_body.proofs.hashed.hashes.hash_of.Goals as goal

pub returns : goal.returns
unfolding found_hash
returns c = c.finish.ensures ∙ ap (λ (s : FoldHasher). s.state) (sym (at_drop_all (λ vs. fold write c.loop-value.state (fed_found (map Some vs))) c.args.part.now c.loop-value.value-index c.loop-value-test.false)
    ∙ c.loop-value.invariant ∙ ap (λ s. fold write s (fed_found (map Some c.args.part.now))) c.default-state.ensures)
