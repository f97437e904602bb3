use Rattle.std.proofs.Common.{◌∙◌, ◌%◌, ◌^◌, FoldHasher, ap, arith, fold}
use Rattle.std.proofs.lemmas.Nat.{one_shl}
use Rattle.std.specs.Hash as fed
use Rattle.std.specs.Hash.FoldHasher.{write}
use Rattle.td_catalog.specs.code.NameMarks.{hash_of}
use Rattle.td_catalog.proofs.marked_names.name_mark.Goals as goal

pub returns : goal.returns
unfolding hash_of
returns c =
    one_shl (c.finish.result % 64) 64 (omega arith)
    ∙ ap (λ h. 2 ^ (h % 64))
    (c.finish.ensures
    ∙ ap (λ (s : FoldHasher). s.state) (c.hash.ensures ∙ ap (λ s. fold write s (fed.str c.args.name.now)) c.default-state.ensures))
