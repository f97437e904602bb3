use Rattle.std.proofs.Common.{◌++◌, codes, refl}
use Rattle.td_tree.specs.model.TextTokens.{with_quotes_doubled, text_in_quotes}
use Rattle.td_tree.proofs.code_lemmas.Fronts.{begun_more, begun_none, front_more, front_none, on_err}
use Rattle.td_tree.proofs.quoted.put_quoted.Goals as goal

pub returns-in_err-push_str-clause-err : goal.returns-in_err-push_str-clause-err
returns-in_err-push_str-clause-err c = on_err _ (front_none _ _ _ c.in_err-push_str.ensures.bytes)

pub returns-in_err-put_doubled-clause-err : goal.returns-in_err-put_doubled-clause-err
returns-in_err-put_doubled-clause-err c =
    on_err _ (front_more _ _ (with_quotes_doubled c.args.said.now ++ codes "'") _ _ _ (codes "'") refl
    (begun_more _ _ _ _ (codes "'") _ _ refl c.in_ok-push_str.ensures.bytes (begun_none _ (text_in_quotes c.args.said.now)))
    c.in_err-put_doubled.ensures.err)
