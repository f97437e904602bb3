use Rattle.td_tree.proofs.code_lemmas.TextTests.{same_text_test}
use Rattle.td_tree.proofs.keyword.Keyword.is_spelled_by.Goals as goal

pub returns : goal.returns
returns c = rw (← c.word.ensures, ← c.as_bytes.ensures.value) (same_text_test _ _ _ c.eq_ignore_ascii_case.ensures.test)
