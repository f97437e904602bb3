use Rattle.std.proofs.Common.{refl}
use Rattle.std.specs.Cmp.Lexicographic.{texts_ties}
use Rattle.td_eval.proofs.operators.comparisons.are_one.Goals as goal

pub returns-in-Text-Text : goal.returns-in-Text-Text
returns-in-Text-Text c =
    rw (← c.first.view_is, ← c.second.view_is, c.in-Text-Text.is-0, c.in-Text-Text.is-1, c.eq.ensures, texts_ties, c.as_str.ensures.value, c.as_str-in-Text-Text.ensures.value)
    refl
