use Rattle.std.proofs.Common.{◌≡◌, ◌-◌, map}
use Rattle.td_parse.specs.code.ReadingSteps.{list_by_words, repeated_from}
use Rattle.std.proofs.Common.{List, ℕ, Vec, Global}
use Rattle.td_parse.specs.code.ReadingSteps.{names}
use Rattle.td_tree.specs.model.Lexemes.{keyword}
use Rattle.td_tree.specs.declared.keyword.Keyword.TheVariants as k
use Rattle.td_parse.proofs.definition.keys.Given as goal

-- what is left goes on from the keys so far
abbrev pub invariant-loop-turn : goal.invariant-loop-turn
invariant-loop-turn l = list_by_words (keyword k.Key) names l.fn.tokens ≡ repeated_from (keyword k.Key) names (l.limit - l._turn) (map (λ (key : Vec (List ℕ) Global). key.items) l.keys.items) l.tokens
