use Rattle.std.proofs.Common.{◌≡◌, drop}
use Rattle.td_parse.specs.model.Meanings.{has_bad}
use Rattle.td_parse.proofs.statement.has_bad.Given as goal

-- what is left decides
abbrev pub invariant-loop-token : goal.invariant-loop-token
invariant-loop-token l = has_bad (drop l.token-index l.tokens) ≡ has_bad l.tokens
