use Rattle.std.proofs.Common.{ℕ, List}
use Rattle.td_body.specs.code.Chains.{AreLinked}
use Rattle.td_body.proofs.ChainSkips.{IsOver}
use Rattle.td_body.proofs.hashed.chains.Chains.above.Given as goal

abbrev pub invariant-walk : goal.invariant-walk
invariant-walk l = (hashes : List ℕ) → AreLinked hashes l.self.skipped.items l.self.last l.self.next.items → IsOver hashes l.self.skipped.items l.hash l.number l.at

abbrev pub decreases-walk : goal.decreases-walk
decreases-walk l = l.at
