use Rattle.std.proofs.Common.{◌≡◌, ◌∙◌, ◌+◌, ◌-◌, ◌∷◌, suc, ap, arith, drop, refl, sym, take}
use Rattle.td_tree.specs.model.Statements.{tokens}
use Rattle.td_scan.specs.code.Progress.{token_of_front}
use Rattle.td_scan.proofs.ReadLaws.{next_said}
use Rattle.td_scan.proofs.upcoming.Upcoming.kind.Goals as goal

pub returns-then-self-gt0-clause-some : goal.returns-then-self-gt0-clause-some
returns-then-self-gt0-clause-some c =
    let s = c.self.inside in
    let next = c.self.invariant.next c.if-self-gt0.true in
    let first = token_of_front s.start s.bytes.now s.first in
    let rest = tokens (s.start + s.first.length) (drop s.first.length s.bytes.now) in
    let one : s.left ≡ suc (s.left - 1) = omega (arith, c.if-self-gt0.true) in
    (first, take (s.left - 1) rest, sym c.self.view_is ∙ ap (take s.left) (next.same s.start) ∙ ap (λ n. take n (first ∷ rest)) one, refl, next_said s.bytes.now s.first next)
