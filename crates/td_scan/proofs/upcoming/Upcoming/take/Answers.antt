use Rattle.std.proofs.Common.{◌≡◌, ◌∙◌, ◌-◌, ◌∷◌, suc, ap, arith, sym, take}
use Rattle.td_tree.specs.model.Statements.{tokens}
use Rattle.td_scan.proofs.upcoming.Upcoming.take.Goals as goal

pub returns-clause-some : goal.returns-clause-some
returns-clause-some c =
    let s = c.self.inside in
    let token = c.split-found.result.token in
    let rest = c.split-found.result.rest.now in
    let one : s.left ≡ suc (s.left - 1) = omega (arith, c.if-self-eq0.false) in
    let later = ap (λ n. take (s.left - 1) (tokens n rest)) (sym c.stop.ensures) ∙ sym c.new.ensures ∙ sym c.self-2.view_is in
    sym c.self.view_is ∙ ap (take s.left) c.split-found.ensures.found
    ∙ ap (λ n. take n (token ∷ tokens token.stop rest)) one ∙ ap (λ ts. token ∷ ts) later
