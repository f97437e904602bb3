use Rattle.std.proofs.Common.{◌≡◌, ◌∙◌, ◌∷◌, ◌++◌, ap, drop, refl, sym}
use Rattle.td_parse.proofs.NextTokens.{first_listed, none_listed, sees_first, sees_upcoming}
use Rattle.td_parse.proofs.ahead.Ahead.kind.Goals as goal

pub returns-in-empty : goal.returns-in-empty
returns-in-empty c =
    let s = c.self.inside in
    sees_upcoming c.args.self.now s.listed.now s.upcoming c.kind.result (sym c.self.view_is) (none_listed s.listed.now c.in-empty.len_below) c.kind.ensures.some c.kind.ensures.none

pub returns-in-len1-up : goal.returns-in-len1-up
returns-in-len1-up c =
    let s = c.self.inside in
    let t = c.token-item.result in
    let first = first_listed s.listed.now t c.in-len1-up.len_at_least ∙ ap (λ x. x ∷ drop 1 s.listed.now) (sym c.token-item.is) in
    sees_first c.args.self.now (s.listed.now ++ s.upcoming) (drop 1 s.listed.now ++ s.upcoming) t c.kind-in-len1-up.result (sym c.self.view_is)
    (ap (λ x. x ++ s.upcoming) first) c.kind-in-len1-up.ensures.value c.kind-in-len1-up.ensures.said
