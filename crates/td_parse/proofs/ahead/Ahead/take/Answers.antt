use Rattle.std.proofs.Common.{◌≡◌, ◌∙◌, ◌∷◌, ◌++◌, ap, arith, drop, refl, rules, sym}
use Rattle.std.proofs.lemmas.Grind.{common_steps}
use Rattle.td_tree.specs.model.TokenLexemes.{lexemes}
use Rattle.td_parse.specs.code.Parsing.{seen_as}
use Rattle.td_parse.proofs.NextTokens.{first_listed, none_listed, seen_token}
use Rattle.td_parse.proofs.ahead.Ahead.take.Goals as goal

pub returns-in-len1-up-clause-taken : goal.returns-in-len1-up-clause-taken
returns-in-len1-up-clause-taken c =
    let t = c.token-item.result in
    let e = seen_token t c.kind-in-len1-up.result c.text-in-len1-up.result.now c.kind-in-len1-up.ensures.value c.text-in-len1-up.ensures c.kind-in-len1-up.ensures.said in
    first_of (search rules, grind (arith, common_steps))

pub returns-in_ok-token-in-empty-clause-taken : goal.returns-in_ok-token-in-empty-clause-taken
returns-in_ok-token-in-empty-clause-taken c =
    let s = c.self.inside in
    let t = c.in_ok-token-in-empty.token in
    let none = none_listed s.listed.now c.in-empty.len_below in
    sym c.self.view_is ∙ ap (λ x. lexemes (x ++ s.upcoming)) none ∙ ap lexemes c.in_ok-token-in-empty.ensures.some
    ∙ ap (λ x. x ∷ lexemes c.take.new.self) (seen_token t c.kind.result c.text.result.now c.kind.ensures.value c.text.ensures c.kind.ensures.said)
    ∙ ap (λ x. seen_as c.kind.result c.text.result.now ∷ lexemes (x ++ c.take.new.self)) (sym none)
