use Rattle.std.proofs.Common.{◌∙◌, subst, IsUtf8}
use Rattle.td_tree.proofs.law_lemmas.FrontLaws.{found_char}
use Rattle.td_scan.proofs.symbol.front_char.Goals as goal

pub returns-in-Ok : goal.returns-in-Ok
returns-in-Ok c =
    let steps = c.next.ensures.steps in
    let cases = c.in-Ok.ensures.cases in
    found_char c.args.bytes.now c.chars.result.rest.now c.next.result steps.2 (c.chars.ensures.rest ∙ cases.0 ∙ c.front_bytes.ensures) (subst IsUtf8 c.front_bytes.ensures cases.1)
