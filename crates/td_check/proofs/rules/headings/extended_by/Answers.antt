use Rattle.std.proofs.Common.{◌≡◌, ◌∙◌, ◌∷◌, ap, arith, length, sym}
use Rattle.std.specs.Vec.Iter.{into_iter_items}
use Rattle.td_check.specs.model.OperatorTypes.{extended_by}
use Rattle.td_types.specs.code.Views.{pairs_view, type_view}
use Rattle.td_check.proofs.HeadingRules.{extended_more}
use Rattle.td_check.proofs.rules.headings.extended_by.Goals as goal

pub loop-name-preserved : goal.loop-name-preserved
loop-name-preserved c =
    let at = c.loop-name in
    let steps : into_iter_items at.name-iterator ≡ (c.in-Some.name, c.in-Some.ty) ∷ into_iter_items c.next.new.self = c.in-Some.ensures.steps.0 in (
      extended_more at.extended c.in_ok-extended.extended (c.in-Some.name, type_view c.in-Some.ty) (pairs_view (into_iter_items c.next.new.self)) c.in_ok-extended.ensures.answer
          ∙ ap (λ xs. extended_by at.extended (pairs_view xs)) (sym steps) ∙ at.invariant.0,
      let was = at.invariant.1 in
          let gone = c.in-Some.ensures.steps.1 in
          let short = ap length steps in
          omega arith,
    )
