use Rattle.std.proofs.Common.{◌≡◌, ◌∙◌, ◌-◌, ◌∷◌, ◌++◌, [], ap, arith, length, length-append, take, subst}
use Rattle.std.specs.List.{All}
use Rattle.std.specs.Option.{option_to_list}
use Rattle.td_value.specs.model.Values.{IsTupleOf}
use Rattle.td_body.specs.code.Numbered.{front}
use Rattle.td_body.proofs.Lives.{front_take}
use Rattle.td_body.proofs.RowSteps.{all_front}
use Rattle.td_body.proofs.hashed.rows.Rows.pop.Goals as goal

pub returns-clause-gone : goal.returns-clause-gone
returns-clause-gone c = subst (λ s. c.truncate.new.self.items ≡ front s.gone) c.self.view_is
    (c.truncate.ensures.items ∙ ap (λ n. take (n - 1) c.self.inside.gone.items) (ap length c.as_slice-marks.ensures.value) ∙ front_take c.self.inside.gone.items)

pub invariant_of-self : goal.invariant_of-self
invariant_of-self c =
    let base = c.self.inside.base.body in
    let late : c.self.inside.late.items ≡ c.pop.new.self.items ++ c.unwrap.result ∷ [] = c.pop.ensures.items ∙ ap (λ o. c.pop.new.self.items ++ option_to_list o) c.unwrap.ensures in
    let split = length-append base c.self.inside.late.items in
    let rest = length-append base c.pop.new.self.items in
    let more = ap length late ∙ length-append c.pop.new.self.items (c.unwrap.result ∷ []) in (
      omega (arith, c.truncate.ensures.len, c.as_slice-marks.ensures.len, c.self.invariant.0, split, rest, more),
      all_front (IsTupleOf c.self.inside.base.heading) base c.pop.new.self.items c.unwrap.result
          (subst (λ l. All (IsTupleOf c.self.inside.base.heading) (base ++ l)) late c.self.invariant.1),
    )
