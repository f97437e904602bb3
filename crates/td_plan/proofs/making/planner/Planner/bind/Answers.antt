use Rattle.std.proofs.Common.{◌≡◌, ◌∙◌, ◌∷◌, [], subst}
use Rattle.std.specs.Prelude.{OnOk}
use Rattle.td_check.specs.model.Scopes.{entered_with}
use Rattle.td_types.specs.model.Headings.{add_missing}
use Rattle.td_types.specs.code.Views.{type_view}
use Rattle.td_plan.proofs.making.planner.Planner.bind.Goals as goal

pub returns-clause-scope : goal.returns-clause-scope
returns-clause-scope g c =
    let t = type_view c.args.ty in
    let same : c.in_ok-heading.heading ≡ (c.args.name.now, t) ∷ [] = c.in_ok-heading.ensures ∙ (λ i. add_missing (c.empty.ensures i) (c.in_ok-try_clone.ensures i, t)) in
    subst (λ h. OnOk c.enter.result (c.enter.new.self.scope ≡ entered_with h c.args.self.now.scope)) same c.enter.ensures.scope
