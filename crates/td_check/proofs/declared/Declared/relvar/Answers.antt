use Rattle.std.proofs.Common.{◌∙◌, ap, option_map, take}
use Rattle.std.specs.Map.{lookup}
use Rattle.td_check.specs.code.ScopeCode.{seen_view}
use Rattle.td_check.specs.declared.scope.Kind.TheVariants.{Base, Virtual}
use Rattle.td_check.proofs.LentScopes.{in_declared, or_else}
use Rattle.td_types.specs.model.Types.{Heading, same_name}
use Rattle.td_check.proofs.declared.Declared.relvar.Goals as goal

pub returns-in-Some : goal.returns-in-Some
returns-in-Some c =
    let behind = option_map (λ (h : Heading). (Virtual, h)) (lookup (same_name c.args.name.now) (take c.args.virtuals c.args.self.now.virtuals.entries)) in
    ap (λ o. or_else (option_map (λ (h : Heading). (Base, h)) o) behind) c.in-Some.ensures.value
    ∙ in_declared c.args.name.now c.args.self.now c.args.virtuals

pub returns-in_ok-heading-in-None : goal.returns-in_ok-heading-in-None
returns-in_ok-heading-in-None c =
    (λ i. or_else (option_map (λ (h : Heading). (Base, h)) (c.in-None.ensures.value i)) (option_map (λ (h : Heading). (Virtual, h)) (c.in_ok-heading-in-None.ensures i)))
    ∙ in_declared c.args.name.now c.args.self.now c.args.virtuals

pub returns-in_err-heading-in-None : goal.returns-in_err-heading-in-None
returns-in_err-heading-in-None c =
    ap (option_map seen_view) c.from_residual.ensures
    ∙ (λ i. or_else (option_map (λ (h : Heading). (Base, h)) (c.in-None.ensures.value i)) (option_map (λ (h : Heading). (Virtual, h)) (c.in_err-heading-in-None.ensures i)))
    ∙ in_declared c.args.name.now c.args.self.now c.args.virtuals
