use Rattle.std.proofs.Common.{◌∙◌, ap, option_map, sym}
use Rattle.td_check.proofs.LentScopes.{taken_beyond, taken_nowhere, taken_within}
use Rattle.td_types.specs.model.Types.{same_name}
use Rattle.td_check.proofs.declared.Declared.virtual_heading.Goals as goal

pub returns-in_err-place : goal.returns-in_err-place
returns-in_err-place c =
    ap (option_map (λ h. h.now)) c.from_residual.ensures ∙ sym (taken_nowhere (same_name c.args.name.now) c.args.self.now.virtuals.entries c.args.virtuals (sym c.in_err-place.ensures.value))

pub returns-then-place-virtuals : goal.returns-then-place-virtuals
returns-then-place-virtuals c =
    c.in_ok-place.ensures.value
    ∙ sym (taken_within (same_name c.args.name.now) c.args.self.now.virtuals.entries c.args.virtuals c.in_ok-place.place (sym c.in_ok-place.ensures.index) c.if-place-virtuals.true)

pub returns-else-place-virtuals : goal.returns-else-place-virtuals
returns-else-place-virtuals c =
    sym (taken_beyond (same_name c.args.name.now) c.args.self.now.virtuals.entries c.args.virtuals c.in_ok-place.place (sym c.in_ok-place.ensures.index) c.if-place-virtuals.false)
