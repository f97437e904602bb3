use Rattle.std.proofs.Common.{◌≡◌, map, take}
use Rattle.std.specs.List.{Contains}
use Rattle.td_plan.specs.declared.rewriting.fixed.FixedValue.{FixedValue}
use Rattle.td_types.specs.model.Types.{attribute_names}
use Rattle.td_plan.proofs.rewriting.narrowed.in_heading_order.Given as goal

abbrev pub invariant-loop-place : goal.invariant-loop-place
invariant-loop-place l =
    (map (λ (x : FixedValue). x.name) l.part.items ≡ attribute_names (take l.place l.heading))
    × ((x : FixedValue) → Contains l.part.items x → Contains l.fn.fixed.items x)
    × ((x : FixedValue) → Contains l.rest.items x → Contains l.fn.fixed.items x)
