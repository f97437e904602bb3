use Rattle.std.proofs.Common.{◌≡◌, ◌++◌, map}
use Rattle.td_plan.specs.declared.rewriting.fixed.FixedValue.{FixedValue}
use Rattle.td_plan.proofs.rewriting.narrowed.part_step.Given as goal

abbrev pub invariant-loop-attribute : goal.invariant-loop-attribute
invariant-loop-attribute l =
    (l.fn.part.items ≡ l.yielded ++ l.attribute-iterator.rest.items)
    × (l.names.items ≡ map (λ (x : FixedValue). x.name) l.yielded)
    × (l.values.items ≡ map (λ (x : FixedValue). x.value) l.yielded)
