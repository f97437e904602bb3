use Rattle.std.proofs.Common.{◌≡◌, drop, map}
use Rattle.std.specs.List.{list_all}
use Rattle.std.specs.Prelude.{◌&&◌}
use Rattle.td_types.specs.model.Headings.{are_distinct, has_attributes}
use Rattle.td_check.proofs.rules.keys.are_of_attributes.Given as goal

abbrev pub invariant-loop-key : goal.invariant-loop-key
invariant-loop-key l =
    list_all (λ key. has_attributes key l.heading && are_distinct key) (map (λ key. key.items) (drop l.key-index l.keys))
    ≡ list_all (λ key. has_attributes key l.heading && are_distinct key) (map (λ key. key.items) l.keys)
