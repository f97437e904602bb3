use Rattle.std.proofs.Common.{map, take}
use Rattle.td_engine.specs.code.AssignedRelations.{setting_attribute}
use Rattle.td_tree.specs.declared.expression.NamedExpr.{NamedExpr}
use Rattle.td_tree.specs.code.Gatherings.{IsGathered}
use Rattle.td_types.specs.code.Pairs.{pair_view}
use Rattle.td_engine.proofs.settings.known_attributes.Given as goal

abbrev pub invariant-loop-setting : goal.invariant-loop-setting
invariant-loop-setting l =
    IsGathered l.causes (map pair_view l.attributes.items) (map (λ (s : NamedExpr). setting_attribute l.heading s.name) (take l.setting-index l.settings))
