use Rattle.std.proofs.Common.{ℕ, List, ap, map}
use Rattle.std.specs.Global.{Vec}
use Rattle.td_engine.proofs.law_lemmas.SettingNames.{settings_are}
use Rattle.td_engine.specs.code.AssignedRelations.{setting_attribute}
use Rattle.td_eval.proofs.code_lemmas.WalkedLists.{walked}
use Rattle.td_tree.proofs.code_lemmas.Gatherings.{collected_next}
use Rattle.td_tree.specs.declared.expression.NamedExpr.{NamedExpr}
use Rattle.td_tree.specs.model.Outcomes.{gathered}
use Rattle.td_types.specs.declared.ty.Ty.{Ty}
use Rattle.td_types.specs.code.Pairs.{pair_view}
use Rattle.td_engine.proofs.settings.known_attributes.Goals as goal

pub returns : goal.returns
returns c =
    let f = λ (s : NamedExpr). setting_attribute c.args.heading.now s.name in
    walked (λ (a : Vec (List ℕ × Ty)). map pair_view a.items) f c.args.settings.now c.loop-setting.setting-index c.loop-setting-test.false c.loop-setting.causes c.loop-setting.attributes
    c.finish.result c.finish.ensures c.loop-setting.invariant _ (ap gathered (settings_are c.args.heading.now c.args.settings.now))

pub loop-setting-preserved : goal.loop-setting-preserved
loop-setting-preserved c =
    let f = λ (s : NamedExpr). setting_attribute c.args.heading.now s.name in
    collected_next pair_view f c.args.settings.now c.loop-setting.setting-index c.loop-setting-test.true c.setting-item.is
    c.loop-setting.invariant c.setting_attribute.ensures c.in_ok-collect.ensures
