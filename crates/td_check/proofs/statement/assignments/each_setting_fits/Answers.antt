use Rattle.td_check.specs.model.StatementTypes.{setting_fits}
use Rattle.td_check.proofs.StatementAnswers.{asked_more, viewed_all}
use Rattle.td_types.specs.code.Pairs.{pair_view}
use Rattle.td_check.proofs.statement.assignments.each_setting_fits.Goals as goal

pub loop-name-preserved : goal.loop-name-preserved
loop-name-preserved c =
    asked_more (λ s. setting_fits c.args.heading.now (pair_view s)) c.args.settings.now _ c.loop-name.name-index c.loop-name-item.result c.loop-name-test.true c.loop-name-item.is
    c.loop-name.causes c.setting_fits.result c.in_ok-add.field-0 c.add.new.self c.loop-name.invariant c.setting_fits.ensures c.in_ok-add.ensures.rest c.in_ok-add.ensures.cause

pub returns : goal.returns
returns c =
    viewed_all (setting_fits c.args.heading.now) pair_view c.args.settings.now c.loop-name.name-index c.loop-name-test.false
    c.loop-name.causes c.finish.result c.finish.ensures c.loop-name.invariant
