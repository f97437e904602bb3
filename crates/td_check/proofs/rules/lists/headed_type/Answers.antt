use Rattle.std.proofs.Common.{map, refl, subst}
use Rattle.td_check.specs.model.OperatorTypes.{element_type}
use Rattle.td_check.proofs.GatheredAnswers.{answered_with, map_twice, test_gathered}
use Rattle.td_check.proofs.rules.lists.headed_type.Goals as goal
use Rattle.td_tree.specs.code.Gatherings.{IsGathered}
use Rattle.td_tree.specs.model.Outcomes.{Valued}
use Rattle.td_types.specs.model.Types.{pack, relation}
use Rattle.td_types.specs.code.Views.{type_view}
use Rattle.std.proofs.lemmas.List.{take_all}

pub loop-element-preserved : goal.loop-element-preserved
loop-element-preserved c =
    test_gathered _ type_view (λ e. element_type c.args.heading (type_view e)) c.args.elements.now c.loop-element.element-index c.element-item.result c.loop-element-test.true c.element-item.is
    c.loop-element.causes c.element_type.result c.in_ok-add.field-0 c.add.new.self c.loop-element.invariant c.element_type.ensures c.in_ok-add.ensures.rest c.add.ensures.cause

pub returns : goal.returns
returns c =
    rw (c.finish.ensures, map_twice (element_type c.args.heading) type_view c.args.elements.now)
    (answered_with type_view c.loop-element.causes _ (map type_view c.args.elements.now) (map (λ e. element_type c.args.heading (type_view e)) c.args.elements.now)
    (λ _. Valued (relation (pack c.args.heading)))
    (subst (λ es. IsGathered c.loop-element.causes (map type_view es) (map (λ e. element_type c.args.heading (type_view e)) es))
    (take_all c.loop-element.element-index c.args.elements.now c.loop-element-test.false) c.loop-element.invariant)
    refl)
