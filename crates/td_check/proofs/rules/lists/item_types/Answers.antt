use Rattle.std.proofs.Common.{◌≡◌, ◌∙◌, map, subst, sym}
use Rattle.std.proofs.lemmas.Iterator.Adapters.{YieldsList-from_vec}
use Rattle.std.proofs.lemmas.Iterator.Consumers.{YieldsList-end}
use Rattle.std.proofs.lemmas.List.{map-id}
use Rattle.td_tree.proofs.code_lemmas.Gatherings.{answers_gathered, collected_last}
use Rattle.td_tree.specs.code.Gatherings.{IsGathered}
use Rattle.td_types.specs.code.Pairs.{pair_view}
use Rattle.td_types.specs.code.Views.{pairs_view}
use Rattle.td_check.specs.code.ItemViews.{named_item_view}
use Rattle.td_check.specs.model.OperatorTypes.{item_type}
use Rattle.td_check.proofs.GatheredAnswers.{map_twice}
use Rattle.td_check.proofs.rules.lists.item_types.Goals as goal

pub loop-name-preserved : goal.loop-name-preserved
loop-name-preserved c =
    collected_last pair_view (λ item. item_type (named_item_view item)) c.loop-name.yielded (c.in-Some.name, c.in-Some.item) c.loop-name.invariant c.item_type.ensures c.in_ok-collect.ensures

pub returns : goal.returns
returns c =
    let end = YieldsList-end (YieldsList-from_vec c.args.items.items (cc) (cc)) c.loop-name.yielded c.loop-name.name-iterator c.loop-name.yielded_by
    c.next.result c.next.new.self c.in-None.is c.next.ensures.steps in
    let all : c.loop-name.yielded ≡ c.args.items.items = sym (map-id c.loop-name.yielded) ∙ end.0 in
    rw (c.finish.ensures, map_twice item_type named_item_view c.args.items.items)
    (answers_gathered (λ v. pairs_view v.items) c.loop-name.causes c.loop-name.attributes (map (λ item. item_type (named_item_view item)) c.args.items.items)
    (subst (λ xs. IsGathered c.loop-name.causes (pairs_view c.loop-name.attributes.items) (map (λ item. item_type (named_item_view item)) xs)) all c.loop-name.invariant))
