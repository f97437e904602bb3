use Rattle.std.proofs.Common.{◌≡◌, subst}
use Rattle.std.specs.Prelude.{IfSome}
use Rattle.td_check.specs.model.StaticTypes.{type_of}
use Rattle.td_plan.proofs.Pushed.{join_first_stands, join_second_stands, times_first_stands, times_second_stands}
use Rattle.td_tree.specs.model.Outcomes.{Valued}
use Rattle.td_tree.specs.code.TreeViews.{tree_view}
use Rattle.td_types.specs.model.Types.{pack}
use Rattle.td_types.specs.model.Types as types
use Rattle.td_plan.proofs.rewriting.push.restricted_of_join.Goals as goal

pub returns-then-branch : goal.returns-then-branch
returns-then-branch g c =
    let scope = c.args.planner.now.scope in
    let l = tree_view c.args.left.now in
    let r = tree_view c.args.right.now in
    let e = tree_view c.args.condition.now in
    let h = c.in-Some.first in
    let k = c.in-Some-2.second in
    let a = subst (λ o. IfSome o (λ h. type_of scope l ≡ Valued (types.relation (pack h)))) c.in-Some.is c.in_ok-first.ensures.some in
    let b = subst (λ o. IfSome o (λ h. type_of scope r ≡ Valued (types.relation (pack h)))) c.in-Some-2.is c.in_ok-second.ensures.some in
    let asked = c.in_ok-is_asked_of.ensures in
    let yes = c.if-branch.true in
    record {
      join = join_first_stands scope l r e h k (asked.answered yes l a) b (asked.only yes);
      times = times_first_stands scope l r e h k (asked.answered yes l a) b (asked.only yes);
    }

pub returns-then-branch-2 : goal.returns-then-branch-2
returns-then-branch-2 g c =
    let scope = c.args.planner.now.scope in
    let l = tree_view c.args.left.now in
    let r = tree_view c.args.right.now in
    let e = tree_view c.args.condition.now in
    let h = c.in-Some.first in
    let k = c.in-Some-2.second in
    let a = subst (λ o. IfSome o (λ h. type_of scope l ≡ Valued (types.relation (pack h)))) c.in-Some.is c.in_ok-first.ensures.some in
    let b = subst (λ o. IfSome o (λ h. type_of scope r ≡ Valued (types.relation (pack h)))) c.in-Some-2.is c.in_ok-second.ensures.some in
    let asked = c.in_ok-is_asked_of-2.ensures in
    let yes = c.if-branch-2.true in
    record {
      join = join_second_stands scope l r e h k a (asked.answered yes r b) (asked.only yes);
      times = times_second_stands scope l r e h k a (asked.answered yes r b) (asked.only yes);
    }
