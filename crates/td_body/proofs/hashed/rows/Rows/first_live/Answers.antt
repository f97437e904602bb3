use Rattle.std.proofs.Common.{◌≡◌, ◌∙◌, ap, length, subst, sym, take}
use Rattle.std.specs.List.{All}
use Rattle.std.specs.Prelude.{IfOk}
use Rattle.td_value.specs.model.Values.{IsAscendingBody, IsTupleOf, Relation, relation_view}
use Rattle.td_body.specs.code.Numbered.{Numbered, live}
use Rattle.td_body.proofs.LiveRows.{ascends_live, live_untouched, take_first}
use Rattle.td_body.proofs.RowSteps.{all_live}
use Rattle.td_body.proofs.hashed.rows.Rows.first_live.Goals as goal

pub returns-then-alive-count : goal.returns-then-alive-count
returns-then-alive-count c =
    let n = c.args.self.now in
    let base = c.self.inside.base in
    let full : length (live n.rows n.gone) ≡ length n.gone = sym c.requires ∙ c.if-alive-count.true ∙ c.count-count.ensures.count ∙ sym c.count-count.ensures.marks in
    let whole : live (take n.fixed n.rows) (take n.fixed n.gone) ≡ base.body =
    live_untouched n.rows n.gone n.fixed c.count-count.ensures.marks full
    ∙ ap (λ (v : Numbered). take v.fixed v.rows) (sym c.self.view_is) ∙ take_first base.body c.self.inside.late.items in
    let heading : n.heading ≡ base.heading = ap (λ (v : Numbered). v.heading) (sym c.self.view_is) in
    let same : base ≡ relation_view n.heading (live (take n.fixed n.rows) (take n.fixed n.gone)) = sym (λ i. relation_view (heading i) (whole i)) in
    subst (λ (r : Relation). IfOk c.try_clone.result (λ s. s ≡ r)) same c.try_clone.ensures

pub of_ascending-requires-clause-headed : goal.of_ascending-requires-clause-headed
of_ascending-requires-clause-headed c =
    let n = c.args.self.now in
    let base = c.self.inside.base in
    let first : take n.fixed n.rows ≡ base.body = ap (λ (v : Numbered). take v.fixed v.rows) (sym c.self.view_is) ∙ take_first base.body c.self.inside.late.items in
    let fixed : length c.rows.result.now ≡ n.fixed = ap length c.rows.ensures.rows ∙ ap (λ (v : Numbered). v.fixed) c.self.view_is in
    let items : c.in_ok-tuples.tuples.items ≡ live base.body (take n.fixed n.gone) =
    c.in_ok-tuples.ensures ∙ (λ i. live (take (fixed i) n.rows) (take (fixed i) n.gone)) ∙ ap (λ l. live l (take n.fixed n.gone)) first in
    let heading : c.in_ok-try_clone.field-0 ≡ base.heading = c.in_ok-try_clone.ensures ∙ c.heading.ensures in
    subst (λ h. All (IsTupleOf h) c.in_ok-tuples.tuples.items) (sym heading)
    (subst (All (IsTupleOf base.heading)) (sym items) (all_live (IsTupleOf base.heading) base.body (take n.fixed n.gone) c.reveal.ensures.headed))

pub of_ascending-requires-clause-ascending : goal.of_ascending-requires-clause-ascending
of_ascending-requires-clause-ascending c =
    let n = c.args.self.now in
    let base = c.self.inside.base in
    let first : take n.fixed n.rows ≡ base.body = ap (λ (v : Numbered). take v.fixed v.rows) (sym c.self.view_is) ∙ take_first base.body c.self.inside.late.items in
    let fixed : length c.rows.result.now ≡ n.fixed = ap length c.rows.ensures.rows ∙ ap (λ (v : Numbered). v.fixed) c.self.view_is in
    let items : c.in_ok-tuples.tuples.items ≡ live base.body (take n.fixed n.gone) =
    c.in_ok-tuples.ensures ∙ (λ i. live (take (fixed i) n.rows) (take (fixed i) n.gone)) ∙ ap (λ l. live l (take n.fixed n.gone)) first in
    subst IsAscendingBody (sym items) (ascends_live base.body (take n.fixed n.gone) c.reveal.ensures.ascending)
