use Rattle.std.proofs.Common.{◌≡◌, ◌∙◌, ◌++◌, [], ap, length, subst, sym, take}
use Rattle.std.specs.List.{All}
use Rattle.std.specs.Prelude.{IfOk}
use Rattle.std.proofs.lemmas.List.{append-nil}
use Rattle.std.proofs.lemmas.Bool.{eqb-true}
use Rattle.td_algebra.specs.model.Operators.{union}
use Rattle.td_value.specs.model.Values.{IsAscendingBody, IsTupleOf, Relation, relation_view}
use Rattle.td_body.specs.code.Members.{Members, tuples_of}
use Rattle.td_body.specs.code.Numbered.{live}
use Rattle.td_body.proofs.LiveRows.{all_later, no_items, set_itself, set_joined}
use Rattle.td_body.proofs.RowSteps.{all_live}
use Rattle.td_body.proofs.hashed.members.Members.to_rel.Goals as goal

pub returns-then-is_empty : goal.returns-then-is_empty
returns-then-is_empty c =
    let n = c.self.inside.rows in
    let first = live (take n.fixed n.rows) (take n.fixed n.gone) in
    let none : c.in_ok-late.late.items ≡ [] = sym c.as_slice.ensures.value ∙ no_items c.as_slice.result.now (eqb-true (length c.as_slice.result.now) 0 (sym c.is_empty.ensures ∙ c.if-is_empty.true)) in
    let all : live n.rows n.gone ≡ first = sym c.in_ok-late.ensures ∙ ap (λ l. first ++ l) none ∙ append-nil first in
    let body : c.in_ok-first.first.body ≡ first = ap (λ (r : Relation). r.body) c.in_ok-first.ensures in
    let up : IsAscendingBody first = subst IsAscendingBody body c.reveal-2.ensures.ascending in
    c.in_ok-first.ensures ∙ ap (relation_view n.heading) (sym (ap tuples_of all ∙ set_itself first up)) ∙ ap (λ (m : Members). m.relation) c.self.view_is

pub new-requires : goal.new-requires
new-requires c =
    let n = c.self.inside.rows in
    let first = live (take n.fixed n.rows) (take n.fixed n.gone) in
    let heading : c.in_ok-try_clone.field-0 ≡ n.heading = c.in_ok-try_clone.ensures ∙ c.heading-2.ensures in
    subst (λ h. All (IsTupleOf h) c.in_ok-late.late.items) (sym heading)
    (all_later (IsTupleOf n.heading) first c.in_ok-late.late.items
    (subst (All (IsTupleOf n.heading)) (sym c.in_ok-late.ensures) (all_live (IsTupleOf n.heading) n.rows n.gone c.count-count.ensures.headed)))

pub returns : goal.returns
returns c =
    let n = c.self.inside.rows in
    let first = live (take n.fixed n.rows) (take n.fixed n.gone) in
    let late = c.in_ok-late.late.items in
    let is : union c.in_ok-first.first c.in_ok-late-2.late ≡ c.args.self.now.relation =
    (λ i. union (c.in_ok-first.ensures i) (c.in_ok-late-2.ensures.value i))
    ∙ ap (relation_view n.heading) (set_joined first late ∙ ap tuples_of c.in_ok-late.ensures) ∙ ap (λ (m : Members). m.relation) c.self.view_is in
    subst (λ (s : Relation). IfOk c.union.result (λ r. r ≡ s)) is c.union.ensures
