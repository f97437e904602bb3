use Rattle.std.proofs.Common.{◌≡◌, ◌∙◌, [], ap, arith, subst, sym}
use Rattle.std.specs.List.Sorted.{IsStrictlySortedBy}
use Rattle.td_algebra.proofs.Relations.{IsRelation-view}
use Rattle.td_body.specs.model.Bodies.{after_change}
use Rattle.td_body.proofs.Differences.{replaced}
use Rattle.td_types.specs.model.Types.{IsHeading, pack}
use Rattle.td_value.specs.model.Values.{IsAscendingBody, IsRelation, tuple_cmp, relation_view}
use Rattle.td.proofs.tests.catalogs.emptied.Goals as goal

none_ascend : IsStrictlySortedBy tuple_cmp []
unfolding IsStrictlySortedBy
none_ascend = tt

pub of_ascending-requires-clause-ascending : goal.of_ascending-requires-clause-ascending
of_ascending-requires-clause-ascending g c = subst IsAscendingBody (sym c.new.ensures.items) none_ascend

pub returns-clause-relation : goal.returns-clause-relation
returns-clause-relation g c =
    let r = g.B.Body.relation c.args.body.now in
    let h = c.args.heading.now in
    let copy-is : g.B.Body.relation c.in_ok-copy.copy ≡ r = c.in_ok-copy.ensures.relation in
    let valid : IsRelation r = subst IsRelation copy-is c.len.ensures.valid in
    let headed : IsHeading (pack h) = subst (λ k. IsHeading (pack k)) (sym c.requires) valid.2 in
    let none-is : c.in_ok-none.none ≡ relation_view h [] =
    c.in_ok-none.ensures ∙ ap (λ ts. relation_view c.in_ok-try_clone.field-0 ts) c.new.ensures.items ∙ ap (λ k. relation_view k []) c.in_ok-try_clone.ensures in
    c.settle.ensures.relation
    ∙ c.in_ok-change.ensures.changed
    ∙ ap (after_change c.in_ok-all.all c.in_ok-none.none) copy-is
    ∙ ap (λ o. after_change o c.in_ok-none.none r) c.in_ok-all.ensures
    ∙ ap (λ a. after_change r a r) none-is
    ∙ replaced r (relation_view h []) (valid, IsRelation-view h [] headed (λ k d l. absurd (omega (arith, l))) none_ascend, sym c.requires)
