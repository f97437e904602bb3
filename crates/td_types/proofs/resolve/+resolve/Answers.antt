use Rattle.std.proofs.Common.{◌∙◌, ap, sym}
use Rattle.std.proofs.lemmas.Result.{err_from_is_err_and}
use Rattle.td_tree.proofs.code_lemmas.Gatherings.{collected_next}
use Rattle.td_tree.specs.model.Outcomes.{with_value}
use Rattle.td_tree.specs.code.TreeViews.{heading_tree_view}
use Rattle.td_types.specs.model.TypeLists.{heading_meant}
use Rattle.td_types.specs.model.Types.{Heading}
use Rattle.td_types.specs.code.Pairs.{pair_view}
use Rattle.td_types.specs.code.Views.{pairs_view, type_view}
use Rattle.td_types.proofs.Resolutions.{answers_still, outcome_of, relation_meant, relation_of, resolved_all, tuple_meant, tuple_of}
use Rattle.td_types.proofs.resolve.+resolve.Goals as goal

pub resolve-returns-in_err-resolve_heading-in-Tuple : goal.resolve-returns-in_err-resolve_heading-in-Tuple
resolve-returns-in_err-resolve_heading-in-Tuple t c =
    let p = err_from_is_err_and c.from_residual.result c.from_residual.ensures.1 in
    rw (p.1, p.2, tuple_meant c.args.table.now c.args.tree.now c.in-Tuple.heading c.deref.result.now c.deref.ensures.value c.in-Tuple.is)
    (answers_still (λ (h : Heading). h) type_view _ (heading_meant c.args.table.now (heading_tree_view c.deref.result.now)) tuple_of c.in_err-resolve_heading-in-Tuple.ensures)

pub resolve-returns-in_err-resolve_heading-in-Relation : goal.resolve-returns-in_err-resolve_heading-in-Relation
resolve-returns-in_err-resolve_heading-in-Relation t c =
    let p = err_from_is_err_and c.from_residual-in_err-resolve_heading-in-Relation.result c.from_residual-in_err-resolve_heading-in-Relation.ensures.1 in
    rw (p.1, p.2, relation_meant c.args.table.now c.args.tree.now c.in-Relation.heading c.deref-in-Relation.result.now c.deref-in-Relation.ensures.value c.in-Relation.is)
    (answers_still (λ (h : Heading). h) type_view _ (heading_meant c.args.table.now (heading_tree_view c.deref-in-Relation.result.now)) relation_of c.in_err-resolve_heading-in-Relation.ensures)

pub resolve-returns-in_ok-resolve_heading-in-Tuple : goal.resolve-returns-in_ok-resolve_heading-in-Tuple
resolve-returns-in_ok-resolve_heading-in-Tuple t c =
    tuple_meant c.args.table.now c.args.tree.now c.in-Tuple.heading c.deref.result.now c.deref.ensures.value c.in-Tuple.is
    ∙ ap (λ o. with_value o tuple_of) c.in_ok-resolve_heading-in-Tuple.ensures

pub resolve-returns-in_ok-resolve_heading-in-Relation : goal.resolve-returns-in_ok-resolve_heading-in-Relation
resolve-returns-in_ok-resolve_heading-in-Relation t c =
    relation_meant c.args.table.now c.args.tree.now c.in-Relation.heading c.deref-in-Relation.result.now c.deref-in-Relation.ensures.value c.in-Relation.is
    ∙ ap (λ o. with_value o relation_of) c.in_ok-resolve_heading-in-Relation.ensures

pub resolve_attributes-loop-attribute-preserved : goal.resolve_attributes-loop-attribute-preserved
resolve_attributes-loop-attribute-preserved t c =
    collected_next pair_view (outcome_of c.args.table.now) c.args.heading.now c.loop-attribute.attribute-index c.loop-attribute-test.true c.attribute-item.is
    c.loop-attribute.invariant c.resolve_attribute.ensures c.in_ok-collect.ensures

pub resolve_attributes-returns : goal.resolve_attributes-returns
resolve_attributes-returns t c =
    resolved_all (λ v. pairs_view v.items) c.args.table.now c.args.heading.now c.loop-attribute.attribute-index c.loop-attribute-test.false
    c.loop-attribute.causes c.loop-attribute.attributes c.finish.result c.finish.ensures c.loop-attribute.invariant
