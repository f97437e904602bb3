use Rattle.std.proofs.Common.{◌≡◌, ◌∙◌, ◌∷◌, ◌++◌, [], ap, length, subst, sym}
use Rattle.std.specs.List.{zip}
use Rattle.td_algebra.specs.code.Layouts.{AreInRange, numbered_sources, placed_tuple}
use Rattle.td_eval.proofs.code_lemmas.FixedElements.{element_put, row_in_range}
use Rattle.td_eval.specs.code.FixedValues.{EntriesAreFixed}
use Rattle.td_tree.proofs.code_lemmas.Rows.{tuple_is}
use Rattle.td_tree.specs.model.Trees as trees
use Rattle.td_tree.specs.code.TreeViews.{named_view, tree_view}
use Rattle.td_eval.proofs.flat.put_element.Goals as goal

pub put-requires : goal.put-requires
put-requires c =
    subst (λ vs. AreInRange c.args.laid.now.0 (vs ++ [])) (sym c.deref-2.ensures.value)
    (row_in_range c.args.names.now c.put_literals.new.row.items c.args.laid.now.0 (c.in_ok-put_literals.ensures.long c.if-not-branch.false) c.requires.places)

pub returns-clause-put : goal.returns-clause-put
returns-clause-put c = λ told.
    element_put (named_view c.deref.result.now) (tree_view c.args.element.now) c.args.names.now c.put_literals.new.row.items c.args.laid.now.1 c.put.new.self.1
    (ap tree_view c.in-Tuple.is ∙ tuple_is c.in-Tuple.parts ∙ ap (λ ps. trees.tuple (named_view ps)) (sym c.deref.ensures.value))
    (c.in_ok-put_literals.ensures.long c.if-not-branch.false) c.requires.distinct (c.in_ok-put_literals.ensures.fixed c.if-not-branch.false)
    (c.in_ok-put.ensures.put (numbered_sources 0 c.args.names.now) c.requires.places
    ∙ ap (λ vs. c.args.laid.now.1 ++ placed_tuple (numbered_sources 0 c.args.names.now) (vs ++ []) ∷ []) c.deref-2.ensures.value)
