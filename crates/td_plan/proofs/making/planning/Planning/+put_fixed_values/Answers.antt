use Rattle.std.proofs.Common.{◌≡◌, ◌∙◌, ap, subst, sym}
use Rattle.std.proofs.lemmas.Result.{IfOk-weaker}
use Rattle.td_plan.proofs.FixedValues.{first_implied, operands_are_one, operands_are_one_back, second_implied}
use Rattle.td_plan.specs.code.Fixing.{AreOneWhere}
use Rattle.td_plan.specs.code.Narrowing.{AreFixed, Implies}
use Rattle.td_tree.specs.code.TreeViews.{tree_view}
use Rattle.td_tree.specs.model.Trees.{Tree}
use Rattle.td_tree.specs.model.WrittenTrees.{IsWritten}
use Rattle.td_tree.specs.model.Trees as trees
use Rattle.td_tree.specs.declared.operator.Comparison.TheVariants as comparisons
use Rattle.td_tree.specs.declared.operator.Operator.TheVariants as operators
use Rattle.td_plan.proofs.making.planning.Planning.+put_fixed_values.Goals as goal

pub returns-in-Parentheses : goal.returns-in-Parentheses
returns-in-Parentheses g t c =
    let is = ap tree_view c.in-Parentheses.is ∙ ap (λ x. trees.parentheses (tree_view x)) (sym c.deref.ensures) in
    let fixed = AreFixed c.args.self.now.planner.now.scope c.args.heading.now in
    IfOk-weaker c.put_fixed_values.result _ _
    (λ done put. subst (λ d. IsWritten d → (e : Tree) → Implies e d → fixed e c.args.fixed.now.items → fixed e c.put_fixed_values.new.fixed.items) (sym is) put)
    c.put_fixed_values.ensures

pub returns-in_ok-put_fixed_values-in-Binary : goal.returns-in_ok-put_fixed_values-in-Binary
returns-in_ok-put_fixed_values-in-Binary g t c =
    let a = tree_view c.deref-in-Binary.result.now in
    let b = tree_view c.deref-in-Binary-2.result.now in
    let op : c.in-Binary.op ≡ operators.And = c.is_and.ensures (c.if-not-is_and.false) in
    let is =
    ap tree_view c.in-Binary.is ∙ (λ i. trees.binary (tree_view (sym c.deref-in-Binary.ensures i)) (op i) (tree_view (sym c.deref-in-Binary-2.ensures i))) in
    let fixed = AreFixed c.args.self.now.planner.now.scope c.args.heading.now in
    IfOk-weaker c.put_fixed_values-in-Binary-2.result _ _
    (λ done put. subst (λ d. IsWritten d → (e : Tree) → Implies e d → fixed e c.args.fixed.now.items → fixed e c.put_fixed_values-in-Binary-2.new.fixed.items) (sym is)
    (λ written e implies all. put (written.0.1, written.1.1) e (second_implied e a b implies)
    (c.in_ok-put_fixed_values-in-Binary.ensures (written.0.0, written.1.0) e (first_implied e a b implies) all)))
    c.put_fixed_values-in-Binary-2.ensures

pub returns-in_ok-put_fixed_value-in-Compare : goal.returns-in_ok-put_fixed_value-in-Compare
returns-in_ok-put_fixed_value-in-Compare g t c =
    let a = tree_view c.in-Compare.left.value in
    let b = tree_view c.in-Compare.right.value in
    let op : c.in-Compare.op ≡ comparisons.Equal = c.is_equal.ensures (c.if-not-is_equal.false) in
    let is = ap tree_view c.in-Compare.is ∙ (λ i. trees.compare a (op i) b) in
    let fixed = AreFixed c.args.self.now.planner.now.scope c.args.heading.now in
    let old = c.args.fixed.now.items in
    let middle = c.put_fixed_value.new.fixed.items in
    let new = c.put_fixed_value-in-Compare.new.fixed.items in
    let first =
    subst (λ (p : Tree × Tree). IsWritten p.1 → (e : Tree) → AreOneWhere e p.0 p.1 → fixed e old → fixed e middle)
    (λ i. (tree_view (c.deref-in-Compare-2.ensures i), tree_view (c.deref-in-Compare.ensures i))) c.in_ok-put_fixed_value-in-Compare.ensures in
    IfOk-weaker c.put_fixed_value-in-Compare.result _ _
    (λ done put.
    let second =
    subst (λ (p : Tree × Tree). IsWritten p.1 → (e : Tree) → AreOneWhere e p.0 p.1 → fixed e middle → fixed e new)
    (λ i. (tree_view (c.deref-in-Compare-4.ensures i), tree_view (c.deref-in-Compare-3.ensures i))) put in
    subst (λ d. IsWritten d → (e : Tree) → Implies e d → fixed e old → fixed e new) (sym is)
    (λ written e implies all. second (written.0.0, written.1.0) e (operands_are_one_back e a b implies)
    (first (written.0.1, written.1.1) e (operands_are_one e a b implies) all)))
    c.put_fixed_value-in-Compare.ensures
