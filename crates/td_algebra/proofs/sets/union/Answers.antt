use Rattle.std.proofs.Common.{◌≡◌, ◌∙◌, ap, sym, subst, List}
use Rattle.std.specs.List.{All}
use Rattle.std.proofs.lemmas.List.Elements.{All-from_recursion, recursion_from_All}
use Rattle.td_types.specs.model.Types.{Heading}
use Rattle.td_value.specs.model.Values.{Tuple, IsAscendingBody, IsTupleOf}
use Rattle.td_algebra.specs.code.Merges.{merged_tuples}
use Rattle.td_algebra.specs.model.Operators.{union}
use Rattle.td_algebra.proofs.Keys.{if_ok}
use Rattle.td_algebra.proofs.Merges.{merged-ascends, merged-is-set, merged_all, no_rows, nothing_union, union_nothing}
use Rattle.td_algebra.proofs.sets.union.Goals as goal

-- what the code merges, as lists of the relations
merges : (kept ts us xs ys : List Tuple) → kept ≡ merged_tuples ts us → ts ≡ xs → us ≡ ys → kept ≡ merged_tuples xs ys
merges kept ts us xs ys e p q = e ∙ ap (λ l. merged_tuples l us) p ∙ ap (merged_tuples xs) q

headed : (h g : Heading) (kept xs ys : List Tuple) → kept ≡ merged_tuples xs ys → h ≡ g → All (IsTupleOf h) xs → All (IsTupleOf g) ys → All (IsTupleOf h) kept
headed h g kept xs ys e same a b =
    let b' : All (IsTupleOf h) ys = subst (λ i. All (IsTupleOf i) ys) (sym same) b in
    subst (All (IsTupleOf h)) (sym e)
    (All-from_recursion (IsTupleOf h) (merged_tuples xs ys)
    (merged_all (IsTupleOf h) xs ys (recursion_from_All (IsTupleOf h) xs a) (recursion_from_All (IsTupleOf h) ys b')))

pub returns-then-is_empty : goal.returns-then-is_empty
returns-then-is_empty c =
    let r = c.args.rel.now in
    let s = c.args.other.now in
    let none = no_rows c.rows.result.now s.body c.is_empty.result c.rows.ensures.rows c.is_empty.ensures c.if-is_empty.true in
    if_ok (λ made. made ≡ r) (λ made. made ≡ union r s) c.try_clone.result (λ made e. e ∙ union_nothing r s c.reveal.ensures.ascending none) c.try_clone.ensures

pub returns-then-is_empty-2 : goal.returns-then-is_empty-2
returns-then-is_empty-2 c =
    let r = c.args.rel.now in
    let s = c.args.other.now in
    let none = no_rows c.rows-2.result.now r.body c.is_empty-2.result c.rows-2.ensures.rows c.is_empty-2.ensures c.if-is_empty-2.true in
    if_ok (λ made. made ≡ s) (λ made. made ≡ union r s) c.try_clone-then-is_empty-2.result (λ made e. e ∙ nothing_union r s c.requires c.rows.ensures.ascending none) c.try_clone-then-is_empty-2.ensures

pub with_rows-requires-clause-headed : goal.with_rows-requires-clause-headed
with_rows-requires-clause-headed c =
    let is = merges c.in_ok-rows.rows.items c.rows-3.result.now c.rows-4.result.now c.args.rel.now.body c.args.other.now.body c.in_ok-rows.ensures c.rows-3.ensures.rows c.rows-4.ensures.rows in
    headed c.args.rel.now.heading c.args.other.now.heading c.in_ok-rows.rows.items c.args.rel.now.body c.args.other.now.body is c.requires c.rows-3.ensures.headed c.rows-4.ensures.headed

pub with_rows-requires-clause-ascending : goal.with_rows-requires-clause-ascending
with_rows-requires-clause-ascending c =
    let is = merges c.in_ok-rows.rows.items c.rows-3.result.now c.rows-4.result.now c.args.rel.now.body c.args.other.now.body c.in_ok-rows.ensures c.rows-3.ensures.rows c.rows-4.ensures.rows in
    subst IsAscendingBody (sym is) (merged-ascends c.args.rel.now.body c.args.other.now.body c.rows-3.ensures.ascending c.rows-4.ensures.ascending)

pub returns : goal.returns
returns c =
    let is = merges c.in_ok-rows.rows.items c.rows-3.result.now c.rows-4.result.now c.args.rel.now.body c.args.other.now.body c.in_ok-rows.ensures c.rows-3.ensures.rows c.rows-4.ensures.rows in
    rw (is ∙ merged-is-set c.args.rel.now.body c.args.other.now.body c.rows-3.ensures.ascending c.rows-4.ensures.ascending) at c.with_rows.ensures
