use Rattle.std.proofs.Common.{◌≡◌, ◌∙◌, ap, sym, subst, Bool, List, map, filter}
use Rattle.std.specs.List.{All}
use Rattle.std.proofs.lemmas.List.Elements.{All-from_recursion, recursion_from_All}
use Rattle.td_types.specs.model.Types.{Heading}
use Rattle.td_value.specs.model.Values.{Tuple, IsAscendingBody, IsTupleOf, tuple_cmp}
use Rattle.td_algebra.specs.code.Masks.{kept_by}
use Rattle.td_algebra.proofs.Masks.{kept_all, kept_ascends, kept_by_test}
use Rattle.td_algebra.proofs.restriction.restrict.Goals as goal

kept_headed : (h : Heading) (bs : List Bool) (rows : List Tuple) → All (IsTupleOf h) rows → All (IsTupleOf h) (kept_by bs rows)
kept_headed h bs rows all =
    All-from_recursion (IsTupleOf h) (kept_by bs rows) (kept_all (IsTupleOf h) bs rows (recursion_from_All (IsTupleOf h) rows all))

pub with_rows-requires-clause-headed : goal.with_rows-requires-clause-headed
with_rows-requires-clause-headed c =
    subst (All (IsTupleOf c.args.rel.now.heading)) (sym (c.in_ok-kept.ensures ∙ ap (kept_by c.args.mask.now) c.rows.ensures.rows))
    (kept_headed c.args.rel.now.heading c.args.mask.now c.args.rel.now.body c.rows.ensures.headed)

pub with_rows-requires-clause-ascending : goal.with_rows-requires-clause-ascending
with_rows-requires-clause-ascending c =
    subst IsAscendingBody (sym (c.in_ok-kept.ensures ∙ ap (kept_by c.args.mask.now) c.rows.ensures.rows))
    (kept_ascends tuple_cmp c.args.mask.now c.args.rel.now.body c.rows.ensures.ascending)

masked : (p : Tuple → Bool) (mask : List Bool) (kept rows ts : List Tuple) → kept ≡ kept_by mask rows → rows ≡ ts → mask ≡ map p ts → kept ≡ filter p ts
masked p mask kept rows ts e is m = e ∙ ap (kept_by mask) is ∙ ap (λ b. kept_by b ts) m ∙ kept_by_test p ts

pub returns : goal.returns
returns c = λ p m. rw (masked p c.args.mask.now c.in_ok-kept.kept.items c.rows.result.now c.args.rel.now.body c.in_ok-kept.ensures c.rows.ensures.rows m) at c.with_rows.ensures
