use Rattle.std.proofs.Common.{◌≡◌, ◌∙◌, ◌++◌, ap, length, map, refl, subst, sym}
use Rattle.std.specs.List.Sorted.{IsPermutation}
use Rattle.std.proofs.lemmas.List.{length-map, take_all}
use Rattle.td_algebra.specs.code.Columns.{cells_at}
use Rattle.td_algebra.specs.code.Layouts.{AreInRange}
use Rattle.td_algebra.proofs.Extensions.{cells_long, row_in_range, row_more, row_with}
use Rattle.td_algebra.proofs.Keys.{if_ok}
use Rattle.td_algebra.proofs.extension.extended_rows.Goals as goal

pub put_extended-requires-clause-long : goal.put_extended-requires-clause-long
put_extended-requires-clause-long c = cells_long c.args.columns.now c.args.rows.now c.loop-row.row c.requires.fit c.loop-row-test.true

pub put_extended-requires-clause-range : goal.put_extended-requires-clause-range
put_extended-requires-clause-range c =
    let cells = cells_at c.loop-row.row c.args.columns.now in
    subst (λ ss. AreInRange ss (c.values.result.now ++ cells)) (sym c.loop-row.invariant.0)
    (row_in_range c.args.layout.now c.args.rows.now (length c.args.columns.now) c.loop-row.row c.index-rows-row.result c.values.result.now cells c.requires.range
    c.loop-row-test.true c.index-rows-row.is c.values.ensures.values (length-map c.args.columns.now _))

pub loop-row-preserved : goal.loop-row-preserved
loop-row-preserved c = (
  c.in_ok-put_extended.ensures.layout ∙ c.loop-row.invariant.0,
  λ sources additions p e.
      row_more sources additions c.args.columns.now c.args.rows.now c.loop-row.row c.index-rows-row.result _ c.values.result.now (cells_at c.loop-row.row c.args.columns.now) _ _
      e c.loop-row-test.true c.index-rows-row.is c.values.ensures.values refl refl
      (c.loop-row.invariant.1 sources additions p e) (c.in_ok-put_extended.ensures.put sources (subst (IsPermutation sources) (sym c.loop-row.invariant.0) p)),
)

pub returns-clause-rows : goal.returns-clause-rows
returns-clause-rows c = λ sources additions p e.
    let all = c.loop-row.invariant.1 sources additions p e ∙ ap (map (row_with sources additions)) (take_all c.loop-row.row c.args.rows.now c.loop-row-test.false) in
    if_ok (λ tuples. tuples.items ≡ c.loop-row.extended.1) (λ tuples. tuples.items ≡ map (row_with sources additions) c.args.rows.now) c.finish.result (λ tuples made. made ∙ all) c.finish.ensures.made
