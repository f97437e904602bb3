use Rattle.std.proofs.Common.{◌≡◌, ◌∙◌, ◌++◌, arith, map, subst, sym}
use Rattle.std.specs.List.{All}
use Rattle.std.proofs.lemmas.List.Elements.{All-get_or}
use Rattle.td_algebra.specs.code.Lookups.{partners_in}
use Rattle.td_algebra.specs.code.Pairs.{IsPaired, pair_tuple}
use Rattle.td_algebra.proofs.Pairs.{pairs_more}
use Rattle.td_algebra.proofs.joins.pairs_of.Goals as goal

pub put_pairs-requires-clause-paired : goal.put_pairs-requires-clause-paired
put_pairs-requires-clause-paired c =
    let partners = partners_in c.args.lookup.now c.args.places.now in
    subst (λ ss. All (IsPaired ss c.row-item.result) (partners c.row-item.result)) (sym c.loop-row.invariant.0)
    (subst (λ t. All (IsPaired c.args.layout.now t) (partners t)) (sym c.row-item.is)
    (All-get_or (λ t. All (IsPaired c.args.layout.now t) (partners t)) c.args.rows.now c.loop-row.row-index c.row-item.result
    (omega (arith, c.loop-row-test.true)) c.requires.paired))

pub loop-row-preserved : goal.loop-row-preserved
loop-row-preserved c =
    let partners = partners_in c.args.lookup.now c.args.places.now in
    let put = subst (λ ss. c.put_pairs.new.pairs.1 ≡ c.loop-row.pairs.1 ++ map (pair_tuple ss c.row-item.result) (partners c.row-item.result)) c.loop-row.invariant.0 c.in_ok-put_pairs.ensures.put in (
      c.in_ok-put_pairs.ensures.layout ∙ c.loop-row.invariant.0,
      pairs_more partners (pair_tuple c.args.layout.now) c.args.rows.now c.loop-row.row-index c.row-item.result _ _
          c.loop-row-test.true c.row-item.is put c.loop-row.invariant.1,
    )
