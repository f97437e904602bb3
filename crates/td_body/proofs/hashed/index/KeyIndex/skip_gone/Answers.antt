use Rattle.std.proofs.Common.{◌≡◌, ◌-◌, ◌<◌, ◌∙◌, ap, arith, false, get_or, not, subst, sym, true}
use Rattle.std.proofs.lemmas.List.{get_or_default, length-map}
use Rattle.std.specs.Vec.{vec_capacity, vec_len}
use Rattle.td_body.specs.code.Hashes.{part_hash}
use Rattle.td_body.specs.code.KeyIndexes.{AreGone, hashes_in}
use Rattle.td_body.proofs.ChainSkips.{newest_leads, newest_low}
use Rattle.td_body.proofs.IndexMarks.{skip_marked}
use Rattle.td_body.proofs.Walks.{is_gone}
use Rattle.td_body.proofs.hashed.index.KeyIndex.skip_gone.Goals as goal

pub index-before-requires : goal.index-before-requires
index-before-requires c =
    let ix = c.walk.self in
    let x = c.walk.invariant.index.0.linked in
    let low = newest_low (hashes_in ix c.args.rows.now.rows) ix.chains.skipped.items ix.chains.last ix.chains.next.items c.args.hash (c.walk.at - 1) x (omega (arith, c.walk.invariant.last, c.walk-test.true)) in
    omega (arith, low, x.nexts)

pub is_live-requires : goal.is_live-requires
is_live-requires c =
    let ix = c.walk.self in
    let x = c.walk.invariant.index.0.linked in
    let low = newest_low (hashes_in ix c.args.rows.now.rows) ix.chains.skipped.items ix.chains.last ix.chains.next.items c.args.hash (c.walk.at - 1) x (omega (arith, c.walk.invariant.last, c.walk-test.true)) in
    omega (arith, low, length-map c.args.rows.now.rows (part_hash ix.places.items))

pub walk-smaller : goal.walk-smaller
walk-smaller c =
    let ix = c.walk.self in
    let x = c.walk.invariant.index.0.linked in
    let less = newest_leads (hashes_in ix c.args.rows.now.rows) ix.chains.skipped.items ix.chains.last ix.chains.next.items c.args.hash (c.walk.at - 1) c.index-before.result.now x (omega (arith, c.walk.invariant.last, c.walk-test.true)) in
    omega (arith, less, c.index-before.ensures, c.walk-test.true)

pub walk-preserved : goal.walk-preserved
walk-preserved c =
    let ix = c.walk.self in
    let rows = c.args.rows.now in
    let x = c.walk.invariant.index.0 in
    let low = newest_low (hashes_in ix rows.rows) ix.chains.skipped.items ix.chains.last ix.chains.next.items c.args.hash (c.walk.at - 1) x.linked (omega (arith, c.walk.invariant.last, c.walk-test.true)) in
    let marked = is_gone (get_or rows.gone (c.walk.at - 1) true) c.is_live.result c.is_live.ensures (ap not c.if-is_live.false) in
    let gone : get_or rows.gone (c.walk.at - 1) false ≡ true =
    get_or_default rows.gone (c.walk.at - 1) false true (omega (arith, low, length-map rows.rows (part_hash ix.places.items), c.count-count.ensures.marks)) ∙ marked in
    record {
      index = (
        record {
          linked = c.skip_last.ensures.linked (hashes_in ix rows.rows) x.linked;
          marked = subst (λ ms. AreGone ms rows.gone) (sym c.skip_last.ensures.skipped) (skip_marked ix.chains.skipped.items rows.gone (c.walk.at - 1) gone x.marked);
        },
        c.walk.invariant.index.1,
      );
      before = c.walk.invariant.before;
      places = c.walk.invariant.places;
      room = λ h. record {
        last = omega (arith, (c.walk.invariant.room h).last, c.skip_last.ensures.room);
        next = subst (λ v. vec_len v < vec_capacity v) (sym c.skip_last.ensures.next) (c.walk.invariant.room h).next;
        skipped = omega (arith, (c.walk.invariant.room h).skipped, c.skip_last.ensures.len, c.skip_last.ensures.space);
      };
      last = sym c.skip_last.ensures.last;
    }
