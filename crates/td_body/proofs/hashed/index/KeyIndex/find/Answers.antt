use Rattle.std.proofs.Common.{◌≡◌, ℕ, ◌∙◌, ◌-◌, ◌&&◌, arith, ap, get_or, length, not, refl, subst, sym, true}
use Rattle.td_value.specs.code.ValueOrder.{tuple_Decides}
use Rattle.td_body.specs.code.Chains.{IsWalked, last_in}
use Rattle.td_body.specs.code.KeyIndexes.{hashes_in}
use Rattle.td_body.specs.code.Numbered.{live, tuple_eq}
use Rattle.td_body.specs.code.Hashes.{part_hash}
use Rattle.td_body.proofs.TupleSets.{has_tuple}
use Rattle.td_body.proofs.Walks.{both_true, gone_fails, take_all, walk_done, walking_all, walking_less, walking_on}
use Rattle.td_body.proofs.hashed.index.KeyIndex.find.Goals as goal

pub walk-init : goal.walk-init
walk-init c =
    let ix = c.args.self.now in
    let row = c.args.tuple.now in
    let rows = c.args.rows.now in
    walking_all rows.rows rows.gone ix (part_hash ix.places.items row) (λ i. not (get_or rows.gone i true) && tuple_eq row (get_or rows.rows i row)) c.last-at.result
    (gone_fails rows.gone (λ i. tuple_eq row (get_or rows.rows i row))) c.requires.linked
    (c.last-at.ensures ∙ ap (last_in ix.chains.last) (c.hash_at.ensures ∙ ap (λ ps. part_hash ps row) c.deref.ensures.value))

pub walk-preserved : goal.walk-preserved
walk-preserved c =
    let ix = c.args.self.now in
    let row = c.args.tuple.now in
    let rows = c.args.rows.now in
    walking_on (hashes_in ix rows.rows) rows.gone (length rows.rows) ix.chains.next.items (part_hash ix.places.items row) (λ i. not (get_or rows.gone i true) && tuple_eq row (get_or rows.rows i row))
    (gone_fails rows.gone (λ i. tuple_eq row (get_or rows.rows i row))) c.walk.at c.index-at.result.now c.index-at.result.now
    c.walk-test.true c.walk.invariant (sym c.is_row.ensures ∙ c.if-is_row.false) c.index-at.ensures

pub walk-smaller : goal.walk-smaller
walk-smaller c =
    let ix = c.args.self.now in
    let row = c.args.tuple.now in
    let rows = c.args.rows.now in
    let less = walking_less (hashes_in ix rows.rows) rows.gone (length rows.rows) ix.chains.next.items (part_hash ix.places.items row) (λ i. not (get_or rows.gone i true) && tuple_eq row (get_or rows.rows i row))
    c.walk.at c.index-at.result.now c.walk-test.true c.walk.invariant in
    omega (arith, less, c.index-at.ensures)

pub returns-clause-none : goal.returns-clause-none
returns-clause-none c =
    let ix = c.args.self.now in
    let row = c.args.tuple.now in
    let test = λ (i : ℕ). not (get_or c.args.rows.now.gone i true) && tuple_eq row (get_or c.args.rows.now.rows i row) in
    let ended : c.walk.at ≡ 0 = omega (arith, c.walk-test.false) in
    let n = length c.args.rows.now.rows in
    λ _. sym (λ i. has_tuple row (live (take_all n c.args.rows.now.rows refl i) (take_all n c.args.rows.now.gone c.count-count.ensures.marks i)))
    ∙ walk_done (part_hash ix.places.items) c.args.rows.now.rows c.args.rows.now.gone c.walk.invariant.skipped n row (part_hash ix.places.items row) (tuple_eq row) c.count-count.ensures.marks (omega arith)
    (λ r e. ap (part_hash ix.places.items) (sym ((tuple_Decides row r).0 e)))
    (subst (IsWalked (hashes_in ix c.args.rows.now.rows) c.walk.invariant.skipped n (part_hash ix.places.items row) test) ended c.walk.invariant.walked)

pub returns-then-is_row-clause-same : goal.returns-then-is_row-clause-same
returns-then-is_row-clause-same c =
    let row = c.args.tuple.now in
    let found = get_or c.args.rows.now.rows (c.walk.at - 1) row in
    let passes = both_true (get_or c.args.rows.now.gone (c.walk.at - 1) true) (tuple_eq row found) (sym c.is_row.ensures ∙ c.if-is_row.true) in
    sym ((tuple_Decides row found).0 passes.1)
