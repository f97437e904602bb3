use Rattle.std.proofs.Common.{◌≡◌, ℕ, ◌∙◌, ◌-◌, ◌<◌, ◌&&◌, arith, ap, get_or, map, not, refl, subst, sym, take, true}
use Rattle.td_body.specs.code.Chains.{IsWalked}
use Rattle.td_body.specs.code.KeyIndexes.{agree_at}
use Rattle.td_body.specs.code.Hashes.{part_hash}
use Rattle.td_body.proofs.Lives.{any_live}
use Rattle.td_body.proofs.Walks.{both_true, get_or_take_low, gone_fails, length_take_low, same_hash, walk_done, walking_less, walking_on, walking_start}
use Rattle.td_body.proofs.hashed.index.is_agreed.Goals as goal

pub walk-init : goal.walk-init
walk-init c =
    let rows = c.args.rows.now in
    let row = c.args.tuple.now in
    let places = c.args.places.now in
    let x = c.requires.chained in
    walking_start (map (part_hash places) rows.rows) rows.gone c.args.count c.args.next.now (part_hash places row) (λ i. not (get_or rows.gone i true) && agree_at places row (get_or rows.rows i row))
    (gone_fails rows.gone (λ i. agree_at places row (get_or rows.rows i row))) x.0 c.args.last x.1 x.2 x.3 x.4

pub walk-preserved : goal.walk-preserved
walk-preserved c =
    let rows = c.args.rows.now in
    let row = c.args.tuple.now in
    let places = c.args.places.now in
    walking_on (map (part_hash places) rows.rows) rows.gone c.args.count c.args.next.now (part_hash places row) (λ i. not (get_or rows.gone i true) && agree_at places row (get_or rows.rows i row))
    (gone_fails rows.gone (λ i. agree_at places row (get_or rows.rows i row))) c.walk.at _ 0
    c.walk-test.true c.walk.invariant (sym c.is_like.ensures ∙ c.if-is_like.false) refl

pub walk-smaller : goal.walk-smaller
walk-smaller c =
    let rows = c.args.rows.now in
    let row = c.args.tuple.now in
    let places = c.args.places.now in
    walking_less (map (part_hash places) rows.rows) rows.gone c.args.count c.args.next.now (part_hash places row) (λ i. not (get_or rows.gone i true) && agree_at places row (get_or rows.rows i row)) c.walk.at 0 c.walk-test.true c.walk.invariant

pub returns : goal.returns
returns c =
    let rows = c.args.rows.now in
    let row = c.args.tuple.now in
    let places = c.args.places.now in
    let test = λ (i : ℕ). not (get_or rows.gone i true) && agree_at places row (get_or rows.rows i row) in
    let ended : c.walk.at ≡ 0 = omega (arith, c.walk-test.false) in
    sym (walk_done (part_hash places) rows.rows rows.gone c.walk.invariant.skipped c.args.count row (part_hash places row) (agree_at places row) c.count-count.ensures.marks c.requires.within
    (λ r e. same_hash places row r e)
    (subst (IsWalked (map (part_hash places) rows.rows) c.walk.invariant.skipped c.args.count (part_hash places row) test) ended c.walk.invariant.walked))

pub returns-then-is_like : goal.returns-then-is_like
returns-then-is_like c =
    let rows = c.args.rows.now in
    let row = c.args.tuple.now in
    let places = c.args.places.now in
    let n = c.args.count in
    let low : c.walk.at - 1 < n = omega (arith, c.walk.invariant.walked.within, c.walk-test.true) in
    let passes = both_true (get_or rows.gone (c.walk.at - 1) true) (agree_at places row (get_or rows.rows (c.walk.at - 1) row)) (sym c.is_like.ensures ∙ c.if-is_like.true) in
    let many = length_take_low n rows.rows c.requires.within in
    sym (any_live (agree_at places row) (take n rows.rows) (take n rows.gone) (c.walk.at - 1) row (length_take_low n rows.gone (omega (arith, c.requires.within, c.count-count.ensures.marks)) ∙ sym many) (omega (arith, many, low))
    (get_or_take_low rows.gone (c.walk.at - 1) n true low ∙ passes.0) (ap (agree_at places row) (get_or_take_low rows.rows (c.walk.at - 1) n row low) ∙ passes.1))
