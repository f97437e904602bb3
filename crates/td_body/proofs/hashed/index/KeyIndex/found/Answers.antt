use Rattle.std.proofs.Common.{◌≡◌, true, ◌∙◌, ◌-◌, ◌<◌, ◌&&◌, Some, arith, ap, get_or, length, map, not, subst, sym, true≢false, cond, ◌++◌, ◌∷◌, []}
use Rattle.std.specs.Ordering.{is_eq}
use Rattle.td_value.specs.model.Values.{Tuple}
use Rattle.td_body.specs.code.Chains.{IsWalked, last_in}
use Rattle.td_body.specs.code.KeyIndexes.{hashes_in}
use Rattle.td_body.specs.code.Hashes.{found_hash, part_hash}
use Rattle.td_body.specs.code.KeyParts.{values_cmp}
use Rattle.td_body.proofs.FoundParts.{fresh, found_all, sound_on, told_here, told_on, untold}
use Rattle.td_body.proofs.TupleSets.{has_tuple}
use Rattle.td_body.proofs.Walks.{gone_fails, hash_with, walking_all, walking_less, walking_on, walking_weaker}
use Rattle.td_body.proofs.hashed.index.KeyIndex.found.Goals as goal

pub walk-init : goal.walk-init
walk-init c =
    let ix = c.args.self.now in
    let rows = c.args.rows.now in
    let part = c.args.part.now in
    let pass = λ (t : Tuple). is_eq (values_cmp ix.places.items t part) in
    record {
      walking = walking_all rows.rows rows.gone ix (found_hash (map Some part)) (untold pass rows.rows rows.gone [] c.new-found.result.items) c.last-at.result
          (gone_fails rows.gone (λ i. fresh pass rows.rows rows.gone [] c.new-found.result.items (get_or rows.rows i []))) c.requires.linked
          (c.last-at.ensures ∙ ap (last_in ix.chains.last) c.hash_of.ensures);
      sound = λ t h. absurd (true≢false (sym h ∙ ap (has_tuple t) c.new-found.ensures.items));
    }

pub walk-preserved : goal.walk-preserved
walk-preserved c =
    let ix = c.args.self.now in
    let rows = c.args.rows.now in
    let part = c.args.part.now in
    let pass = λ (t : Tuple). is_eq (values_cmp ix.places.items t part) in
    let k = c.walk.at - 1 in
    let low : k < length rows.rows = omega (arith, c.walk.invariant.walking.walked.within, c.walk-test.true) in
    let was = c.walk.found.items in
    let now = c.keep_like.new.found.items in
    let kept = subst (λ ps. c.keep_like.new.found.items ≡ cond (not (get_or rows.gone k true) && is_eq (values_cmp ps (get_or rows.rows k []) part)) (c.walk.found.items ++ get_or rows.rows k [] ∷ []) c.walk.found.items)
    c.deref.ensures.value (c.in_ok-keep_like.ensures.kept []) in
    record {
      walking = walking_on (hashes_in ix rows.rows) rows.gone (length rows.rows) ix.chains.next.items (found_hash (map Some part)) (untold pass rows.rows rows.gone [] now)
          (gone_fails rows.gone (λ i. fresh pass rows.rows rows.gone [] now (get_or rows.rows i []))) c.walk.at c.index-at.result.now c.index-at.result.now
          c.walk-test.true
          (walking_weaker (hashes_in ix rows.rows) rows.gone (length rows.rows) ix.chains.next.items (found_hash (map Some part)) (untold pass rows.rows rows.gone [] was) (untold pass rows.rows rows.gone [] now) c.walk.at
          (told_on pass rows.rows rows.gone [] was now k kept) c.walk.invariant.walking)
          (told_here pass rows.rows rows.gone [] was now k kept)
          c.index-at.ensures;
      sound = sound_on pass rows.rows rows.gone [] was now k kept c.count-count.ensures.marks low c.walk.invariant.sound;
    }

pub walk-smaller : goal.walk-smaller
walk-smaller c =
    let ix = c.args.self.now in
    let rows = c.args.rows.now in
    let part = c.args.part.now in
    let pass = λ (t : Tuple). is_eq (values_cmp ix.places.items t part) in
    let less = walking_less (hashes_in ix rows.rows) rows.gone (length rows.rows) ix.chains.next.items (found_hash (map Some part)) (untold pass rows.rows rows.gone [] c.walk.found.items)
    c.walk.at c.index-at.result.now c.walk-test.true c.walk.invariant.walking in
    omega (arith, less, c.index-at.ensures)

pub returns : goal.returns
returns c =
    let ix = c.args.self.now in
    let rows = c.args.rows.now in
    let part = c.args.part.now in
    let pass = λ (t : Tuple). is_eq (values_cmp ix.places.items t part) in
    let ended : c.walk.at ≡ 0 = omega (arith, c.walk-test.false) in
    let x = c.walk.invariant.walking in
    found_all pass rows.rows rows.gone [] (part_hash ix.places.items) x.skipped (found_hash (map Some part)) c.walk.found.items (length rows.rows) c.count-count.ensures.marks (omega arith)
    (hash_with ix.places.items part)
    (subst (IsWalked (hashes_in ix rows.rows) x.skipped (length rows.rows) (found_hash (map Some part)) (untold pass rows.rows rows.gone [] c.walk.found.items)) ended x.walked) c.walk.invariant.sound
