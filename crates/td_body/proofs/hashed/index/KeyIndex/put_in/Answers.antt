use Rattle.std.proofs.Common.{◌≡◌, ◌≤◌, ℕ, ◌∙◌, ◌+◌, ◌∷◌, ◌++◌, [], arith, ap, cond, false, length, map, subst, sym}
use Rattle.std.proofs.lemmas.List.{length-map, map-append}
use Rattle.std.specs.List.{list_any}
use Rattle.td_body.specs.code.Chains.{AreLinked, latest}
use Rattle.td_body.specs.code.Numbered.{live, repeats}
use Rattle.td_body.specs.code.KeyIndexes.{agree_at}
use Rattle.td_body.specs.code.Hashes.{part_hash}
use Rattle.td_body.proofs.IndexMarks.{put_marked}
use Rattle.td_body.proofs.Lives.{live_more, repeats_more}
use Rattle.td_body.proofs.Walks.{agree_laws, agreed_now, chained_now, live_few, repeats_fewer, some_any}
use Rattle.td_body.proofs.hashed.index.KeyIndex.put_in.Goals as goal

pub overflow_add-self : goal.overflow_add-self
overflow_add-self c =
    let rows = c.args.rows.now.rows in
    let gone = c.args.rows.now.gone in
    let places = c.skip_gone.new.self.places.items in
    let row = c.args.tuple.now in
    let some = some_any (agree_at places row) (live rows gone) (sym (c.is_agreed.ensures ∙ agreed_now c.deref-2.result.now places row c.count-count.result rows gone c.deref-2.ensures.value c.count-count.ensures.count c.count-count.ensures.marks) ∙ c.if-is_agreed.true) in
    let few = repeats_fewer (agree_at places) (live rows gone) some in
    let all = live_few rows gone in
    omega (arith, few, all, c.skip_gone.ensures.index.1, c.count-count.ensures.count, c.count-count.ensures.small)

pub returns-then-is_agreed-clause-index : goal.returns-then-is_agreed-clause-index
returns-then-is_agreed-clause-index c =
    let rows = c.args.rows.now.rows in
    let gone = c.args.rows.now.gone in
    let row = c.args.tuple.now in
    let ix = c.skip_gone.new.self in
    let places = ix.places.items in
    let hash = c.hash_at-hash.ensures ∙ ap (λ ps. part_hash ps row) (c.deref.ensures.value ∙ sym c.skip_gone.ensures.places) in (
      record {
        linked = subst (λ hs. AreLinked hs c.put_in-last.new.self.skipped.items c.put_in-last.new.self.last c.put_in-last.new.self.next.items)
            (ap (λ h. map (part_hash places) rows ++ h ∷ []) hash ∙ sym (map-append (part_hash places) rows (row ∷ [])))
            (c.put_in-last.ensures.linked (map (part_hash places) rows) c.skip_gone.ensures.index.0.linked);
        marked = put_marked ix.chains.skipped.items c.put_in-last.new.self.skipped.items gone false c.put_in-last.ensures.skipped c.skip_gone.ensures.index.0.marked;
      },
      (let one = repeats_more (agree_at places) (agree_laws places) (live rows gone) row in
          let more : ◌≡◌ {A = ℕ} (cond (list_any (agree_at places row) (live rows gone)) 1 0) 1 = ap (λ b. cond b 1 0) (sym (c.is_agreed.ensures ∙ agreed_now c.deref-2.result.now places row c.count-count.result rows gone c.deref-2.ensures.value c.count-count.ensures.count c.count-count.ensures.marks) ∙ c.if-is_agreed.true) in
          let is : ix.clashes.now + 1 ≡ repeats (agree_at places) (live rows gone ++ row ∷ []) = omega (arith, one, more, c.skip_gone.ensures.index.1) in
          is ∙ ap (repeats (agree_at places)) (sym (live_more rows gone row c.count-count.ensures.marks))),
    )

pub returns-else-is_agreed-clause-index : goal.returns-else-is_agreed-clause-index
returns-else-is_agreed-clause-index c =
    let rows = c.args.rows.now.rows in
    let gone = c.args.rows.now.gone in
    let row = c.args.tuple.now in
    let ix = c.skip_gone.new.self in
    let places = ix.places.items in
    let hash = c.hash_at-hash.ensures ∙ ap (λ ps. part_hash ps row) (c.deref.ensures.value ∙ sym c.skip_gone.ensures.places) in (
      record {
        linked = subst (λ hs. AreLinked hs c.put_in-last.new.self.skipped.items c.put_in-last.new.self.last c.put_in-last.new.self.next.items)
            (ap (λ h. map (part_hash places) rows ++ h ∷ []) hash ∙ sym (map-append (part_hash places) rows (row ∷ [])))
            (c.put_in-last.ensures.linked (map (part_hash places) rows) c.skip_gone.ensures.index.0.linked);
        marked = put_marked ix.chains.skipped.items c.put_in-last.new.self.skipped.items gone false c.put_in-last.ensures.skipped c.skip_gone.ensures.index.0.marked;
      },
      (let one = repeats_more (agree_at places) (agree_laws places) (live rows gone) row in
          let more : ◌≡◌ {A = ℕ} (cond (list_any (agree_at places row) (live rows gone)) 1 0) 0 = ap (λ b. cond b 1 0) (sym (c.is_agreed.ensures ∙ agreed_now c.deref-2.result.now places row c.count-count.result rows gone c.deref-2.ensures.value c.count-count.ensures.count c.count-count.ensures.marks) ∙ c.if-is_agreed.false) in
          let is : ix.clashes.now ≡ repeats (agree_at places) (live rows gone ++ row ∷ []) = omega (arith, one, more, c.skip_gone.ensures.index.1) in
          is ∙ ap (repeats (agree_at places)) (sym (live_more rows gone row c.count-count.ensures.marks))),
    )

pub is_agreed-requires-clause-chained : goal.is_agreed-requires-clause-chained
is_agreed-requires-clause-chained c =
    let rows = c.args.rows.now.rows in
    let row = c.args.tuple.now in
    let ix = c.skip_gone.new.self in
    let places = ix.places.items in
    let skipped = ix.chains.skipped.items in
    let n = c.count-count.result in
    let x = c.skip_gone.ensures.index.0 in
    let hash = c.hash_at-hash.ensures ∙ ap (λ ps. part_hash ps row) (c.deref.ensures.value ∙ sym c.skip_gone.ensures.places) in
    let many : length (map (part_hash places) rows) ≡ n = length-map rows (part_hash places) ∙ sym c.count-count.ensures.count in
    let long : length skipped ≡ n = x.linked.marks ∙ many in (
      skipped,
      x.marked,
      (let few : n ≤ length skipped = omega (arith, long) in few),
      chained_now c.deref-2.result.now places rows c.hash_at-hash.result n skipped c.put_in-last.new.self.skipped.items c.put_in-last.new.self.last c.put_in-last.new.self.next.items c.deref-3.result.now long
          (c.put_in-last.ensures.linked (map (part_hash places) rows) x.linked) c.put_in-last.ensures.skipped c.deref-2.ensures.value c.deref-3.ensures.value c.count-count.ensures.count,
      c.put_in-last.ensures.old ∙ x.linked.lasts c.hash_at-hash.result ∙ ap (latest (map (part_hash places) rows) skipped c.hash_at-hash.result) many
          ∙ ap (λ h. latest (map (part_hash places) rows) skipped h n) hash
          ∙ ap (λ ps. latest (map (part_hash ps) rows) skipped (part_hash ps row) n) (sym c.deref-2.ensures.value),
    )
