use Rattle.std.proofs.Common.{◌≡◌, ◌≤◌, ℕ, true, false, ◌∙◌, ◌+◌, ◌∷◌, ◌++◌, [], arith, ap, cond, get_or, length, map, not, subst, sym, take}
use Rattle.std.proofs.lemmas.List.{length-map, take_more}
use Rattle.std.specs.List.{list_any}
use Rattle.td_body.specs.code.Chains.{AreLinked, latest}
use Rattle.td_body.specs.code.Numbered.{live, repeats}
use Rattle.td_body.specs.code.KeyIndexes.{AreGone, agree_at}
use Rattle.td_body.specs.code.Hashes.{part_hash}
use Rattle.td_body.proofs.IndexMarks.{put_marked}
use Rattle.td_body.proofs.Lives.{repeats_more}
use Rattle.td_body.proofs.Walks.{agree_laws, chained_first, gone_taken, hashes_step, is_gone, is_there, latest_first, length_take_low, live_few_taken, live_step, live_step_gone, repeats_fewer, some_any}
use Rattle.td_body.proofs.hashed.index.KeyIndex.add.Goals as goal

pub is_agreed-requires-clause-chained : goal.is_agreed-requires-clause-chained
is_agreed-requires-clause-chained c =
    let places = c.args.self.now.places.items in
    let rows = c.args.rows.now.rows in
    let n = c.args.number in
    let row = c.row_at-row.result.now in
    let skipped = c.reserve.new.self.skipped.items in
    let few : n ≤ length rows = omega (arith, c.requires.within) in
    let linked = c.reserve.ensures.same (map (part_hash places) (take n rows)) c.requires.index.0.linked in
    let long : length skipped ≡ n = linked.marks ∙ length-map (take n rows) (part_hash places) ∙ length_take_low n rows few in (
      skipped,
      subst (λ ms. AreGone ms c.args.rows.now.gone) (sym c.reserve.ensures.marks) (gone_taken c.args.self.now.chains.skipped.items c.args.rows.now.gone n c.requires.index.0.marked),
      (let all : n ≤ length skipped = omega (arith, long) in all),
      chained_first c.deref-2.result.now places rows c.hash_at.result n skipped c.put_in-last.new.self.skipped.items c.put_in-last.new.self.last c.put_in-last.new.self.next.items c.deref-3.result.now long
          (c.put_in-last.ensures.linked (map (part_hash places) (take n rows)) linked) c.put_in-last.ensures.skipped c.deref-2.ensures.value c.deref-3.ensures.value few,
      c.put_in-last.ensures.old ∙ linked.lasts c.hash_at.result
          ∙ latest_first (part_hash places) rows skipped c.hash_at.result n few
          ∙ ap (λ h. latest (map (part_hash places) rows) skipped h n) (c.hash_at.ensures ∙ ap (λ ps. part_hash ps row) c.deref.ensures.value)
          ∙ ap (λ ps. latest (map (part_hash ps) rows) skipped (part_hash ps row) n) (sym c.deref-2.ensures.value),
    )

pub overflow_add-self : goal.overflow_add-self
overflow_add-self c =
    let rows = c.args.rows.now.rows in
    let gone = c.args.rows.now.gone in
    let places = c.args.self.now.places.items in
    let n = c.args.number in
    let row = c.row_at-row.result.now in
    let some = some_any (agree_at places row) (live (take n rows) (take n gone)) (ap (λ ps. list_any (agree_at ps row) (live (take n rows) (take n gone))) (sym c.deref-2.ensures.value) ∙ sym c.is_agreed.ensures ∙ c.if-is_agreed.true) in
    let few = repeats_fewer (agree_at places) (live (take n rows) (take n gone)) some in
    let all = live_few_taken n rows gone in
    omega (arith, few, all, c.requires.index.1, c.count-count.ensures.count, c.count-count.ensures.small)

pub returns-then-is_agreed-clause-index : goal.returns-then-is_agreed-clause-index
returns-then-is_agreed-clause-index c =
    let rows = c.args.rows.now.rows in
    let gone = c.args.rows.now.gone in
    let places = c.args.self.now.places.items in
    let n = c.args.number in
    let row = c.row_at-row.result.now in
    let there = is_there (get_or gone n true) c.is_live.result c.is_live.ensures c.if-not-is_live.false in (
      record {
        linked = subst (λ hs. AreLinked hs c.put_in-last.new.self.skipped.items c.put_in-last.new.self.last c.put_in-last.new.self.next.items)
            (ap (λ h. map (part_hash places) (take n rows) ++ h ∷ []) (c.hash_at.ensures ∙ ap (λ ps. part_hash ps row) c.deref.ensures.value) ∙ hashes_step (part_hash places) rows n row c.requires.within c.row_at-row.ensures)
            (c.put_in-last.ensures.linked (map (part_hash places) (take n rows)) (c.reserve.ensures.same _ c.requires.index.0.linked));
        marked = subst (λ ms. AreGone c.put_in-last.new.self.skipped.items ms) (sym (take_more gone n true (omega (arith, c.requires.within, c.count-count.ensures.marks))))
            (put_marked c.args.self.now.chains.skipped.items c.put_in-last.new.self.skipped.items (take n gone) (get_or gone n true) (c.put_in-last.ensures.skipped ∙ ap (λ ms. ms ++ false ∷ []) c.reserve.ensures.marks) c.requires.index.0.marked);
      },
      (let one = repeats_more (agree_at places) (agree_laws places) (live (take n rows) (take n gone)) row in
          let more : ◌≡◌ {A = ℕ} (cond (list_any (agree_at places row) (live (take n rows) (take n gone))) 1 0) 1 =
          ap (λ ps. cond (list_any (agree_at ps row) (live (take n rows) (take n gone))) 1 0) (sym c.deref-2.ensures.value) ∙ ap (λ b. cond b 1 0) (sym c.is_agreed.ensures ∙ c.if-is_agreed.true) in
          let is : c.args.self.now.clashes.now + 1 ≡ repeats (agree_at places) (live (take n rows) (take n gone) ++ row ∷ []) = omega (arith, one, more, c.requires.index.1) in
          is ∙ ap (λ r. repeats (agree_at places) (live (take n rows) (take n gone) ++ r ∷ [])) c.row_at-row.ensures ∙ ap (repeats (agree_at places)) (sym (live_step rows gone n row c.count-count.ensures.marks c.requires.within there))),
    )

pub returns-else-is_agreed-clause-index : goal.returns-else-is_agreed-clause-index
returns-else-is_agreed-clause-index c =
    let rows = c.args.rows.now.rows in
    let gone = c.args.rows.now.gone in
    let places = c.args.self.now.places.items in
    let n = c.args.number in
    let row = c.row_at-row.result.now in
    let there = is_there (get_or gone n true) c.is_live.result c.is_live.ensures c.if-not-is_live.false in (
      record {
        linked = subst (λ hs. AreLinked hs c.put_in-last.new.self.skipped.items c.put_in-last.new.self.last c.put_in-last.new.self.next.items)
            (ap (λ h. map (part_hash places) (take n rows) ++ h ∷ []) (c.hash_at.ensures ∙ ap (λ ps. part_hash ps row) c.deref.ensures.value) ∙ hashes_step (part_hash places) rows n row c.requires.within c.row_at-row.ensures)
            (c.put_in-last.ensures.linked (map (part_hash places) (take n rows)) (c.reserve.ensures.same _ c.requires.index.0.linked));
        marked = subst (λ ms. AreGone c.put_in-last.new.self.skipped.items ms) (sym (take_more gone n true (omega (arith, c.requires.within, c.count-count.ensures.marks))))
            (put_marked c.args.self.now.chains.skipped.items c.put_in-last.new.self.skipped.items (take n gone) (get_or gone n true) (c.put_in-last.ensures.skipped ∙ ap (λ ms. ms ++ false ∷ []) c.reserve.ensures.marks) c.requires.index.0.marked);
      },
      (let one = repeats_more (agree_at places) (agree_laws places) (live (take n rows) (take n gone)) row in
          let more : ◌≡◌ {A = ℕ} (cond (list_any (agree_at places row) (live (take n rows) (take n gone))) 1 0) 0 =
          ap (λ ps. cond (list_any (agree_at ps row) (live (take n rows) (take n gone))) 1 0) (sym c.deref-2.ensures.value) ∙ ap (λ b. cond b 1 0) (sym c.is_agreed.ensures ∙ c.if-is_agreed.false) in
          let is : c.args.self.now.clashes.now ≡ repeats (agree_at places) (live (take n rows) (take n gone) ++ row ∷ []) = omega (arith, one, more, c.requires.index.1) in
          is ∙ ap (λ r. repeats (agree_at places) (live (take n rows) (take n gone) ++ r ∷ [])) c.row_at-row.ensures ∙ ap (repeats (agree_at places)) (sym (live_step rows gone n row c.count-count.ensures.marks c.requires.within there))),
    )

pub returns-then-not-is_live-clause-index : goal.returns-then-not-is_live-clause-index
returns-then-not-is_live-clause-index c =
    let rows = c.args.rows.now.rows in
    let gone = c.args.rows.now.gone in
    let places = c.args.self.now.places.items in
    let n = c.args.number in
    let row = c.row_at-row.result.now in
    let there = is_gone (get_or gone n true) c.is_live.result c.is_live.ensures (ap not c.if-not-is_live.true) in (
      record {
        linked = subst (λ hs. AreLinked hs c.put_in-last.new.self.skipped.items c.put_in-last.new.self.last c.put_in-last.new.self.next.items)
            (ap (λ h. map (part_hash places) (take n rows) ++ h ∷ []) (c.hash_at.ensures ∙ ap (λ ps. part_hash ps row) c.deref.ensures.value) ∙ hashes_step (part_hash places) rows n row c.requires.within c.row_at-row.ensures)
            (c.put_in-last.ensures.linked (map (part_hash places) (take n rows)) (c.reserve.ensures.same _ c.requires.index.0.linked));
        marked = subst (λ ms. AreGone c.put_in-last.new.self.skipped.items ms) (sym (take_more gone n true (omega (arith, c.requires.within, c.count-count.ensures.marks))))
            (put_marked c.args.self.now.chains.skipped.items c.put_in-last.new.self.skipped.items (take n gone) (get_or gone n true) (c.put_in-last.ensures.skipped ∙ ap (λ ms. ms ++ false ∷ []) c.reserve.ensures.marks) c.requires.index.0.marked);
      },
      c.requires.index.1 ∙ ap (repeats (agree_at places)) (sym (live_step_gone rows gone n row c.count-count.ensures.marks c.requires.within there)),
    )
