use Rattle.std.proofs.Common.{◌≡◌, ◌≤◌, ℕ, ◌∙◌, arith, ap, cond, get_or, length, map, subst, sym}
use Rattle.std.proofs.lemmas.List.{length-map}
use Rattle.std.specs.List.{list_any}
use Rattle.td_body.specs.code.Chains.{AreChained, last_in, latest}
use Rattle.td_body.specs.code.Numbered.{live}
use Rattle.td_body.specs.code.KeyIndexes.{agree_at}
use Rattle.td_body.specs.code.Hashes.{part_hash}
use Rattle.td_body.proofs.Walks.{agree_laws, agreed_now, gone_set, repeats_marked, zero_marked}
use Rattle.td_body.proofs.hashed.index.KeyIndex.take_out.Goals as goal

pub returns-then-self-eq0-clause-index : goal.returns-then-self-eq0-clause-index
returns-then-self-eq0-clause-index c =
    let rows = c.args.rows.now.rows in
    let gone = c.args.rows.now.gone in
    let places = c.args.self.now.places.items in
    (record { linked = c.requires.index.0.linked; marked = gone_set c.args.self.now.chains.skipped.items gone c.args.number (omega (arith, c.requires.within, c.count-count.ensures.marks)) c.requires.index.0.marked }, c.if-self-eq0.true ∙ sym (zero_marked (agree_at places) (agree_laws places) rows gone c.args.number c.count-count.ensures.marks c.requires.within c.requires.marked (sym c.requires.index.1 ∙ c.if-self-eq0.true)))

pub returns-then-is_agreed-clause-index : goal.returns-then-is_agreed-clause-index
returns-then-is_agreed-clause-index c =
    let rows = c.args.rows.now.rows in
    let gone = c.args.rows.now.gone in
    let places = c.args.self.now.places.items in
    let row = c.row_at-row.result.now in
    let one = repeats_marked (agree_at places) (agree_laws places) rows gone c.args.number row c.count-count.ensures.marks c.requires.within c.requires.marked in
    let is : row ≡ get_or rows c.args.number row = c.row_at-row.ensures in
    let more : ◌≡◌ {A = ℕ} (cond (list_any (agree_at places (get_or rows c.args.number row)) (live rows gone)) 1 0) 1 =
    ap (λ r. cond (list_any (agree_at places r) (live rows gone)) 1 0) (sym is) ∙ ap (λ b. cond b 1 0) (sym (c.is_agreed.ensures ∙ agreed_now c.deref-2.result.now places row c.count-count.result rows gone c.deref-2.ensures.value c.count-count.ensures.count c.count-count.ensures.marks) ∙ c.if-is_agreed.true) in
    (record { linked = c.requires.index.0.linked; marked = gone_set c.args.self.now.chains.skipped.items gone c.args.number (omega (arith, c.requires.within, c.count-count.ensures.marks)) c.requires.index.0.marked }, omega (arith, one, more, c.requires.index.1))

pub returns-else-is_agreed-clause-index : goal.returns-else-is_agreed-clause-index
returns-else-is_agreed-clause-index c =
    let rows = c.args.rows.now.rows in
    let gone = c.args.rows.now.gone in
    let places = c.args.self.now.places.items in
    let row = c.row_at-row.result.now in
    let one = repeats_marked (agree_at places) (agree_laws places) rows gone c.args.number row c.count-count.ensures.marks c.requires.within c.requires.marked in
    let is : row ≡ get_or rows c.args.number row = c.row_at-row.ensures in
    let more : ◌≡◌ {A = ℕ} (cond (list_any (agree_at places (get_or rows c.args.number row)) (live rows gone)) 1 0) 0 =
    ap (λ r. cond (list_any (agree_at places r) (live rows gone)) 1 0) (sym is) ∙ ap (λ b. cond b 1 0) (sym (c.is_agreed.ensures ∙ agreed_now c.deref-2.result.now places row c.count-count.result rows gone c.deref-2.ensures.value c.count-count.ensures.count c.count-count.ensures.marks) ∙ c.if-is_agreed.false) in
    (record { linked = c.requires.index.0.linked; marked = gone_set c.args.self.now.chains.skipped.items gone c.args.number (omega (arith, c.requires.within, c.count-count.ensures.marks)) c.requires.index.0.marked }, omega (arith, one, more, c.requires.index.1))

pub is_agreed-requires-clause-chained : goal.is_agreed-requires-clause-chained
is_agreed-requires-clause-chained c =
    let rows = c.args.rows.now.rows in
    let gone = c.args.rows.now.gone in
    let ix = c.args.self.now in
    let places = ix.places.items in
    let skipped = ix.chains.skipped.items in
    let n = c.count-count.result in
    let row = c.row_at-row.result.now in
    let x = c.requires.index.0 in
    let many : length (map (part_hash places) rows) ≡ n = length-map rows (part_hash places) ∙ sym c.count-count.ensures.count in (
      skipped,
      gone_set skipped gone c.args.number (omega (arith, c.requires.within, c.count-count.ensures.marks)) x.marked,
      (let few : n ≤ length skipped = omega (arith, x.linked.marks, many) in few),
      subst (λ ps. AreChained (map (part_hash ps) rows) skipped n c.deref-3.result.now) (sym c.deref-2.ensures.value)
          (subst (λ ns. AreChained (map (part_hash places) rows) skipped n ns) (sym c.deref-3.ensures.value) (subst (λ k. AreChained (map (part_hash places) rows) skipped k ix.chains.next.items) many x.linked.links)),
      c.last-last.ensures ∙ ap (last_in ix.chains.last) (c.hash_at.ensures ∙ ap (λ ps. part_hash ps row) c.deref.ensures.value) ∙ x.linked.lasts (part_hash places row)
          ∙ ap (latest (map (part_hash places) rows) skipped (part_hash places row)) many
          ∙ ap (λ ps. latest (map (part_hash ps) rows) skipped (part_hash ps row) n) (sym c.deref-2.ensures.value),
    )
