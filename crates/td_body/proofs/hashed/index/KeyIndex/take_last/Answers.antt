use Rattle.std.proofs.Common.{◌∙◌, ◌∷◌, ◌++◌, [], ap, map, subst, sym}
use Rattle.std.proofs.lemmas.List.{length-map, map-append}
use Rattle.td_body.specs.code.Chains.{AreLinked}
use Rattle.td_body.specs.code.Hashes.{part_hash}
use Rattle.td_body.proofs.IndexMarks.{front_marked}
use Rattle.td_body.proofs.hashed.index.KeyIndex.take_last.Goals as goal

pub returns-clause-linked : goal.returns-clause-linked
returns-clause-linked c = λ rows gone e x.
    let ix = c.args.self.now in
    let places = ix.places.items in
    let row = c.args.tuple.now in
    let hash = c.hash_at.ensures ∙ ap (λ ps. part_hash ps row) c.deref.ensures.value in
    record {
      linked = c.take_last.ensures.linked (map (part_hash places) rows)
          (subst (λ hs. AreLinked hs ix.chains.skipped.items ix.chains.last ix.chains.next.items)
          (map-append (part_hash places) rows (row ∷ []) ∙ ap (λ h. map (part_hash places) rows ++ h ∷ []) (sym hash)) x.linked);
      marked = front_marked ix.chains.skipped.items c.take_last.new.self.skipped.items gone (x.linked.marks ∙ length-map (rows ++ row ∷ []) (part_hash places) ∙ sym e) c.take_last.ensures.skipped x.marked;
    }
