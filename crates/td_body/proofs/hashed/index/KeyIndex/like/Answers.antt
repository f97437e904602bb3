use Rattle.std.proofs.Common.{◌∙◌, ap, subst, sym, map}
use Rattle.td_body.specs.code.Chains.{AreLinked}
use Rattle.td_body.specs.code.Numbered.{live, repeats}
use Rattle.td_body.specs.code.KeyIndexes.{AreGone, agree_at}
use Rattle.td_body.specs.code.Hashes.{part_hash}
use Rattle.td_body.proofs.Likes.{hashes_like, repeats_live}
use Rattle.td_body.proofs.hashed.index.KeyIndex.like.Goals as goal

pub returns-clause-index : goal.returns-clause-index
returns-clause-index c = λ old rows old_gone gone ix values marks.
    let ps = c.args.self.now.places.items in
    let same = c.in_ok-places.ensures.items ∙ c.deref.ensures.value in (
      record {
        linked = subst (λ hs. AreLinked hs c.in_ok-chains.chains.skipped.items c.in_ok-chains.chains.last c.in_ok-chains.chains.next.items) (sym (hashes_like ps rows old values) ∙ ap (λ p. map (part_hash p) rows) (sym same))
            (c.in_ok-chains.ensures.linked (map (part_hash ps) old) ix.0.linked);
        marked = subst (λ ms. AreGone ms gone) (sym c.in_ok-chains.ensures.skipped) (subst (λ ms. AreGone c.args.self.now.chains.skipped.items ms) (sym marks) ix.0.marked);
      },
      c.of.ensures.now ∙ ix.1 ∙ sym (repeats_live ps rows old gone old_gone values marks) ∙ ap (λ p. repeats (agree_at p) (live rows gone)) (sym same),
    )
