use Rattle.std.proofs.Common.{◌∙◌, ◌++◌, ◌∷◌, [], ap, get_or, map, subst, sym, take}
use Rattle.std.proofs.lemmas.List.{map-append, take_more}
use Rattle.std.specs.List.{All}
use Rattle.td_body.specs.code.KeyIndexes.{IsIndex}
use Rattle.td_body.specs.code.Members.{IsFresh, places_in}
use Rattle.td_body.proofs.News.{all_push, places_push}
use Rattle.td_body.proofs.hashed.filled.indexes_like.Goals as goal

pub loop-key-preserved : goal.loop-key-preserved
loop-key-preserved c =
    let old = c.loop-key.indexes.items in
    let x = c.in_ok-index.index in
    let i = c.loop-key.key-index in
    let keys = c.args.old.now in
    record {
      index = subst (All (IsIndex c.args.rows.now.rows c.args.rows.now.gone)) (sym c.in_ok-push.ensures.items) (all_push (IsIndex c.args.rows.now.rows c.args.rows.now.gone) old x c.loop-key.invariant.index c.in_ok-index.ensures.index);
      before = subst (All IsFresh) (sym c.in_ok-push.ensures.items) (all_push IsFresh old x c.loop-key.invariant.before c.in_ok-index.ensures.before);
      places = ap places_in c.in_ok-push.ensures.items ∙ places_push old x
          ∙ (λ j. c.loop-key.invariant.places j ++ (c.in_ok-index.ensures.places ∙ ap (λ k. k.places.items) c.key-item.is) j ∷ [])
          ∙ sym (map-append (λ k. k.places.items) (take i keys) (get_or keys i c.key-item.result ∷ [])) ∙ ap (map (λ k. k.places.items)) (sym (take_more keys i c.key-item.result c.loop-key-test.true));
    }

pub renewed-requires : goal.renewed-requires
renewed-requires c = subst (IsIndex c.args.old_rows.now.rows c.args.old_rows.now.gone) (sym c.key-item.is) (c.requires c.loop-key.key-index c.key-item.result c.loop-key-test.true)
